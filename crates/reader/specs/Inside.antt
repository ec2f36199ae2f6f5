-- What the private functions of the reader require and ensure of each other. No public contract cites it.
use Rattle.std.specs.Prelude.{◌≡◌, Bool, true, false, not, ℕ, suc, ◌+◌, ◌-◌, ◌*◌, ◌≤◌, ◌<◌, ◌^◌, ℤ, eqb}
use Rattle.wavelet.specs.Limits.{max_width, max_height, max_levels, max_origin}
use Rattle.lifting.specs.Grid.{Side}
use Rattle.filters.specs.Filters.{filter_of, is_filter}
use Rattle.wavelet.specs.Levels.{side_at}
use Rattle.wavelet.specs.Questions.{ask}
use Rattle.reader.specs.declared.Reader.{Reader}
use Rattle.reader.specs.declared.walk.Level.{Level}
use Rattle.reader_steps.specs.declared.places.Spot.{Spot}
use Rattle.reader.specs.declared.walk.Next.{Next}
use Rattle.reader_steps.specs.Sets.{ahead, needed}
use Rattle.reader.specs.Store.{stretch_at}
use Rattle.reader_steps.specs.Places.{last_of_set}
use Rattle.reader_steps.specs.Places as machine
use Rattle.reader.specs.Admission.{Admits}
use Rattle.reader.specs.State.{columns, rows, needs, spot_now, next, next_length, row_due}
use Rattle.reader.specs.Questions.{store_fits, run_fits}

-- ---- a reader and its places
-- every count is inside its range
pub record Counts (s : Reader) : Type 0 where
  pub wide : (1 ≤ s.width) × (s.width ≤ max_width)
  pub high : (1 ≤ s.height) × (s.height ≤ max_height)
  pub known : is_filter s.filter ≡ true
  pub deep : (1 ≤ s.levels) × (s.levels ≤ (filter_of s.filter).levels)
  pub few : s.levels ≤ max_levels
  pub across : s.x ≤ max_origin
  pub down : s.y ≤ max_origin
  pub drew : s.drawn ≤ s.height
  pub at : s.level ≤ s.levels
  pub next : s.band ≤ 4
  pub behind : s.back ≤ 2 * ahead s.filter - 1
  pub stops : s.stop + s.levels ≤ (filter_of s.filter).levels
  pub spares : s.spare ≤ 2 ^ 32
  pub admits : Admits s.admission s.filter s.stop (columns s) (rows s)
  pub goes : 0 < s.admission → s.ended ≡ false

-- a map's columns and rows while row d is waited for: sizes so small that no place in memory overflows
abbrev pub Small : Side → Side → ℕ → Type 0
Small W H d = (W.length ≤ 2 ^ 16) × (W.start ≤ 2 ^ 16) × (H.length < 2 ^ 32) × (H.start ≤ 2 ^ 16) × (d ≤ H.length)

-- l is level k + 1 of that map, at a set, and has the last set that row d needs
pub record IsLevel (f : ℕ) (W H : Side) (d k : ℕ) (l : Level) : Type 0 where
  pub start : l.start ≡ stretch_at f W k
  pub x : l.x ≡ (side_at k W).start
  pub width : l.width ≡ (side_at k W).length
  pub y : l.y ≡ (side_at k H).start
  pub height : l.height ≡ (side_at k H).length
  pub set : l.set ≤ 2 ^ 32
  pub last : l.last ≡ needed f H 0 d (suc k)

-- at the last set that row d of the map needs
pub record IsAt (f : ℕ) (W H : Side) (d k : ℕ) (l : Level) : Type 0 where
  pub level : IsLevel f W H d k l
  pub now : l.set ≡ needed f H 0 d (suc k)

-- p is a place
pub record Is (q : machine.Spot) (p : Spot) : Type 0 where
  pub level : p.level ≡ q.level
  pub set : p.set ≡ q.set
  pub band : p.band ≡ q.band

-- n is a place, and its level, at its set, if it has one
pub record IsNext (f : ℕ) (W H : Side) (d : ℕ) (q : machine.Spot) (n : Next) : Type 0 where
  pub spot : Is q n.spot
  pub at : 0 < n.spot.level → IsLevel f W H d (n.spot.level - 1) n.at
  pub set : 0 < n.spot.level → n.at.set ≡ n.spot.set

-- l is the level that is collected, at its set
abbrev pub Collected : Reader → Level → Type 0
Collected s l = IsLevel s.filter (columns s) (rows s) s.drawn (s.level - 1) l × (l.set ≡ (spot_now s).set)

-- n is the row wanted; t says whether it completes its set
abbrev pub Due : Reader → Next → Type 0
Due s n = IsNext s.filter (columns s) (rows s) s.drawn (next s) n

abbrev pub Completing : Reader → Next → Bool → Type 0
Completing s n t = t ≡ last_of_set (columns s) (rows s) s.levels (n.spot.level - 1) n.at.set n.spot.band

-- the questions of a feed or a draw that the store's length and the state answer after question 1, and those of a feed that the run answers
unfoldable pub store_question : Reader → ℕ → ℕ
store_question s n = ask (store_fits (needs s) n) 5 (ask (not s.ended) 9 0)

unfoldable pub row_question : Reader → ℕ → (ℕ → ℤ) → ℕ
row_question s m v = ask (row_due s) 8 (ask (eqb m (next_length s)) 13 (ask (run_fits s.filter (s.stop + (next s).level) m v) 7 0))
