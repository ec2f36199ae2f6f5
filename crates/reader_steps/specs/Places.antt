-- The places of a reader: which row is wanted there, and where the reader is after a row fed or drawn. Numbers alone, nothing of what stands in its store.
-- f is the number of the filter, by which the sets that a row needs go.
-- Where it is: rows of set `set` of `level` are collected, and `band` is the code of the first band that may be next. At level 0 height row `set` can be drawn.
use Rattle.std.specs.Prelude.{◌≡◌, Bool, true, ℕ, zero, suc, ◌+◌, ◌-◌, ◌≤◌, leb, ltb, eqb}
use Rattle.numbers.specs.Signal.{pick, both}
use Rattle.lifting.specs.Line.{lo}
use Rattle.lifting.specs.Grid.{Side}
use Rattle.wavelet.specs.Levels.{next, side_at}
use Rattle.wavelet.specs.Order.{first_set, last_set}
use Rattle.wavelet.specs.Steps.{sets_before}
use Rattle.level.specs.Sets.{opens}
use Rattle.reader_steps.specs.Sets.{ahead, has_row, row_of, needed, makes, waiting, waits_at}
use Rattle.reader_steps.specs.Asked.{next_band}

-- columns and rows that have a number between them: "a level may be empty, after which no further level has rows"
unfoldable pub has_cells : Side → Side → Bool
has_cells W H = both (ltb 0 W.length) (ltb 0 H.length)

-- the sets of a level: an empty level has none, nor has a level one after its last
unfoldable pub has_set : Side → Side → ℕ → Bool
has_set W H n = both (has_cells W H) (leb n (last_set H))

-- a level, one of its sets, and a band of it
pub record Spot : Type 0 where
  pub level : ℕ
  pub set : ℕ
  pub band : ℕ

abbrev pub spot : ℕ → ℕ → ℕ → Spot
spot k n b = record { level = k; set = n; band = b }

-- Where number n of level k begins, which takes row r of level k's low-low part, of the columns W and the rows H, with m levels left: at the first set that no
-- row before r needs, if there is one, and past each level whose set so needs another. A set of a high row alone needs none; the last level starts with its LL
-- row; an empty level has nothing to ask for.
unfoldable pub descend : ℕ → ℕ → ℕ → Side → Side → ℕ → ℕ → Spot
descend f zero k W H n r = spot k n 0
descend f (suc m) k W H n r =
    pick (both (has_cells W H) (opens (ahead f) H r))
    (pick (leb (first_set H lo) (sets_before (ahead f) H r))
    (descend f m (suc k) (next W) (next H) (sets_before (ahead f) H r) (sets_before (ahead f) H r - first_set H lo))
    (spot (suc k) (sets_before (ahead f) H r) 1))
    (spot k n 1)

-- of a map of the columns W and the rows H at L levels
module _ (W H : Side) (L : ℕ) where
  -- the first band from code b on that set n of level k + 1 asks for, 4 if there is none
  unfoldable pub band_at : ℕ → ℕ → ℕ → ℕ
  band_at k n b = next_band (eqb (suc k) L) (side_at k W) (side_at k H) n b

  -- the row with band code c completes set n of level k + 1: no band after it is asked for
  unfoldable pub last_of_set : ℕ → ℕ → ℕ → Bool
  last_of_set k n c = leb 4 (band_at k n (c + 1))

module _ (f : ℕ) (W H : Side) (L : ℕ) where
  -- where number n of level k begins
  unfoldable pub begins : ℕ → ℕ → Spot
  begins k n = pick (has_row H k n) (descend f (L - k) k (side_at k W) (side_at k H) n (row_of H k n)) (spot k n 1)

  -- The row wanted: the first of this level's set, or of the next finer one that waits and asks for one. Level 0: none, a height row can be drawn.
  unfoldable pub next_up : ℕ → ℕ → ℕ → Spot
  next_up zero n b = spot 0 0 4
  next_up (suc k) n b = pick (ltb (band_at W H L k n b) 4) (spot (suc k) n (band_at W H L k n b)) (next_up k (waiting f H k n) 1)

  -- Past a set that is completed: to the next finer level, if a row is made that waits; else to where the next set begins.
  unfoldable pub past : ℕ → ℕ → Spot
  past k n = pick (makes f (side_at k H) n) (spot k (waiting f H k n) 1) (begins (suc k) (suc n))

  -- after the row with band code c, and after a row wanted at any place
  unfoldable pub beyond : ℕ → ℕ → ℕ → Spot
  beyond k n c = pick (last_of_set W H L k n c) (past k n) (spot (suc k) n (c + 1))

  unfoldable pub spot_fed : ℕ → ℕ → ℕ → Spot
  spot_fed zero n c = spot 0 0 4
  spot_fed (suc k) n c = beyond k n c

-- where height row d begins
unfoldable pub enter : ℕ → Side → Side → ℕ → ℕ → Spot
enter f W H L d = descend f L 0 W H d d

-- ---- a place as a state keeps it, while row d is waited for: the set is so many before the last of its level that row d needs
pub record Place : Type 0 where
  pub level : ℕ
  pub back : ℕ
  pub band : ℕ

abbrev pub place : ℕ → ℕ → ℕ → Place
place k a b = record { level = k; back = a; band = b }

module _ (f : ℕ) (H : Side) (d : ℕ) where
  abbrev pub spot_of : Place → Spot
  spot_of p = spot p.level (needed f H 0 d p.level - p.back) p.band

  abbrev pub place_of : Spot → Place
  place_of q = place q.level (needed f H 0 d q.level - q.set) q.band

-- ---- a place at which a reader can be, of a map of the columns W and the rows H at L levels while row d is waited for: the set collected is one that row d
-- waits for, of a level that is not empty; and if it asks for no more, it makes the row that waits for it
pub record Ready (f : ℕ) (W H : Side) (L d : ℕ) (q : Spot) : Type 0 where
  pub top : waits_at f H q.level q.set 0 ≡ d
  pub cells : (k : ℕ) → suc k ≡ q.level → has_cells (side_at k W) (side_at k H) ≡ true
  pub there : (k : ℕ) → suc k ≡ q.level → q.set ≤ last_set (side_at k H)
  pub asks : (k : ℕ) → suc k ≡ q.level → band_at W H L k q.set q.band ≡ 4 → makes f (side_at k H) q.set ≡ true
