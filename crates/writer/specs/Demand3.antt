-- Demand 3 for the writer: document 01, "The lists of demand 3". One claim about a whole list of calls on a fresh writer and its line store,
-- by the calls' arguments and answers alone. The writer's filter has the number f, its columns are W, its rows start at coordinate s, and it has L levels.
-- Document 02, Q-8: the rows, their order and their values are those of the filter.
use Rattle.std.specs.Prelude.{◌≡◌, Bool, true, false, not, List, [], ◌∷◌, ◌++◌, map, ℕ, suc, ◌+◌, ◌-◌, ◌*◌, ◌/◌, ◌%◌, ◌≤◌, ◌<◌, pos, length, take, drop, get_or, leb, ltb, eqb}
use Rattle.numbers.specs.Signal.{pick, both}
use Rattle.numbers.specs.Word.{whole}
use Rattle.lifting.specs.Grid.{Side, side}
use Rattle.wavelet.specs.Limits.{max_height, max_sample}
use Rattle.wavelet.specs.Bands.{Grid, Band, code}
use Rattle.wavelet.specs.Maps.{IsMap}
use Rattle.wavelet.specs.Questions.{ask}
use Rattle.wavelet.specs.Order.{RowName, times, made}
use Rattle.wavelet.specs.Levels.{level_band}
use Rattle.wavelet.specs.View.{band_columns}
use Rattle.wavelet.specs.ViewCall.{band_row_exists}
use Rattle.calls.specs.Lists.{Reply, gives, refused, unless, Area, All}
use Rattle.filters.specs.Filters.{filter_of}
use Rattle.filters.specs.Figures.{writer_store_by}
use Rattle.writer.specs.declared.BandRow.{BandRow}
use Rattle.writer.specs.Questions.{either}
use Rattle.writer.specs.History.{Call, offer, draw, finish, look, Given, row, none, Event, offered, drew, finished, looked}
use Rattle.writer.specs.History.{taken, finished_by, DrawnRow, drawn}

-- "Made: the rows that the writer's rules make of the whole rows taken and, once a finish passed, of the finish, in the order of those rules."
unfoldable pub whole_rows : Side → List Event → ℕ
whole_rows W es = length (taken es) / W.length

unfoldable pub made_of : ℕ → Side → ℕ → ℕ → List Event → List RowName
made_of f W s L es = made (filter_of f).ahead W s L (whole_rows W es) (finished_by es)

-- "Waiting: made and not drawn."
unfoldable pub waiting_of : ℕ → Side → ℕ → ℕ → List Event → List RowName
waiting_of f W s L es = drop (length (drawn es)) (made_of f W s L es)

-- a name as an answer gives it
abbrev pub answered : Side → RowName → BandRow
answered W x = record { level = x.level; band = code x.band; row = x.row; length = band_columns W x.level x.band }

-- what a look at the rows that wait answers: the first of them, or level 0
abbrev pub next_row : Side → List RowName → BandRow
next_row W [] = record { level = 0; band = 0; row = 0; length = 0 }
next_row W (x ∷ l) = answered W x

-- ---- "A map begins with them if it fits the set-up, has H within the limit, and has these heights first"
pub record Begins (W : Side) (H : ℕ) (g : Grid) (es : List Event) : Type 0 where
  pub some : 1 ≤ H
  pub limit : H ≤ max_height
  pub map : IsMap W.length H g
  pub within : length (taken es) ≤ W.length * H
  pub heights : (r c : ℕ) → c < W.length → r * W.length + c < length (taken es) → g r c ≡ pos (get_or (taken es) (r * W.length + c) 0)

-- and once a finish passed, it is they
pub record MapOf (W : Side) (H : ℕ) (g : Grid) (es : List Event) : Type 0 where
  pub begins : Begins W H g es
  pub all : finished_by es ≡ true → length (taken es) ≡ W.length * H

-- the values of a drawn row are the map's by the filter, whole numbers
pub record HasValues (f : ℕ) (W : Side) (s H : ℕ) (g : Grid) (d : DrawnRow) : Type 0 where
  pub are : (b : Band) → d.row.band ≡ code b → (i : ℕ) → i < d.row.length →
      d.values i ≡ level_band (filter_of f) whole W (side s H) g d.row.level b d.row.row i

-- "The rows drawn then are exactly the plane's band rows, each once."
pub record PlaneDrawn (W : Side) (s L : ℕ) (es : List Event) : Type 0 where
  -- their names
  pub names : List RowName
  pub answers : map (λ d. d.row) (drawn es) ≡ map (answered W) names
  -- a name is among them once if the plane has such a band row, and else not
  pub once : (x : RowName) → times x names ≡ pick (band_row_exists W (side s (whole_rows W es)) L x.level x.band x.row) 1 0

-- ---- the next call
abbrev pub is_none : {A : Type 0} → List A → Bool
is_none [] = true
is_none (x ∷ l) = false

-- question 5: a line store of n numbers is as long as is needed
abbrev pub is_long : ℕ → Side → ℕ → ℕ → Bool
is_long f W L n = leb (writer_store_by f W L) n

-- a draw into an area of k numbers: "Nothing is answered exactly when none waits." Else the next row that waits, or 12
abbrev pub draw_gives : Side → List RowName → ℕ → Reply Given
draw_gives W [] k = gives none
draw_gives W (x ∷ l) k = pick (leb (band_columns W x.level x.band) k) (gives (row (answered W x))) (refused 12)

-- lent a store of n numbers: 5, or that
unfoldable pub draw_says : ℕ → Side → ℕ → ℕ → List Event → ℕ → ℕ → Reply Given
draw_says f W s L es n k = pick (is_long f W L n) (draw_gives W (waiting_of f W s L es) k) (refused 5)

-- how many numbers of the output area it writes
abbrev pub written : Reply Given → ℕ
written (gives (row r)) = r.length
written (gives none) = 0
written (refused q) = 0

-- what is seen of it: the answer, and the output area afterwards, its surplus untouched
pub record DrawSeen (f : ℕ) (W : Side) (s L : ℕ) (es : List Event) (n : ℕ) (a : Area) (e : Event) : Type 0 where
  pub area : Area
  pub says : e ≡ drew a (draw_says f W s L es n a.size) area
  pub size_is : area.size ≡ a.size
  pub surplus : (i : ℕ) → written (draw_says f W s L es n a.size) ≤ i → area.numbers i ≡ a.numbers i

-- Document 02, Q-2. While rows wait, one row of heights more is taken. It is complete where rows wait of those that the whole rows before it make: before a
-- row is taken else, all that these make is drawn.
unfoldable pub spare_full : ℕ → Side → ℕ → ℕ → List Event → Bool
spare_full f W s L es =
    both (not (is_none (waiting_of f W s L es)))
    (not (is_none (drop (length (drawn es)) (made (filter_of f).ahead W s L (whole_rows W es - 1) false))))

-- after j heights more an offer takes on. None waiting: no row would wait, and the row limit is not reached. While rows wait: that row is not complete
unfoldable pub takes_on : ℕ → Side → ℕ → ℕ → List Event → ℕ → Bool
takes_on f W s L es j =
    pick (is_none (waiting_of f W s L es))
    (both (is_none (drop (length (drawn es)) (made (filter_of f).ahead W s L ((length (taken es) + j) / W.length) false)))
    (ltb ((length (taken es) + j) / W.length) max_height))
    (both (not (spare_full f W s L es)) (ltb (length (taken es) % W.length + j) W.length))

-- an offer of k heights: 5, 9, 10, or it takes "heights until a band row waits, the row limit is reached or the run is used up"; while rows wait, until that
-- row is complete
unfoldable pub offer_turned : ℕ → Side → ℕ → ℕ → List Event → ℕ → ℕ → ℕ
offer_turned f W s L es n k =
    ask (is_long f W L n) 5
    (ask (not (finished_by es)) 9
    (ask (either (eqb k 0) (ltb (whole_rows W es) max_height)) 10
    0))

pub record Takes (f : ℕ) (W : Side) (s L : ℕ) (es : List Event) (k n : ℕ) : Type 0 where
  pub most : n ≤ k
  -- "with that row complete the offer takes 0, else the progress promise holds with rows waiting too"
  pub some : 0 < k → spare_full f W s L es ≡ false → 0 < n
  pub until : (j : ℕ) → j < n → takes_on f W s L es j ≡ true
  pub stop : n < k → takes_on f W s L es n ≡ false

-- a finish: 5, 9, 8, 11
unfoldable pub finish_turned : ℕ → Side → ℕ → ℕ → List Event → ℕ → ℕ
finish_turned f W s L es n =
    ask (is_long f W L n) 5
    (ask (not (finished_by es)) 9
    (ask (is_none (waiting_of f W s L es)) 8
    (ask (both (ltb 0 (whole_rows W es)) (eqb (length (taken es) % W.length) 0)) 11
    0)))

-- ---- the claim, of the events es of any list of calls; `then` is what would be seen of a further call
pub record Demand3 (f : ℕ) (W : Side) (s L : ℕ) (es : List Event) (then : Call → Event) : Type 0 where
  -- the rows drawn, then those waiting, are the rows made, in the order of the rules; each is answered with its level, band, number, length
  pub in_order : map (λ d. d.row) (drawn es) ++ map (answered W) (waiting_of f W s L es) ≡ map (answered W) (made_of f W s L es)
  -- they have the values of every map that begins with the heights taken: until a finish passes all of them, then those made before it;
  -- of the map that was finished all of them
  pub values : (H : ℕ) (g : Grid) → MapOf W H g es → All (HasValues f W s H g) (drawn es)
  pub early_values : (H : ℕ) (g : Grid) → Begins W H g es →
      All (HasValues f W s H g) (take (length (made (filter_of f).ahead W s L (whole_rows W es) false)) (drawn es))
  -- and are the first in that map's order
  pub first : (H : ℕ) (g : Grid) → MapOf W H g es →
      (r : List RowName) × (map (λ d. d.row) (drawn es) ++ map (answered W) r ≡ map (answered W) (made (filter_of f).ahead W s L H true))
  -- there is such a map, the heights taken being 16-bit numbers
  pub some_map : All (λ h. h ≤ max_sample) (taken es) → (H : ℕ) × (g : Grid) × MapOf W H g es
  -- once finished, the heights taken are a map
  pub finished_map : finished_by es ≡ true →
      (1 ≤ whole_rows W es) × (whole_rows W es ≤ max_height) × (length (taken es) ≡ W.length * whole_rows W es)
  -- and once none waits, the rows drawn are its plane's band rows, each once
  pub all_drawn : finished_by es ≡ true → waiting_of f W s L es ≡ [] → PlaneDrawn W s L es
  -- a draw, lent a store of n numbers
  pub draws : (n : ℕ) (a : Area) → DrawSeen f W s L es n a (then (draw n a))
  -- an offer
  pub offers_turned : (n : ℕ) (run : List ℕ) (q : ℕ) → offer_turned f W s L es n (length run) ≡ suc q → then (offer n run) ≡ offered run (refused (suc q))
  pub offers_taken : (n : ℕ) (run : List ℕ) → offer_turned f W s L es n (length run) ≡ 0 →
      (k : ℕ) × (then (offer n run) ≡ offered run (gives k)) × Takes f W s L es (length run) k
  -- a finish
  pub finishes : (n : ℕ) → then (finish n) ≡ finished (unless (finish_turned f W s L es n) tt)
  -- a look
  pub looks : then look ≡ looked (gives (next_row W (waiting_of f W s L es)))
