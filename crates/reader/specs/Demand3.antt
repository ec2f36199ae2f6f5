-- Demand 3 for the reader: document 01, "The lists of demand 3". One claim about a whole list of calls on a fresh reader and its line store.
-- "The words below go by the calls' arguments and answers, by nothing in the state.": what was fed, what was drawn and how far the steps are gone are functions
-- of the list of events alone.
-- It is stated over a base level b, for Q-6: the columns W, the rows H and the L levels are those of level b of a map, rows are named by their levels from
-- there
-- on, and e numbers of the store are spare. A base of 0, with nothing spare, is the whole map of document 01. The claim is the strict reader's; document 02,
-- Q-10: "Demand 3 is for the strict reader."
use Rattle.std.specs.Prelude.{◌≡◌, ◌↔◌, Bool, true, false, List, [], ◌∷◌, ◌++◌, ℕ, zero, suc, ◌+◌, ◌-◌, ◌≤◌, ◌<◌, ℤ, pos, nat_abs, length, get_or, leb, eqb}
use Rattle.numbers.specs.Signal.{pick, both}
use Rattle.numbers.specs.Word.{whole}
use Rattle.lifting.specs.Grid.{Side}
use Rattle.lifting.specs.Filter.{Filter}
use Rattle.filters.specs.Filters.{filter_of}
use Rattle.wavelet.specs.Limits.{range}
use Rattle.wavelet.specs.Bands.{Grid, code, down}
use Rattle.wavelet.specs.Maps.{IsMap}
use Rattle.wavelet.specs.Levels.{side_at, level_band}
use Rattle.wavelet.specs.View.{band_columns}
use Rattle.wavelet.specs.ViewCall.{band_row_exists}
use Rattle.wavelet.specs.Order.{first_set, RowName, in_turn, times}
use Rattle.wavelet.specs.Steps.{steps, Step, band_rows_of, height_rows_of}
use Rattle.wavelet.specs.Questions.{ask}
use Rattle.wavelet.specs.Steps as step
use Rattle.calls.specs.Lists.{Reply, gives, refused, Area, All, gathered, ever}
use Rattle.calls.specs.Lists as lists
use Rattle.reader.specs.declared.Reader.{Reader}
use Rattle.reader_steps.specs.Sets.{ahead, has_row}
use Rattle.reader.specs.Rebuilt.{Rows, SetFits, SetsFit}
use Rattle.reader.specs.Answers.{Want, row, draw_now, done, ended, Handed, a_row}
use Rattle.reader.specs.Answers as answer
use Rattle.filters.specs.Figures.{store_by}
use Rattle.reader.specs.Limited.{drawn_as}
use Rattle.reader.specs.Store.{zeroed}
use Rattle.reader.specs.Questions.{run_fits, store_fits}
use Rattle.reader.specs.Reading.{counts_fit, want_question, feed_question, draw_question}
use Rattle.reader.specs.Reading.{want_reply, feed_reply, feed_store, draw_reply, draw_store, draw_area}
use Rattle.reader.specs.Calls.{fresh_by}

-- b and n together; a base of 0 leaves n as it is
abbrev pub on_top : ℕ → ℕ → ℕ
on_top zero n = n
on_top (suc b) n = suc b + n

-- ---- calls, and what is seen of them
-- a call with its arguments; the number is the length of the line store that it is lent, in each call its own, long enough or not. A want is lent none.
pub data Call : Type 0 where
  want : Call
  feed : ℕ → Area → Call
  draw : ℕ → Area → Call

-- what a draw gives: so many heights in the output area, or Nothing
pub data Given : Type 0 where
  heights : ℕ → Given
  nothing : Given

-- a call's run or area, its answer, and after a draw the output area
pub data Event : Type 0 where
  wanted : Reply Want → Event
  fed : Area → Reply (Unit {0}) → Event
  drew : Area → Reply Given → Area → Event

-- an answer, less the state: 14 is a number too
abbrev pub said : {A B : Type 0} → (A → B) → answer.Reply A → Reply B
said f (answer.gives v) = gives (f v)
said f (answer.refused q) = refused q
said f (answer.impossible s) = refused 14

abbrev pub given : Handed → Given
given (a_row n s) = heights n
given answer.nothing = nothing

-- ---- each call is made on the state and store that the one before left. Of the store it is lent the first numbers, as many as it says.
pub record World : Type 0 where
  pub reader : Reader
  pub store : ℕ → ℤ

-- the state that a call leaves: its own before where it was turned away or gave Nothing
abbrev pub leaves : {A : Type 0} → (A → Reader) → Reader → answer.Reply A → Reader
leaves f s (answer.gives v) = f v
leaves f s (answer.refused q) = s
leaves f s (answer.impossible t) = t

abbrev pub drawn_to : Reader → Handed → Reader
drawn_to s (a_row n t) = t
drawn_to s answer.nothing = s

module _ (w : World) (n : ℕ) where
  -- the number of the question that turns a feed or a draw away, which is lent a store of n numbers
  abbrev pub feed_asked : Area → ℕ
  feed_asked a = feed_question w.reader n w.store a.size a.numbers

  abbrev pub draw_asked : Area → ℕ
  draw_asked a = draw_question w.reader n w.store a.size

  abbrev pub area_after : Area → Area
  area_after a = record { size = a.size; numbers = draw_area w.reader (draw_asked a) w.store a.numbers }

unfoldable pub event : Call → World → Event
event want w = wanted (said (λ v. v) (want_reply w.reader (want_question w.reader)))
event (feed n a) w = fed a (said (λ _. tt) (feed_reply w.reader (feed_asked w n a)))
event (draw n a) w = drew a (said given (draw_reply w.reader (draw_asked w n a))) (area_after w n a)

unfoldable pub next : Call → World → World
next want w = w
next (feed n a) w =
    record {
      reader = leaves (λ t. t) w.reader (feed_reply w.reader (feed_asked w n a));
      store = feed_store w.reader (feed_asked w n a) a.numbers w.store;
    }
next (draw n a) w =
    record {
      reader = leaves (drawn_to w.reader) w.reader (draw_reply w.reader (draw_asked w n a));
      store = draw_store w.reader (draw_asked w n a) w.store;
    }

abbrev pub events : List Call → World → List Event
events = lists.events event next

abbrev pub final : List Call → World → World
final = lists.final next

-- "Fresh means the state and line store of a set-up that passed": of the filter f, the columns W and the rows H at L levels, on a store in which x stood; k is
-- the admission
abbrev pub world_by : ℕ → ℕ → ℕ → ℕ → Side → Side → ℕ → (ℕ → ℤ) → World
world_by k f b e W H L x = record { reader = fresh_by k f b e W H L; store = zeroed (on_top e (store_by f W L)) x }

-- of a strict reader
abbrev pub fresh_world : ℕ → ℕ → ℕ → Side → Side → ℕ → (ℕ → ℤ) → World
fresh_world f b e W H L x = world_by 0 f b e W H L x

-- ---- how far the steps are gone
-- one step on: a feed that passed, a draw that gave a row
unfoldable pub goes_on : Event → Bool
goes_on (wanted v) = false
goes_on (fed a (gives u)) = true
goes_on (fed a (refused q)) = false
goes_on (drew a (gives (heights n)) b) = true
goes_on (drew a (gives nothing) b) = false
goes_on (drew a (refused q) b) = false

abbrev pub rest : List Step → List Step
rest [] = []
rest (x ∷ t) = t

-- of the steps t those left after an event, and after some
unfoldable pub left_by : List Step → Event → List Step
left_by t e = pick (goes_on e) (rest t) t

unfoldable pub left : List Step → List Event → List Step
left t [] = t
left t (e ∷ es) = left (left_by t e) es

-- 14 was given
unfoldable pub ends : Event → Bool
ends (wanted v) = false
ends (fed a (gives u)) = false
ends (fed a (refused q)) = eqb q 14
ends (drew a (gives v) b) = false
ends (drew a (refused q) b) = eqb q 14

abbrev pub ended_by : List Event → Bool
ended_by = ever ends

-- ---- "Fed: the runs that no question before 14 turned away, each as the row then named."
pub record FedRow : Type 0 where
  pub row : RowName
  pub run : Area

-- as the row that the first of the steps left names
abbrev pub fed_as : List Step → Area → List FedRow
fed_as [] a = []
fed_as (step.feed x ∷ t) a = record { row = x; run = a } ∷ []
fed_as (step.draw r ∷ t) a = []

unfoldable pub fed_by : List Step → Event → List FedRow
fed_by t (wanted v) = []
fed_by t (fed a (gives u)) = fed_as t a
fed_by t (fed a (refused q)) = pick (eqb q 14) (fed_as t a) []
fed_by t (drew a v b) = []

unfoldable pub fed_rows : List Step → List Event → List FedRow
fed_rows t [] = []
fed_rows t (e ∷ es) = fed_by t e ++ fed_rows (left_by t e) es

-- ---- the height rows drawn, as they stand in the output areas
unfoldable pub drawn_by : Event → List (ℕ → ℤ)
drawn_by (wanted v) = []
drawn_by (fed a v) = []
drawn_by (drew a (gives (heights n)) b) = b.numbers ∷ []
drawn_by (drew a (gives nothing) b) = []
drawn_by (drew a (refused q) b) = []

abbrev pub drawn_rows : List Event → List (ℕ → ℤ)
drawn_rows = gathered drawn_by

-- ---- "A map has them if it fits the set-up, in H too, and its plane at the set-up's levels has them as these rows."
-- a low-low part of level b: a map, or numbers in that level's range
abbrev pub IsPart : Filter → ℕ → ℕ → ℕ → Grid → Type 0
IsPart F zero W H g = IsMap W H g
IsPart F (suc b) W H g = (r c : ℕ) → r < H → c < W → nat_abs (g r c) ≤ range F (suc b)

-- a run a is band row x of a map g: its length, and the whole numbers of the filter's transform
pub record IsRow (f : ℕ) (W H : Side) (g : Grid) (x : RowName) (a : Area) : Type 0 where
  pub size : a.size ≡ band_columns W x.level x.band
  pub values : (i : ℕ) → i < band_columns W x.level x.band → a.numbers i ≡ level_band (filter_of f) whole W H g x.level x.band x.row i

abbrev pub HasRow : ℕ → Side → Side → Grid → FedRow → Type 0
HasRow f W H g u = IsRow f W H g u.row u.run

pub record HasFed (f b : ℕ) (W H : Side) (L : ℕ) (g : Grid) (es : List Event) : Type 0 where
  pub map : IsPart (filter_of f) b W.length H.length g
  pub rows : All (HasRow f W H g) (fed_rows (steps (ahead f) W H L) es)

-- the rows ys are the first rows of the map; with a base, limited: Q-6, "each value limited to 0 to 65,535"
pub record FirstRows (b : ℕ) (W : Side) (g : Grid) (ys : List (ℕ → ℤ)) : Type 0 where
  pub are : (r c : ℕ) → r < length ys → c < W.length → get_or ys r (λ _. pos 0) c ≡ drawn_as b (g r c)

-- they are all the rows of a map that has the rows fed
pub record AllDrawn (f b : ℕ) (W H : Side) (L : ℕ) (es : List Event) : Type 0 where
  pub map : Grid
  pub has : HasFed f b W H L map es
  pub all : length (drawn_rows es) ≡ H.length
  pub first : FirstRows b W map (drawn_rows es)

-- ---- the next call, with these steps left; e: 14 was given
-- "The want is the next step, Done after the last, Ended after 14."
unfoldable pub want_says : ℕ → Side → Bool → List Step → Want
want_says b W true t = ended
want_says b W false [] = done
want_says b W false (step.feed x ∷ t) = row (on_top b x.level) (code x.band) x.row (band_columns W x.level x.band)
want_says b W false (step.draw r ∷ t) = draw_now

-- the number of the question after 5 and before 14 that turns a feed away: 9, 8, 13, 7, or 0
unfoldable pub feed_away : ℕ → ℕ → Side → Bool → List Step → Area → ℕ
feed_away f b W true t a = 9
feed_away f b W false [] a = 8
feed_away f b W false (step.draw r ∷ t) a = 8
feed_away f b W false (step.feed x ∷ t) a =
    ask (eqb a.size (band_columns W x.level x.band)) 13
    (ask (run_fits f (on_top b x.level) a.size a.numbers) 7
    0)

-- lent a store of n numbers, where m are needed: 5, or that
unfoldable pub feed_turned : ℕ → ℕ → Side → ℕ → Bool → List Step → ℕ → Area → ℕ
feed_turned f b W m e t n a = ask (store_fits m n) 5 (feed_away f b W e t a)

-- what a draw into an area of m heights gives, unless it gives 5 or 14: 9, 12, a row or Nothing
unfoldable pub draw_gives : Side → Bool → List Step → ℕ → Reply Given
draw_gives W true t m = refused 9
draw_gives W false [] m = gives nothing
draw_gives W false (step.feed x ∷ t) m = gives nothing
draw_gives W false (step.draw r ∷ t) m = pick (leb W.length m) (gives (heights W.length)) (refused 12)

-- lent a store of n numbers, where k are needed: 5, or that
unfoldable pub draw_says : Side → ℕ → Bool → List Step → ℕ → ℕ → Reply Given
draw_says W k e t n m = pick (store_fits k n) (draw_gives W e t m) (refused 5)

-- one of two answers
pub data OneOf {A : Type 0} (x : A) (a b : A) : Type 0 where
  this : x ≡ a → OneOf x a b
  that : x ≡ b → OneOf x a b

-- how many heights of the output area a draw writes
unfoldable pub written : Reply Given → ℕ
written (gives (heights n)) = n
written (gives nothing) = 0
written (refused q) = 0

-- what is seen of a draw into a, lent a store of n numbers, where k are needed: its answer, or 14 in place of a row; the area past what was written is as it
-- was
pub record Draws (W : Side) (k : ℕ) (e : Bool) (t : List Step) (n : ℕ) (a : Area) (seen : Event) : Type 0 where
  pub answer : Reply Given
  pub after : Area
  pub is : seen ≡ drew a answer after
  pub size : after.size ≡ a.size
  pub untouched : (i : ℕ) → written answer ≤ i → after.numbers i ≡ a.numbers i
  pub says : OneOf answer (draw_says W k e t n a.size) (refused 14)
  -- 14 only where a row would be given
  pub possible : answer ≡ refused 14 → draw_says W k e t n a.size ≡ gives (heights W.length)

-- ---- "A set completed by a fed row is worked out in that feed", one without a fed row of its own in the next call that goes on
-- band rows by their names that have those fed
abbrev pub HasFedRow : Side → Rows → FedRow → Type 0
HasFedRow W P u = (i : ℕ) → i < band_columns W u.row.level u.row.band → u.run.numbers i ≡ P u.row i

-- the set of a row of level k + 1
unfoldable pub set_number : Side → RowName → ℕ
set_number H x = x.row + first_set (side_at (x.level - 1) H) (down x.band)

-- the next of the steps t is a row of the same set as x
unfoldable pub goes_on_set : Side → RowName → List Step → Bool
goes_on_set H x [] = false
goes_on_set H x (step.feed y ∷ t) = both (eqb y.level x.level) (eqb (set_number H y) (set_number H x))
goes_on_set H x (step.draw r ∷ t) = false

-- A feed of row x, with the steps t after it and the admission k. Its own set fits if x is the last of it; and the sets of the levels above, which made what
-- its set takes, if it takes a row.
pub record FeedFits (k f b : ℕ) (W H : Side) (L : ℕ) (P : Rows) (x : RowName) (t : List Step) : Type 0 where
  pub own : goes_on_set H x t ≡ false → SetFits k f b W H P L (x.level - 1) (set_number H x)
  pub above : has_row H x.level (set_number H x) ≡ true → SetsFit k f b W H L P x.level (set_number H x)

-- a feed of the run a as row x goes on, with the steps t after it
pub record FeedGoes (f : ℕ) (W H : Side) (L : ℕ) (es : List Event) (then : Call → Event) (n : ℕ) (a : Area) (x : RowName) (t : List Step) : Type 0 where
  pub next : left (steps (ahead f) W H L) es ≡ step.feed x ∷ t
  pub passes : then (feed n a) ≡ fed a (gives tt)

-- ---- the claim, of the events es of any list of calls; `then` is what would be seen of a further call
pub record Demand3 (f b spare : ℕ) (W H : Side) (L : ℕ) (es : List Event) (then : Call → Event) : Type 0 where
  -- "one list of steps: each band row to feed, once, and each height row to draw, once"
  pub rows_once : (x : RowName) → times x (band_rows_of (steps (ahead f) W H L)) ≡ pick (band_row_exists W H L x.level x.band x.row) 1 0
  pub heights_once : height_rows_of (steps (ahead f) W H L) ≡ in_turn H.length (λ r. r ∷ [])
  -- the want
  pub wants : then want ≡ wanted (gives (want_says b W (ended_by es) (left (steps (ahead f) W H L) es)))
  -- "A feed of the length that the want names goes one step on or gives 7 or 14"; any other is turned away. Each call is lent a store of n numbers.
  pub feeds_turned : (n : ℕ) (a : Area) (q : ℕ) → feed_turned f b W (on_top spare (store_by f W L)) (ended_by es) (left (steps (ahead f) W H L) es) n a ≡ suc q →
      then (feed n a) ≡ fed a (refused (suc q))
  pub feeds_on : (n : ℕ) (a : Area) → feed_turned f b W (on_top spare (store_by f W L)) (ended_by es) (left (steps (ahead f) W H L) es) n a ≡ 0 →
      OneOf (then (feed n a)) (fed a (gives tt)) (fed a (refused 14))
  -- "a draw at Draw goes one step on or gives 12 or 14; no other call goes on"
  pub draws : (n : ℕ) (a : Area) → Draws W (on_top spare (store_by f W L)) (ended_by es) (left (steps (ahead f) W H L) es) n a (then (draw n a))
  -- the heights drawn are the first of every map that has the rows fed
  pub first : (g : Grid) → HasFed f b W H L g es → FirstRows b W g (drawn_rows es)
  -- "14 comes only if no map has them."
  pub impossible : ended_by es ≡ true → (g : Grid) → HasFed f b W H L g es → ⊥
  -- a call that goes on has worked out what is due, and it fits: 14 comes no later
  pub feed_works : (n : ℕ) (a : Area) (x : RowName) (t : List Step) → FeedGoes f W H L es then n a x t →
      (P : Rows) → All (HasFedRow W P) (fed_rows (steps (ahead f) W H L) es ++ (record { row = x; run = a } ∷ [])) →
      FeedFits 0 f b W H L P x t
  pub draw_works : (n : ℕ) (a z : Area) → then (draw n a) ≡ drew a (gives (heights W.length)) z →
      (P : Rows) → All (HasFedRow W P) (fed_rows (steps (ahead f) W H L) es) → SetsFit 0 f b W H L P 0 (length (drawn_rows es))
  -- and in a call that gives 14 something due then does not fit: 14 comes no earlier. Document 02, Q-8: a row "counts as made, and is asked 14, with the set
  -- that brings the last value that it or any row above it needs."
  pub feed_ends : (n : ℕ) (a : Area) (x : RowName) (t : List Step) → left (steps (ahead f) W H L) es ≡ step.feed x ∷ t → then (feed n a) ≡ fed a (refused 14) →
      (P : Rows) → All (HasFedRow W P) (fed_rows (steps (ahead f) W H L) es ++ (record { row = x; run = a } ∷ [])) →
      FeedFits 0 f b W H L P x t → ⊥
  pub draw_ends : (n : ℕ) (a z : Area) → then (draw n a) ≡ drew a (refused 14) z →
      (P : Rows) → All (HasFedRow W P) (fed_rows (steps (ahead f) W H L) es) → SetsFit 0 f b W H L P 0 (length (drawn_rows es)) → ⊥
  -- it says Done exactly when the heights drawn are all of such a map
  pub finished : then want ≡ wanted (gives done) ↔ AllDrawn f b W H L es

-- of a list of calls on a fresh reader: "a state reached by calls always passes" question 1, and the claim
pub record OfCalls (f b spare : ℕ) (W H : Side) (L : ℕ) (x : ℕ → ℤ) (cs : List Call) : Type 0 where
  pub in_range : counts_fit (final cs (fresh_world f b spare W H L x)).reader ≡ true
  pub claim : Demand3 f b spare W H L (events cs (fresh_world f b spare W H L x)) (λ c. event c (final cs (fresh_world f b spare W H L x)))
