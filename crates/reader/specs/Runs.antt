-- Many rows at once: a run is a list of the calls that stand. While a height row can be drawn, it is drawn into what is left of the output area; else the band
-- row wanted is fed, from the numbers that are left. The run ends where the next of these calls would be turned away by another question than 14, where the
-- numbers are used up and no height row can be drawn, and after 14.
use Rattle.std.specs.Prelude.{Bool, true, not, List, [], ◌∷◌, ℕ, zero, suc, ◌+◌, ◌-◌, ◌*◌, min, ℤ, ltb, eqb, Result, Ok, Err}
use Rattle.numbers.specs.Signal.{pick, both, windowed}
use Rattle.wavelet.specs.Questions.{ask}
use Rattle.calls.specs.Lists.{Reply, gives, refused, Area, unless}
use Rattle.level.specs.Level.{rest, join_at}
use Rattle.reader.specs.declared.Reader.{Reader}
use Rattle.reader.specs.declared.runs.Tally.{Tally}
use Rattle.refusal.specs.declared.Refusal.{Refusal}
use Rattle.refusal.specs.Numbers.{number}
use Rattle.reader.specs.State.{needs, next_length}
use Rattle.reader.specs.State as levels
use Rattle.reader.specs.Last as last
use Rattle.reader.specs.Questions.{store_fits}
use Rattle.reader.specs.Reading.{by, counts_fit, feed_question, draw_question}
use Rattle.reader.specs.Demand3.{Call, feed, draw, heights, nothing, Event, wanted, fed, drew, World, event, next}

-- ---- of any reader: a height row can be drawn; the length of the row wanted; the numbers that its store needs
abbrev pub drawable : Reader → Bool
drawable s = by s.levels (last.draw_due s) (levels.draw_due s)

abbrev pub row_length : Reader → ℕ
row_length s = by s.levels s.width (next_length s)

abbrev pub needed : Reader → ℕ
needed s = by s.levels s.spare (needs s)

-- ---- a run on its way: the numbers used, the height rows drawn, the whole output area
pub record Run : Type 0 where
  pub world : World
  pub used : ℕ
  pub rows : ℕ
  pub area : ℕ → ℤ

-- the heights that were put
abbrev pub put : Run → ℕ
put p = p.rows * p.world.reader.width

abbrev pub moved_to : Run → World → Run
moved_to p w = record { world = w; used = p.used; rows = p.rows; area = p.area }

-- what is seen of its next call is noted; w is the world that the call leaves, by 14 too
unfoldable pub noted : Run → World → Event → Run
noted p w (fed a (gives u)) = record { world = w; used = p.used + a.size; rows = p.rows; area = p.area }
noted p w (fed a (refused q)) = moved_to p w
noted p w (drew a (gives (heights m)) b) =
    record { world = w; used = p.used; rows = p.rows + 1; area = join_at (put p) p.area b.numbers }
noted p w (drew a (gives nothing) b) = moved_to p w
noted p w (drew a (refused q) b) = moved_to p w
noted p w (wanted v) = moved_to p w

-- a call that is not turned away: it passes, or ends the reader
abbrev pub goes : ℕ → Bool
goes q = pick (eqb q 0) true (eqb q 14)

-- of m numbers v, on a line store of n numbers, into an output area of k heights
module _ (n m : ℕ) (v : ℕ → ℤ) (k : ℕ) where
  -- the row wanted, or what is left of the numbers, and what is left of the output area
  abbrev pub row_left : Run → Area
  row_left p =
      let size = min (row_length p.world.reader) (m - p.used) in
      record { size = size; numbers = windowed p.used size v }

  abbrev pub area_left : Run → Area
  area_left p = record { size = k - put p; numbers = rest (put p) p.area }

  -- the next call, the question that turns it away, and whether it is made: no row without a number is fed or drawn
  unfoldable pub call_of : Run → Call
  call_of p = pick (drawable p.world.reader) (draw n (area_left p)) (feed n (row_left p))

  unfoldable pub asked : Run → ℕ
  asked p =
      pick (drawable p.world.reader)
      (draw_question p.world.reader n p.world.store (area_left p).size)
      (feed_question p.world.reader n p.world.store (row_left p).size (row_left p).numbers)

  unfoldable pub due : Run → Bool
  due p = both (goes (asked p)) (pick (drawable p.world.reader) (ltb 0 p.world.reader.width) (ltb 0 (row_left p).size))

  unfoldable pub after_call : Run → Run
  after_call p = noted p (next (call_of p) p.world) (event (call_of p) p.world)

  -- the run, and the list of its calls; f is the most calls there can be
  unfoldable pub ran : ℕ → Run → Run
  ran zero p = p
  ran (suc f) p = pick (due p) (ran f (after_call p)) p

  unfoldable pub calls : ℕ → Run → List Call
  calls zero p = []
  calls (suc f) p = pick (due p) (call_of p ∷ calls f (after_call p)) []

  -- the number of the question that turns the next call away, 0 if none does
  unfoldable pub turned_by : Run → ℕ
  turned_by p = pick (goes (asked p)) 0 (asked p)

-- ---- the call: x stands in the store and z in the output area
abbrev pub begin : Reader → (ℕ → ℤ) → (ℕ → ℤ) → Run
begin s x z = record { world = record { reader = s; store = x }; used = 0; rows = 0; area = z }

-- each call of it uses a number, draws a row or ends the reader
abbrev pub most : Reader → ℕ → ℕ
most s m = m + s.height + 1

unfoldable pub run_of : Reader → ℕ → ℕ → (ℕ → ℤ) → ℕ → (ℕ → ℤ) → (ℕ → ℤ) → Run
run_of s n m v k x z = ran n m v k (most s m) (begin s x z)

unfoldable pub run_calls : Reader → ℕ → ℕ → (ℕ → ℤ) → ℕ → (ℕ → ℤ) → (ℕ → ℤ) → List Call
run_calls s n m v k x z = calls n m v k (most s m) (begin s x z)

-- the questions: 1, 5 and 9; then, where there are numbers or a height row can be drawn, those of the first call but for 14
unfoldable pub run_question : Reader → ℕ → ℕ
run_question s n = ask (counts_fit s) 1 (ask (store_fits (needed s) n) 5 (ask (not s.ended) 9 0))

abbrev pub or_else : ℕ → ℕ → ℕ
or_else zero b = b
or_else (suc a) b = suc a

unfoldable pub run_turned : Reader → ℕ → ℕ → (ℕ → ℤ) → ℕ → (ℕ → ℤ) → (ℕ → ℤ) → ℕ
run_turned s n m v k x z =
    or_else (run_question s n) (pick (pick (drawable s) true (ltb 0 m)) (turned_by n m v k (begin s x z)) 0)

unfoldable pub run_reply : Reader → ℕ → ℕ → (ℕ → ℤ) → ℕ → (ℕ → ℤ) → (ℕ → ℤ) → Reply Run
run_reply s n m v k x z = unless (run_turned s n m v k x z) (run_of s n m v k x z)

-- the answer: how many numbers were used, how many height rows were drawn, and the reader then, which 14 may have ended
pub record Progress : Type 0 where
  pub used : ℕ
  pub rows : ℕ
  pub reader : Reader

abbrev pub progress : Run → Progress
progress r = record { used = r.used; rows = r.rows; reader = r.world.reader }

abbrev pub of_ran : Result (Tally × Reader) Refusal → Reply Progress
of_ran (Ok d) = gives (record { used = d.0.used; rows = d.0.rows; reader = d.1 })
of_ran (Err r) = refused (number r)

-- what stands afterwards in the store or in the output area: a, as before, where a question turned the run away
abbrev pub left_by : {A : Type 0} → (Run → A) → A → Reply Run → A
left_by f a (gives r) = f r
left_by f a (refused q) = a
