-- Many rows at once: a run is a list of the calls that stand. While a band row waits, it is drawn into what is left of the output area, and its name is put
-- after those of the rows before it; else heights are offered, up to the end of the row begun. The run ends where the next of these calls would be turned
-- away, where the heights are used up and nothing waits, and where there is no room for a name.
use Rattle.std.specs.Prelude.{Bool, not, List, [], ◌∷◌, ◌++◌, ℕ, zero, suc, ◌+◌, ◌-◌, ◌*◌, ◌/◌, eqb, ltb, length, take, drop, Result, Ok, Err}
use Rattle.numbers.specs.Signal.{pick, both}
use Rattle.wavelet.specs.Questions.{ask}
use Rattle.calls.specs.Lists.{Reply, gives, refused, Area, unless}
use Rattle.level.specs.Level.{Memory, rest, join_at}
use Rattle.writer.specs.declared.Writer.{Writer}
use Rattle.writer.specs.declared.BandRow.{BandRow}
use Rattle.writer.specs.declared.runs.Ran.{Ran}
use Rattle.refusal.specs.declared.Refusal.{Refusal}
use Rattle.refusal.specs.Numbers.{number}
use Rattle.writer.specs.Questions.{either, in_ranges, long_enough, offer_question, draw_question}
use Rattle.writer.specs.History.{Call, offer, draw, row, none, Event, offered, drew, finished, looked, World, event, next}

-- a run on its way: the heights taken, the rows put, the numbers that these have; the whole output area and the whole area for names
pub record Run : Type 0 where
  pub world : World
  pub taken : ℕ
  pub rows : ℕ
  pub numbers : ℕ
  pub area : Memory
  pub names : List ℕ

-- a row's level, band, number and length, as a draw answers them, in place of the four numbers after those of r names
unfoldable pub named : ℕ → BandRow → List ℕ → List ℕ
named r b l = take (4 * r) l ++ (b.level ∷ b.band ∷ b.row ∷ b.length ∷ drop (4 * r + 4) l)

-- what is seen of its next call is noted; w is the world that the call leaves
unfoldable pub noted : Run → World → Event → Run
noted p w (offered run (gives j)) =
    record { world = w; taken = p.taken + j; rows = p.rows; numbers = p.numbers; area = p.area; names = p.names }
noted p w (drew a (gives (row b)) c) =
    record {
      world = w;
      taken = p.taken;
      rows = p.rows + 1;
      numbers = p.numbers + b.length;
      area = join_at p.numbers p.area c.numbers;
      names = named p.rows b p.names;
    }
noted p w (offered run (refused q)) = p
noted p w (drew a (gives none) c) = p
noted p w (drew a (refused q) c) = p
noted p w (finished r) = p
noted p w (looked r) = p

-- of the heights hs, on a line store of n numbers, into an output area of k numbers and an area with room for m names
module _ (n : ℕ) (hs : List ℕ) (k m : ℕ) where
  -- the heights up to the end of the row begun, and what is left of the output area
  abbrev pub row_left : Run → List ℕ
  row_left p = take (p.world.writer.width - p.world.writer.column) (drop p.taken hs)

  abbrev pub area_left : Run → Area
  area_left p = record { size = k - p.numbers; numbers = rest p.numbers p.area }

  -- the next call, and whether it is made
  unfoldable pub call_of : Run → Call
  call_of p = pick (eqb p.world.writer.level 0) (offer n (row_left p)) (draw n (area_left p))

  unfoldable pub due : Run → Bool
  due p =
      pick (eqb p.world.writer.level 0)
      (both (ltb p.taken (length hs)) (eqb (offer_question p.world.writer n (length (row_left p))) 0))
      (both (ltb p.rows m) (eqb (draw_question p.world.writer n (k - p.numbers)) 0))

  unfoldable pub after_call : Run → Run
  after_call p = noted p (next (call_of p) p.world) (event (call_of p) p.world)

  -- the run, and the list of its calls; f is the most calls there can be
  unfoldable pub ran : ℕ → Run → Run
  ran zero p = p
  ran (suc f) p = pick (due p) (ran f (after_call p)) p

  unfoldable pub calls : ℕ → Run → List Call
  calls zero p = []
  calls (suc f) p = pick (due p) (call_of p ∷ calls f (after_call p)) []

-- ---- the call: x stands in the store, z in the output area of k numbers and l in the area for names, four numbers a name
abbrev pub begin : Writer → Memory → Memory → List ℕ → Run
begin s x z l = record { world = record { writer = s; store = x }; taken = 0; rows = 0; numbers = 0; area = z; names = l }

-- each call of it takes a height or puts a name
unfoldable pub run_of : Writer → ℕ → List ℕ → ℕ → Memory → Memory → List ℕ → Run
run_of s n hs k x z l = ran n hs k (length l / 4) (length hs + length l / 4) (begin s x z l)

unfoldable pub run_calls : Writer → ℕ → List ℕ → ℕ → Memory → Memory → List ℕ → List Call
run_calls s n hs k x z l = calls n hs k (length l / 4) (length hs + length l / 4) (begin s x z l)

-- the questions: 1, 5, and 9 where there are h heights. A run that makes no call although a row waits is turned away by 12, and one that makes none
-- although there are heights by 10.
unfoldable pub run_question : Writer → ℕ → ℕ → ℕ
run_question s n h = ask (in_ranges s) 1 (ask (long_enough n s) 5 (ask (either (eqb h 0) (not s.finished)) 9 0))

unfoldable pub idle : ℕ → ℕ → ℕ
idle zero zero = 0
idle zero (suc h) = 10
idle (suc v) h = 12

abbrev pub or_else : ℕ → ℕ → ℕ
or_else zero b = b
or_else (suc a) b = suc a

unfoldable pub run_turned : Writer → ℕ → List ℕ → Run → ℕ
run_turned s n hs r = or_else (run_question s n (length hs)) (pick (eqb (r.taken + r.rows) 0) (idle s.level (length hs)) 0)

unfoldable pub run_reply : Writer → ℕ → List ℕ → ℕ → Memory → Memory → List ℕ → Reply Run
run_reply s n hs k x z l = let r = run_of s n hs k x z l in unless (run_turned s n hs r) r

-- the answer: how many heights were taken, how many rows were put and how many numbers these have, and the writer then
pub record Progress : Type 0 where
  pub taken : ℕ
  pub rows : ℕ
  pub numbers : ℕ
  pub writer : Writer

abbrev pub progress : Run → Progress
progress r = record { taken = r.taken; rows = r.rows; numbers = r.numbers; writer = r.world.writer }

abbrev pub of_ran : Result Ran Refusal → Reply Progress
of_ran (Ok r) = gives (record { taken = r.done.taken; rows = r.done.rows; numbers = r.done.numbers; writer = r.writer })
of_ran (Err r) = refused (number r)

-- what stands afterwards in the store, in the output area or in the area for names: a, as before, where a question turned the run away
abbrev pub left_by : {A : Type 0} → (Run → A) → A → Reply Run → A
left_by f a (gives r) = f r
left_by f a (refused q) = a
