-- What private functions cite; no public contract does.
use Rattle.std.specs.Prelude.{◌≡◌, Result, Ok, Err, Bool, true, false, ℕ, ◌+◌, ◌/◌, ◌≤◌, ◌<◌, ℤ, leb, ltb, eqb}
use Rattle.numbers.specs.Signal.{pick}
use Rattle.reader.specs.declared.Reader.{Reader}
use Rattle.reader.specs.Answers as answer
use Rattle.reader.specs.Reading.{counts_fit}
use Rattle.reader.specs.State.{needs}
use Rattle.ground_file.specs.Groups.{width_of}
use Rattle.ground_file.specs.File.{prime}
use Rattle.ground_loader.specs.declared.rows.Coming.{Coming}
use Rattle.ground_loader.specs.declared.loader.Loader.{Loader}
use Rattle.ground_loader.specs.declared.loader.Due.{Due}
use Rattle.ground_loader.specs.declared.loader.Next.{Next}
use Rattle.ground_loader.specs.declared.loader.Stop.{Stop}
use Rattle.ground_loader.specs.declared.loader.Stop.TheVariants as stop
use Rattle.ground_loader.specs.Numbers.{numbers_in, greatest}
use Rattle.ground_loader.specs.Coming.{between, seen_bits, whole_of, Standing}
use Rattle.ground_loader.specs.Loader.{World, world_of, loader_at, Byte, taken, away, ends, sum_on, reader_wants, row_needs, second_fits, header_byte}
use Rattle.ground_loader.specs.Loader.{tail_byte, Answer, ran_answer}

-- the values that a byte brings are at most m in size; a group's byte brings zeros
unfoldable pub brought_within : Coming → ℕ → ℕ → Bool
brought_within c b m =
    pick (eqb c.phase 0) true (leb ((greatest 0 (numbers_in (width_of c.code) (whole_of c) (seen_bits c b)) + 1) / 2) m)

-- does a want give anything?
abbrev pub is_given : answer.Reply answer.Want → Bool
is_given (answer.gives v) = true
is_given (answer.refused q) = false
is_given (answer.impossible r) = false

-- ---- what a loader wants, in numbers
abbrev pub plain_due : ℕ → Due
plain_due p = record { phase = p; level = 0; band = 0; count = 0 }

unfoldable pub due_after : ℕ → answer.Want → Due
due_after t (answer.row k c r m) = record { phase = 1; level = k; band = c; count = m }
due_after t answer.draw_now = plain_due 3
due_after t answer.done = pick (ltb t 4) (plain_due 2) (plain_due 4)
due_after t answer.ended = plain_due 5

-- ---- what became of a byte: 0 it was taken, 22 or 7 it was turned away, 14 it ended the loader; the loader then, and what it wants
pub record Step : Type 0 where
  pub answer : ℕ
  pub loader : Loader
  pub due : Due

abbrev pub stop_number : Stop → ℕ
stop_number stop.NoFile = 22
stop_number stop.OutOfRange = 7
stop_number (stop.Ended k) = 14

abbrev pub stop_loader : Loader → Stop → Loader
stop_loader l stop.NoFile = l
stop_loader l stop.OutOfRange = l
stop_loader l (stop.Ended k) = k

abbrev pub stop_due : Due → Stop → Due
stop_due d stop.NoFile = d
stop_due d stop.OutOfRange = d
stop_due d (stop.Ended k) = plain_due 5

-- of the loader l, which wants d
abbrev pub of_step : Loader → Due → Result Next Stop → Step
of_step l d (Ok n) = record { answer = 0; loader = n.loader; due = n.due }
of_step l d (Err s) = record { answer = stop_number s; loader = stop_loader l s; due = stop_due d s }

unfoldable pub due_of : Loader → Due
due_of l = pick l.reader.ended (plain_due 5) (pick (ltb l.header 24) (plain_due 0) (due_after l.tail (reader_wants l.reader)))

-- ---- what a loader's numbers allow, where bytes are wanted; d is what it wants
pub record Stands (m : ℕ) (c : Coming) : Type 0 where
  pub standing : Standing m c
  pub part : 0 < c.phase → (c.phase ≤ 2) × (c.next ≤ 15) × (second_fits m c ≡ true)

pub record Sound (l : Loader) (d : Due) : Type 0 where
  pub due : d ≡ due_of l
  pub bytes : d.phase < 3
  pub fits : counts_fit l.reader ≡ true
  pub stop : (l.reader.stop ≡ 0) × (l.reader.spare ≡ 0)
  pub step : (1 ≤ l.step) × (l.step ≤ 1)
  pub sum : l.sum < prime
  pub comes : d.phase ≡ 1 → Stands d.count l.coming
  pub none : (d.phase ≡ 1 → ⊥) → l.coming ≡ between 0

-- the areas of n and m numbers hold what is needed
abbrev pub Areas : Loader → ℕ → ℕ → Type 0
Areas l n m = (needs l.reader ≤ n) × (row_needs l.reader ≤ m)

-- after a step: what is wanted, and where the byte was taken the next call of a step is met with what it requires
pub record Onward (l : Loader) (s : Step) : Type 0 where
  pub due : s.due ≡ due_of s.loader
  pub sound : s.answer ≡ 0 → s.due.phase < 3 → Sound s.loader s.due
  pub store : s.answer ≡ 0 → needs s.loader.reader ≡ needs l.reader
  pub row : s.answer ≡ 0 → row_needs s.loader.reader ≡ row_needs l.reader

-- ---- a step and the areas x and y after it are what became of a byte, in the world w
pub data Became (w : World) (s : Step) (x y : ℕ → ℤ) : Byte → Type 0 where
  took : s.answer ≡ 0 → Became w s x y (taken (world_of s.loader x y))
  turned : 0 < s.answer → (s.answer ≡ 14 → ⊥) → world_of s.loader x y ≡ w → Became w s x y (away s.answer)
  over : s.answer ≡ 14 → Became w s x y (ends (world_of s.loader x y))

-- a row that is over was fed: by what the reader answered
pub data FedStep (l : Loader) (b : ℕ) (s : Step) : answer.Reply Reader → Type 0 where
  passed : (r : Reader) → s.answer ≡ 0 → s.loader ≡ loader_at r l.step l.header (between 0) (sum_on l.sum b) l.tail → FedStep l b s (answer.gives r)
  ended : (r : Reader) → s.answer ≡ 14 → s.loader ≡ loader_at r l.step l.header (between 0) l.sum l.tail → FedStep l b s (answer.impossible r)

-- whatever stands in the areas: a byte of the header or of the checksum touches neither
abbrev pub HeaderTaken : Loader → ℕ → Step → Type 0
HeaderTaken l b s = (n : ℕ) (x y : ℕ → ℤ) → Became (world_of l x y) s x y (header_byte (world_of l x y) n b)

abbrev pub TailTaken : Loader → ℕ → Step → Type 0
TailTaken l b s = (n : ℕ) (x y : ℕ → ℤ) → Became (world_of l x y) s x y (tail_byte (world_of l x y) n b)

abbrev pub ToldOf : ℕ → ℕ → Loader → Answer → Type 0
ToldOf q k l a = (x y : ℕ → ℤ) → a ≡ ran_answer (record { count = k; why = q; world = world_of l x y })
