-- What each byte of its input brings a program that reads a picture, and the end of the input. `most` is the largest number of levels that it takes. Read
-- byte after byte, an input is what `header_of` and `heights_taken` find in it: listing/proofs/InputReads, picture/proofs/RewritingTheorem.
use Rattle.std.specs.Prelude.{Bool, ℕ, ◌-◌, ◌*◌, ltb, eqb}
use Rattle.numbers.specs.Signal.{pick, both}
use Rattle.pgm.specs.Steps.{begun, step_of}
use Rattle.pgm.specs.Limits.{up_to, size_fits}
use Rattle.pgm.specs.Characters.{digit, digit_value}
use Rattle.pgm.specs.Samples.{no_byte, sample_of}
use Rattle.pgm.specs.NextAnswer.{NextAnswer}
use Rattle.pgm.specs.NextAnswer as next
use Rattle.pgm.specs.SampleAnswer.{SampleAnswer}
use Rattle.pgm.specs.SampleAnswer as sample
use Rattle.pgm.specs.declared.input.Input.{Input}
use Rattle.pgm.specs.StepAnswer.{StepAnswer}
use Rattle.pgm.specs.StepAnswer as steps
use Rattle.pgm.specs.EndedAnswer.{EndedAnswer}
use Rattle.pgm.specs.EndedAnswer as ended

-- before the first byte: phase 0 waits for the levels' digit, 1 for the line feed after it, 2 reads the header, 3 the heights, 4 reads no more
abbrev pub start_at : ℕ → Input
start_at p = record { phase = p; levels = 0; header = begun 0; left = 0; samples = no_byte 0 }

abbrev pub phased : ℕ → Input → Input
phased p i = record { phase = p; levels = i.levels; header = i.header; left = i.left; samples = i.samples }

abbrev pub refuse15 : Input → StepAnswer
refuse15 i = steps.No (phased 4 i) 15

-- one digit, from 1 to `most`
unfoldable pub level_digit : ℕ → ℕ → Bool
level_digit most b = both (digit b) (up_to most (digit_value b))

unfoldable pub levels_read : ℕ → Input → ℕ → StepAnswer
levels_read most i b =
    pick (level_digit most b)
    (steps.More (record { phase = 1; levels = digit_value b; header = i.header; left = i.left; samples = i.samples }))
    (refuse15 i)

unfoldable pub line_feed_read : Input → ℕ → StepAnswer
line_feed_read i b = pick (eqb b 10) (steps.More (phased 2 i)) (refuse15 i)

unfoldable pub shape_read : Input → ℕ → ℕ → ℕ → StepAnswer
shape_read i w h m =
    pick (size_fits w h)
    (steps.Begun (record { phase = 3; levels = i.levels; header = i.header; left = w * h; samples = no_byte m }) w h)
    (refuse15 i)

abbrev pub next_read : Input → NextAnswer → StepAnswer
next_read i (next.More k) = steps.More (record { phase = 2; levels = i.levels; header = k; left = i.left; samples = i.samples })
next_read i (next.Done w h m) = shape_read i w h m
next_read i next.No15 = refuse15 i

unfoldable pub header_read : Input → ℕ → StepAnswer
header_read i b = next_read i (step_of i.header b)

abbrev pub sample_read : Input → SampleAnswer → StepAnswer
sample_read i (sample.Half x) = steps.More (record { phase = 3; levels = i.levels; header = i.header; left = i.left; samples = x })
sample_read i (sample.Height v) =
    steps.Height (record { phase = 3; levels = i.levels; header = i.header; left = i.left - 1; samples = no_byte i.samples.largest }) v
sample_read i sample.No16 = steps.No (phased 4 i) 16

unfoldable pub height_read : Input → ℕ → StepAnswer
height_read i b = pick (eqb i.left 0) (refuse15 i) (sample_read i (sample_of i.samples b))

unfoldable pub read_byte : ℕ → Input → ℕ → StepAnswer
read_byte most i b =
    pick (eqb i.phase 0) (levels_read most i b)
    (pick (eqb i.phase 1) (line_feed_read i b)
    (pick (eqb i.phase 2) (header_read i b)
    (pick (eqb i.phase 3) (height_read i b)
    (steps.More i))))

unfoldable pub input_ended : Input → EndedAnswer
input_ended i =
    pick (ltb 3 i.phase) ended.Before
    (pick (ltb i.phase 3) (ended.No15 (phased 4 i))
    (pick (ltb 0 i.left) (ended.No15 (phased 4 i))
    (ended.Whole (phased 4 i))))

-- j heights more have come whole
abbrev pub heights_came : ℕ → Input → Input
heights_came j i = record { phase = i.phase; levels = i.levels; header = i.header; left = i.left - j; samples = no_byte i.samples.largest }
