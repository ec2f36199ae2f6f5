-- What a byte of an input brings: the input then, and with it width and height of the picture that begins, a height, or the number of the question that says
-- no, 15 or 16 (document 01, "The listing program"; 02, Q-1).
use Rattle.std.specs.Prelude.{ℕ, Result, Ok, Err}
use Rattle.refusal.specs.Numbers.{number}
use Rattle.pgm.specs.declared.input.Input.{Input}
use Rattle.pgm.specs.declared.input.Refused.{Refused}
use Rattle.pgm.specs.declared.input.Step.{Step}
use Rattle.pgm.specs.declared.input.Step.TheVariants as steps

pub data StepAnswer : Type 0 where
  More : Input → StepAnswer
  Begun : Input → ℕ → ℕ → StepAnswer
  Height : Input → ℕ → StepAnswer
  No : Input → ℕ → StepAnswer

abbrev pub of_step : Result Step Refused → StepAnswer
of_step (Ok (steps.More i)) = More i
of_step (Ok (steps.Begun i w h)) = Begun i w h
of_step (Ok (steps.Height i v)) = Height i v
of_step (Err r) = No r.input (number r.why)
