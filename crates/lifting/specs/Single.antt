-- What becomes of a line's only number, at an odd coordinate, on the way back: it is halved, and where it is odd no line has it.
use Rattle.std.specs.Prelude.{ℤ, Result, Ok, Err}
use Rattle.std.specs.Int.Signed.{shr_z}
use Rattle.refusal.specs.declared.Refusal.{Refusal}
use Rattle.refusal.specs.declared.Refusal.TheVariants as why
use Rattle.numbers.specs.Signal.{pick}
use Rattle.lifting.specs.Grid.{is_even}

abbrev pub half : ℤ → Result ℤ Refusal
half x = pick (is_even x) (Ok (shr_z x 2)) (Err why.NoMap)
