-- What it is for a filter of the calls to be T.800's: every value of every line is. From here on a theorem is one over any such filter.
use Rattle.std.specs.Prelude.{◌≡◌, ℕ, zero, suc, ◌<◌, ℤ}
use Rattle.numbers.specs.Word.{whole}
use Rattle.lifting.specs.Line.{Half}
use Rattle.lifting.specs.Grid.{Side, count}
use Rattle.lifting.specs.Filter.{Filter}
use Rattle.standard.specs.Line.{LiftingSteps, five_three, nine_seven, line_value}

pub record Joins (F : Filter) (T : LiftingSteps) : Type 0 where
  pub line : (S : Side) (x : ℕ → ℤ) (h : Half) (n : ℕ) → n < count h S → F.forward whole S x h n ≡ line_value T S x h n

-- Q-8: "0 the 5/3, 1 this one"
unfoldable pub steps_of : ℕ → LiftingSteps
steps_of zero = five_three
steps_of (suc f) = nine_seven
