-- `error::half_up` meets its contract: it computes as `half_up` is defined. Assumes nothing.
use mathlib.Core.Path.{refl}
use native.Mathlib.Omega.{arith}
use Rattle.tolerance.specs.Figure.{half_up}
use Rattle.rounding.proofs.error.half_up.Goals as goal

pub overflow_add-result : goal.overflow_add-result
overflow_add-result c = record { fits = omega arith }

pub returns : goal.returns
unfolding half_up
returns c = refl
