-- `nine_seven::line::unlift_short` meets its contract: one number or none is as the 5/3 has it. Assumes nothing.
use mathlib.Core.Path.{ap, ◌∙◌}
use Prim.Native.Nat.{ℕ}
use lib.IntN.{ℤ}
use native.Mathlib.Omega.{arith}
use lib.ListN.{length}
use Rattle.numbers.specs.Signal.{at, pick}
use Rattle.lifting.specs.Grid.{side}
use Rattle.lifting.specs.GridHalves.{has_line_in}
use Rattle.nine_seven.proofs.LiftLaws.{unlifted-short}
use Rattle.nine_seven.proofs.line.unlift_short.Goals as goal

pub shape_of-line : goal.shape_of-line
shape_of-line c = c.unlift.auto.line

pub returns : goal.returns
returns c =
    let a = c.args in
    let S = side a.start (length a.line.now) in
    let y = at a.line.now in
    record {
      value = c.code.ensures ∙ c.unlift.ensures.value;
      line_after = c.unlift.ensures.line_after ∙ ap (λ (z : ℕ → ℤ). pick (has_line_in S y) z y) (unlifted-short S (omega arith) y);
    }
