-- `nine_seven::line::unlift` meets its contract: the two passes come to it; a line of one number or none goes apart (`unlift_short`). Assumes nothing.
use mathlib.Core.Path.{◌∙◌}
use native.Mathlib.Omega.{arith}
use lib.ListN.{length}
use Rattle.numbers.specs.Signal.{at}
use Rattle.lifting.specs.Grid.{side}
use Rattle.lifting.proofs.GridLaws.{some, beside-lows, beside-highs}
use Rattle.nine_seven.proofs.LiftLaws.{unlifted-is}
use Rattle.lifting.proofs.SingleLaws.{has_more}
use Rattle.nine_seven.proofs.line.unlift.Goals as goal

pub returns-then-n-lt2 : goal.returns-then-n-lt2
returns-then-n-lt2 c = c.unlift_short.ensures

pub change_lows-requires : goal.change_lows-requires
change_lows-requires c =
    let a = c.args in
    let S = side a.start (length a.line.now) in
    let s = some S (omega arith) in
    let d = beside-highs S in
    let e = c.lows-low.ensures in
    (omega arith, omega arith, omega arith, omega arith, omega arith)

pub overflow_sub-b : goal.overflow_sub-b
overflow_sub-b c = omega arith

pub change_highs-requires : goal.change_highs-requires
change_highs-requires c =
    let a = c.args in
    let S = side a.start (length a.line.now) in
    let s = some S (omega arith) in
    let d = beside-lows S in
    let e = c.lows-low.ensures in
    let k = c.change_lows.auto.line in
    (omega arith, omega arith, omega arith, omega arith, omega arith)

pub shape_of-line : goal.shape_of-line
shape_of-line c = c.change_highs.auto.line ∙ c.change_lows.auto.line

pub returns : goal.returns
returns c =
    let a = c.args in
    let x = a.line.now in
    let S = side a.start (length x) in
    let has = has_more S (at x) (omega arith) in
    record {
      value = simp has;
      line_after = simp has
          (cc (
            c.change_highs.ensures,
            c.change_lows.ensures,
            c.change_lows.auto.line,
            c.lows-low.ensures,
            unlifted-is S (at x)
                (omega arith),
          ));
    }
