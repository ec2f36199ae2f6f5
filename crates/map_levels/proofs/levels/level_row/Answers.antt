-- `levels::level_row` meets its contract: the definition's two cases. Assumes nothing.
use mathlib.Core.Path.{sym, ap, ◌∙◌}
use native.Mathlib.Omega.{arith}
use Rattle.lifting.specs.Line.{hi}
use Rattle.lifting.specs.Grid.{side, count, place}
use Rattle.map_levels.proofs.CellLaws.{level-low, level-high}
use Rattle.map_levels.proofs.levels.level_row.Goals as goal

pub overflow_mul-result : goal.overflow_mul-result
unfolding count
overflow_mul-result c = omega arith

pub overflow_add-result : goal.overflow_add-result
unfolding count
overflow_add-result c = omega arith

pub returns-then-r-low : goal.returns-then-r-low
unfolding count place
returns-then-r-low c =
    let args = c.args in
    (sym (level-low (side args.y args.height) args.r (omega arith)), omega arith)

pub overflow_mul-result-2 : goal.overflow_mul-result-2
unfolding count
overflow_mul-result-2 c = omega arith

pub overflow_sub-result-2 : goal.overflow_sub-result-2
overflow_sub-result-2 c = omega arith

pub overflow_add-result-2 : goal.overflow_add-result-2
unfolding count
overflow_add-result-2 c = omega arith

pub returns : goal.returns
unfolding count place
returns c =
    let args = c.args in
    let S = side args.y args.height in
    (sym (level-high S args.r (omega arith) ∙ ap (place S hi) (omega arith)), omega arith)
