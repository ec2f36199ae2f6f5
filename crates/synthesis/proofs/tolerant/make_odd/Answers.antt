-- `tolerant::make_odd` meets its contract: the row rebuilt, then limited. Assumes nothing.
use mathlib.Core.Path.{ap, ◌∙◌}
use native.Mathlib.Omega.{arith}
use Rattle.synthesis.specs.Tolerant.{row_limited, odd_limited}
use Rattle.synthesis.proofs.tolerant.make_odd.Goals as goal

pub shape_of-stretch : goal.shape_of-stretch
shape_of-stretch c = c.limit_row.auto.stretch ∙ c.undo_odd.auto.stretch

pub returns : goal.returns
unfolding odd_limited
returns c =
    let a = c.args in
    c.limit_row.ensures ∙ ap (row_limited a.k a.w a.q) c.undo_odd.ensures
