-- `tolerant::make_even` meets its contract: the row rebuilt, then limited. Assumes nothing.
use mathlib.Core.Path.{ap, ◌∙◌}
use Prim.Native.Nat.{◌*◌}
use native.Mathlib.Omega.{arith}
use Rattle.synthesis.specs.Tolerant.{row_limited, even_limited}
use Rattle.synthesis.proofs.tolerant.make_even.Goals as goal

pub shape_of-stretch : goal.shape_of-stretch
shape_of-stretch c = c.limit_row.auto.stretch ∙ c.undo_even.auto.stretch

pub returns : goal.returns
unfolding even_limited
returns c =
    let a = c.args in
    c.limit_row.ensures ∙ ap (row_limited a.k a.w (2 * a.n)) c.undo_even.ensures
