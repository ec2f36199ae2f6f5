-- `reader::walk::begin` meets its contract: a set without a low row, or the search from the next sides on. Assumes nothing.
use mathlib.Core.Path.{◌∙◌}
use native.Mathlib.Omega.{arith}
use Rattle.lifting.specs.Grid.{side}
use Rattle.reader.proofs.EnterLaws.{begin-alone, begin-on}
use Rattle.reader.proofs.WalkLaws.{is-spot}
use Rattle.reader.proofs.walk.begin.Goals as goal

pub returns-then-n-l : goal.returns-then-n-l
returns-then-n-l c =
    let l = c.args.l in
    is-spot _ _ (begin-alone (side l.y l.height) _ _ _ c.if-n-l.true)

pub overflow_sub-n : goal.overflow_sub-n
overflow_sub-n c = omega arith

pub returns : goal.returns
returns c =
    let a = c.args in
    let l = a.l in
    is-spot _ _
    (c.descend_from.ensures
    ∙ begin-on a.filter (side l.x l.width) (side l.y l.height) _ _ a.n _ _ _ _ _ _ (omega arith) (c.next_start.ensures l.width)
    c.low_count.ensures (c.next_start-2.ensures l.height) c.low_count-2.ensures (omega arith))
