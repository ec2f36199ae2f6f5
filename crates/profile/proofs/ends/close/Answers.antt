-- `close`: nothing is left, a pair or one sample. Assumes nothing.
use mathlib.Core.Path.{sym}
use lib.ListN.{length}
use Rattle.profile.specs.Calls.{heights}
use Rattle.profile.proofs.EndLaws.{closed-pair, closed-one}
use Rattle.profile.proofs.PassLaws.{same}
use Rattle.profile.proofs.ends.close.Goals as goal

pub returns-then-p-n : goal.returns-then-p-n
returns-then-p-n c = sym (same _ _ _ _ c.if-p-n.true)

pub returns-then-p-n-2 : goal.returns-then-p-n-2
returns-then-p-n-2 c =
    let g = c.args in
    closed-pair (length g.row.now) (heights g.row.now) g.p g.s g.out.now
    c.if-p-n.false
    c.if-p-n-2.true
    c.turn_at-t.ensures
    c.lift_fourth.ensures
    c.store_pair.ensures

pub returns : goal.returns
returns c =
    let g = c.args in
    closed-one (length g.row.now) (heights g.row.now) g.p g.s g.out.now
    c.if-p-n.false
    c.if-p-n-2.false
    c.lift_fourth-2.ensures
