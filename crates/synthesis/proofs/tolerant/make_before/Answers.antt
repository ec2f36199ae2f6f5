-- `tolerant::make_before` meets its contract: set 0 has no odd row before it. Assumes nothing.
use native.Mathlib.Omega.{arith}
use Rattle.synthesis.proofs.TolerantCalls.{pair-none, pair-some}
use Rattle.synthesis.proofs.tolerant.make_before.Goals as goal

pub returns-then-n-eq0 : goal.returns-then-n-eq0
returns-then-n-eq0 c = let a = c.args in pair-none a.k a.w a.h a.n _ (omega arith)

pub shape_of-stretch : goal.shape_of-stretch
shape_of-stretch c = c.make_odd.auto.stretch

pub returns : goal.returns
returns c =
    let a = c.args in
    pair-some a.k a.w a.h a.n _ _ c.if-n-eq0.false c.make_odd.ensures
