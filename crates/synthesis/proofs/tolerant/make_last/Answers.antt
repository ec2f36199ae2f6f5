-- `tolerant::make_last` meets its contract: the last set of an even height has an odd row. Assumes nothing.
use native.Mathlib.Omega.{arith}
use Rattle.synthesis.proofs.TolerantCalls.{last_none, last_some}
use Rattle.synthesis.proofs.tolerant.make_last.Goals as goal

pub shape_of-stretch : goal.shape_of-stretch
shape_of-stretch c = c.make_odd.auto.stretch

pub returns-then-h-n : goal.returns-then-h-n
returns-then-h-n c =
    let a = c.args in
    last_some a.k a.w a.h a.n _ _ (omega arith) c.make_odd.ensures

pub returns-else-h-n : goal.returns-else-h-n
returns-else-h-n c = let a = c.args in last_none a.k a.w a.h a.n _ (omega arith) (omega arith)
