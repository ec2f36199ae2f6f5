-- `window::lift_last` meets its contract: one row call, or none. Assumes nothing.
use lib.ListN.{length}
use Rattle.numbers.specs.Signal.{at}
use native.Mathlib.Omega.{arith}
use Rattle.strokes.proofs.CallLaws.{last-yes, last-no}
use Rattle.strokes.proofs.window.lift_last.Goals as goal

pub returns-then-n-height : goal.returns-then-n-height
returns-then-n-height c = last-yes _ _ _ _ _ _ _ (omega arith) c.change_row.ensures.area_after

pub returns-else-n-height : goal.returns-else-n-height
returns-else-n-height c = let a = c.args in last-no (length a.area.now) a.stride a.width a.height a.n (at a.area.now) (omega arith)
