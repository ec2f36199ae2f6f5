-- `window::row_after` meets its contract. Assumes nothing.
use native.Mathlib.Omega.{arith}
use Rattle.strokes.proofs.CallLaws.{after-in, after-end}
use Rattle.strokes.proofs.window.row_after.Goals as goal

pub returns-then-n-height : goal.returns-then-n-height
returns-then-n-height c = after-in _ _ (omega arith)

pub returns : goal.returns
returns c = after-end _ _ (omega arith) (omega arith)
