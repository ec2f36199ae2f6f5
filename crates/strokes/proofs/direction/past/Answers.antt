-- `direction::past` meets its contract. Assumes nothing.
use native.Mathlib.Omega.{arith}
use Rattle.strokes.proofs.CallLaws.{unread-end, unread-all}
use Rattle.strokes.proofs.direction.past.Goals as goal

pub returns-then-d : goal.returns-then-d
returns-then-d c = unread-end _ (omega arith)

pub returns : goal.returns
returns c = unread-all _ (omega arith)
