-- `direction::before` meets its contract. Assumes nothing.
use native.Mathlib.Omega.{arith}
use Rattle.strokes.proofs.CallLaws.{unread-none, unread-two}
use Rattle.strokes.proofs.direction.before.Goals as goal

pub returns-then-d-eq0 : goal.returns-then-d-eq0
returns-then-d-eq0 c = unread-none _ (omega arith)

pub returns : goal.returns
returns c = unread-two _ (λ e. absurd (omega arith))
