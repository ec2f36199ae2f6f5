-- `direction::is_used` meets its contract: test by test. Assumes nothing.
use native.Mathlib.Omega.{arith}
use Rattle.strokes.proofs.CallLaws.{used-even, unused, used-odd}
use Rattle.strokes.proofs.direction.is_used.Goals as goal

pub returns-then-r-eq0 : goal.returns-then-r-eq0
returns-then-r-eq0 c = used-even _ _ (omega arith)

pub returns-then-place-d : goal.returns-then-place-d
returns-then-place-d c = unused _ _ (λ e. absurd (omega arith)) (omega arith)

pub returns : goal.returns
returns c = used-odd _ _ (λ e. absurd (omega arith)) (omega arith)
