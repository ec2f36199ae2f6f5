-- `limits::is_within` meets its contract: the definition's two tests. Assumes nothing.
use native.Mathlib.Omega.{arith}
use borrow.Author.Tests.{le-leb, lt-leb}
use Rattle.wavelet.specs.Questions.{within}
use Rattle.wavelet.proofs.limits.is_within.Goals as goal

pub returns-then-n-eq0 : goal.returns-then-n-eq0
unfolding within
returns-then-n-eq0 c = simp (lt-leb 1 c.args.n (omega arith))

pub returns : goal.returns
unfolding within
returns c = simp (le-leb 1 c.args.n (omega arith))
