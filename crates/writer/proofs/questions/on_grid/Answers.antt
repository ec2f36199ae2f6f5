-- `questions::on_grid` meets its contract. Assumes nothing.
use native.Mathlib.Omega.{arith}
use borrow.Author.Tests.{le-leb, lt-leb}
use Rattle.wavelet.specs.Limits.{max_origin}
use Rattle.writer.proofs.questions.on_grid.Goals as goal

pub returns-then-x-gt-MAX_ORIGIN : goal.returns-then-x-gt-MAX_ORIGIN
unfolding max_origin
returns-then-x-gt-MAX_ORIGIN c = simp (lt-leb c.args.x max_origin (omega arith))

pub returns : goal.returns
unfolding max_origin
returns c = simp (le-leb c.args.x max_origin (omega arith))
