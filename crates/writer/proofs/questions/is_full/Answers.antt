-- `questions::is_full` meets its contract: the spare row counts where it is complete. Assumes nothing.
use mathlib.Core.Path.{sym, ap}
use native.Mathlib.Omega.{arith}
use lib.Dec.{leb}
use Rattle.wavelet.specs.Limits.{max_height}
use Rattle.wavelet.proofs.LimitLaws.{height-small}
use Rattle.writer.proofs.QuestionLaws.{taken-open, taken-full}
use Rattle.writer.proofs.questions.is_full.Goals as goal

pub returns-then-s : goal.returns-then-s
unfolding max_height
returns-then-s c = let s = c.args.s in ap (leb max_height) (sym (taken-open s (omega arith) (omega arith)))

pub overflow_add-result : goal.overflow_add-result
overflow_add-result c = omega (arith, height-small)

pub returns : goal.returns
unfolding max_height
returns c = let s = c.args.s in ap (leb max_height) (sym (taken-full s (omega arith) (omega arith)))
