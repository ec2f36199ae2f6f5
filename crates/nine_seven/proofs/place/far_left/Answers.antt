-- `nine_seven::place::far_left` meets its contract, case by case. Assumes nothing.
use mathlib.Core.Path.{sym, ◌∙◌}
use native.Mathlib.Omega.{arith}
use Rattle.nine_seven.proofs.MirrorLaws.{far-first, far-more}
use Rattle.nine_seven.proofs.place.far_left.Goals as goal

pub returns-then-n-eq0 : goal.returns-then-n-eq0
returns-then-n-eq0 c = let a = c.args in c.nearest.ensures ∙ sym (far-first a.low 0 a.o a.n c.if-n-eq0.true)

pub overflow_sub-n : goal.overflow_sub-n
overflow_sub-n c = omega arith

pub overflow_add-n : goal.overflow_add-n
overflow_add-n c = omega arith

pub returns : goal.returns
returns c = let a = c.args in c.one_before.ensures ∙ sym (far-more a.low 0 a.o a.n (omega arith) ∙ omega arith)
