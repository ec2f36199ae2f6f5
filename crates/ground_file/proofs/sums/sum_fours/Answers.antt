use native.Mathlib.Omega.{arith}
use Rattle.ground_file.specs.File.{prime}
use Rattle.ground_file.proofs.SumLaws.{fours-start, fours-next, fours-end}
use Rattle.ground_file.proofs.sums.sum_fours.Goals as goal

pub loop-i-init : goal.loop-i-init
loop-i-init c = fours-start c.requires.0 c.requires.1 (omega arith)

pub overflow_mul-r : goal.overflow_mul-r
unfolding prime
overflow_mul-r c = omega (arith, c.loop-i.invariant.small)

pub overflow_mul-i : goal.overflow_mul-i
overflow_mul-i c = let s = c.loop-i.invariant in omega (arith, s.there, s.short)

pub four-requires : goal.four-requires
four-requires c = omega (arith, c.loop-i.invariant.there)

pub overflow_add-r : goal.overflow_add-r
unfolding prime
overflow_add-r c = omega (arith, c.loop-i.invariant.small, c.four.ensures.1)

pub loop-i-preserved : goal.loop-i-preserved
unfolding prime
loop-i-preserved c = fours-next c.loop-i.invariant (omega arith) _ c.four.ensures.0

pub returns : goal.returns
returns c = fours-end c.loop-i.invariant (omega arith)
