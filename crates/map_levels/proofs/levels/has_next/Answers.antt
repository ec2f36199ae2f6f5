-- `levels::has_next` meets its contract: the definition's tests, one after the other. Assumes nothing.
use native.Mathlib.Omega.{arith}
use borrow.Author.Tests.{lt-ltb, le-ltb}
use Rattle.map_levels.specs.LevelPasses.{has_next}
use Rattle.map_levels.proofs.levels.has_next.Goals as goal

pub returns-then-levels-lt2 : goal.returns-then-levels-lt2
unfolding has_next
returns-then-levels-lt2 c = let args = c.args in simp (le-ltb 1 args.levels (omega arith))

pub returns-then-low-eq0 : goal.returns-then-low-eq0
unfolding has_next
returns-then-low-eq0 c = let args = c.args in simp (lt-ltb 1 args.levels (omega arith), le-ltb 0 args.low.width (omega arith))

pub returns : goal.returns
unfolding has_next
returns c = let args = c.args in simp (lt-ltb 1 args.levels (omega arith), lt-ltb 0 args.low.width (omega arith))
