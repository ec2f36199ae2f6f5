use native.Mathlib.Omega.{arith}
use Rattle.ground_file.proofs.WidthLaws.{largest-turn, largest-end}
use Rattle.ground_file.proofs.groups.largest.Goals as goal

pub loop-x-init : goal.loop-x-init
loop-x-init c = omega arith

pub loop-x-preserved : goal.loop-x-preserved
loop-x-preserved c = largest-turn _ _ _ _ (omega arith) (omega arith) c.loop-x.invariant

pub returns : goal.returns
returns c = largest-end _ _ _ (omega arith) c.loop-x.invariant
