-- `parts::lowest` meets its contract: what stands above the lowest bits is taken off. Assumes nothing.
use native.Mathlib.Omega.{arith}
use Rattle.ground_loader.proofs.NumberLaws.{above-fits, lowest-is}
use Rattle.ground_loader.proofs.parts.lowest.Goals as goal

pub overflow_shr-result : goal.overflow_shr-result
overflow_shr-result c = omega arith

pub overflow_shl-result : goal.overflow_shl-result
overflow_shl-result c = omega arith

pub overflow_sub-result : goal.overflow_sub-result
overflow_sub-result c = above-fits _ _ (omega arith)

pub returns : goal.returns
returns c = lowest-is _ _ (omega arith)
