-- `rows::group_refused` meets its contract: case by case. Assumes nothing.
use native.Mathlib.Omega.{arith}
use Rattle.ground_loader.proofs.ByteLaws.{group-few, group-many}
use Rattle.ground_loader.proofs.rows.group_refused.Goals as goal

pub returns-then-byte-lt16 : goal.returns-then-byte-lt16
returns-then-byte-lt16 c = group-few _ _ _ (omega arith)

pub overflow_sub-result : goal.overflow_sub-result
overflow_sub-result c = omega arith

pub returns : goal.returns
returns c = group-many _ _ _ (omega arith)
