-- `widths::code_for` meets its contract, case by case. Assumes nothing.
use native.Mathlib.Omega.{arith}
use Rattle.ground_file.proofs.WidthLaws.{for-own, for-13, for-16, for-20, for-28}
use Rattle.ground_file.proofs.widths.code_for.Goals as goal

pub returns-then-bits-le11 : goal.returns-then-bits-le11
returns-then-bits-le11 c = for-own _ (omega arith)

pub returns-then-bits-le13 : goal.returns-then-bits-le13
returns-then-bits-le13 c = for-13 _ (omega arith) (omega arith)

pub returns-then-bits-le16 : goal.returns-then-bits-le16
returns-then-bits-le16 c = for-16 _ (omega arith) (omega arith)

pub returns-then-bits-le20 : goal.returns-then-bits-le20
returns-then-bits-le20 c = for-20 _ (omega arith) (omega arith)

pub returns : goal.returns
returns c = for-28 _ (omega arith)
