-- `bit` meets its contract: of sixteen readers no bit is shifted out. Assumes nothing.
use native.Mathlib.Omega.{arith}
use Rattle.turns.proofs.MarkLaws.{bit-small}
use Rattle.turns.proofs.order.bit.Goals as goal

pub overflow_shl-result : goal.overflow_shl-result
overflow_shl-result c = omega arith

pub returns : goal.returns
returns c = let small = bit-small c.args.reader c.requires in (omega arith, omega arith)
