-- `bytes::put_byte` meets its contract: one store, where there is room. Assumes nothing.
use native.Mathlib.Omega.{arith}
use borrow.Author.Rules.{rules}
use Rattle.text.proofs.TextLaws.{wrote-byte, puts_whole, puts_none}
use Rattle.text.proofs.bytes.put_byte.Goals as goal

pub returns-then-out-at : goal.returns-then-out-at
returns-then-out-at c = puts_none _ _ _ (omega arith)

pub returns : goal.returns
returns c = puts_whole (wrote-byte _ _ _ (omega arith))
