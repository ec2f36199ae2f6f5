-- `bytes::has_room` meets its contract: the definition's test, without a sum that could overflow. Assumes nothing.
use mathlib.Core.Path.{sym}
use Prim.Native.Nat.{◌+◌}
use native.Mathlib.Omega.{arith}
use borrow.Author.Tests.{lt-leb}
use Rattle.text.proofs.TextLaws.{room-test}
use Rattle.text.proofs.bytes.has_room.Goals as goal

pub returns-then-length-n : goal.returns-then-length-n
returns-then-length-n c = let a = c.args in sym (lt-leb (a.at + a.n) a.length (omega arith))

pub returns : goal.returns
returns c = let a = c.args in room-test a.length a.at a.n (omega arith)
