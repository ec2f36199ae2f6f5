-- `bytes::put_bytes` meets its contract: all of the text is copied, where it fits. Assumes nothing.
use Prim.Native.Nat.{◌+◌}
use native.Mathlib.Omega.{arith}
use lib.ListN.{length}
use Rattle.text.proofs.TextLaws.{fits, fits_not, puts_whole, puts_none, wrote-all}
use Rattle.text.proofs.bytes.put_bytes.Goals as goal

pub copy_some-requires : goal.copy_some-requires
copy_some-requires c =
    (omega arith, fits _ _ c.has_room.ensures c.if-has_room.true)

pub overflow_add-result : goal.overflow_add-result
overflow_add-result c =
    let a = c.args in
    omega (arith, fits (a.at + length a.text.now) (length a.out.now) c.has_room.ensures c.if-has_room.true)

pub shape_of-out-then-has_room : goal.shape_of-out-then-has_room
shape_of-out-then-has_room c = c.copy_some.auto.out

pub returns-then-has_room : goal.returns-then-has_room
returns-then-has_room c =
    puts_whole (wrote-all _ _ _ _ (fits _ _ c.has_room.ensures c.if-has_room.true) c.copy_some.ensures)

pub returns : goal.returns
returns c = puts_none _ _ _ (fits_not _ _ c.has_room.ensures c.if-has_room.false)
