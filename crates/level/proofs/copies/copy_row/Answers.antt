use Prim.Native.Nat.{◌-◌}
use native.Mathlib.Omega.{arith}
use Rattle.numbers.proofs.Words.{read_back}
use Rattle.lifting.proofs.RowSweep.{Turned, row-start, row-turn, row-end}
use Rattle.lifting.specs.Pairs.{first}
use Rattle.level.proofs.copies.copy_row.Goals as goal

pub loop-i-init : goal.loop-i-init
loop-i-init c =
    row-start _ _ _ _ _ _ _
    (record {
      one = record { wide = omega arith; room = omega arith };
      two = record { wide = omega arith; room = omega arith };
      three = record { wide = omega arith; room = omega arith };
    })

pub offset_bounds-store-f : goal.offset_bounds-store-f
offset_bounds-store-f c = omega (arith, c.loop-i.invariant.swept.size)

pub slice_copy_out-store : goal.slice_copy_out-store
slice_copy_out-store c = omega (arith, c.loop-i.invariant.swept.size)

pub bounds-store-t : goal.bounds-store-t
bounds-store-t c = omega (arith, c.loop-i.invariant.swept.size)

pub loop-i-preserved : goal.loop-i-preserved
loop-i-preserved c = rw (read_back _ c.store-1.given) (row-turn _ _ _ _ _ _ _ _ _ c.loop-i.invariant (omega arith))

pub shape_of-store : goal.shape_of-store
shape_of-store c = c.loop-i.invariant.swept.size

pub returns : goal.returns
returns c = row-end _ _ _ _ _ _ _ _ _ c.loop-i.invariant (omega arith)
