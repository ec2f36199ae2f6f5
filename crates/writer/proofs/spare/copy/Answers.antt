use Prim.Native.Nat.{◌+◌, ◌-◌, ◌≤◌}
use native.Mathlib.Omega.{arith}
use lib.ListN.{length}
use Rattle.level.specs.Heights.{height_at}
use Rattle.level.proofs.FillLaws.{height-fits, height-read}
use Rattle.writer.proofs.SpareCells.{Copying, copy_start, copy-turn, copy-end}
use Rattle.writer.proofs.spare.copy.Goals as goal

pub loop-j-init : goal.loop-j-init
loop-j-init c = (omega arith, copy_start _ _ _ _ (omega arith))

pub overflow_cast-store : goal.overflow_cast-store
overflow_cast-store c = height-fits _ (omega (arith, c.shared_slice_known-1.given c.loop-j.j))

pub bounds-store-to : goal.bounds-store-to
bounds-store-to c = let i = c.loop-j.invariant.1 in omega (arith, i.swept.size, i.room)

pub loop-j-preserved : goal.loop-j-preserved
loop-j-preserved c =
    let l = c.loop-j in
    (omega arith, copy-turn _ _ _ _ _ _ _ l.invariant.1 (omega arith) (height-read _ (omega (arith, c.shared_slice_known-1.given l.j))))

pub shape_of-store : goal.shape_of-store
shape_of-store c = c.loop-j.invariant.1.swept.size

pub returns : goal.returns
returns c = copy-end _ _ _ _ _ _ c.loop-j.invariant.1 (omega arith)
