use mathlib.Core.Path.{refl}
use Prim.Native.Nat.{◌-◌}
use native.Mathlib.Omega.{arith}
use lib.IntN.{pos}
use Rattle.writer.proofs.Filling.{Fronting, front-start, front-turn, front-end}
use Rattle.writer.proofs.copies.clear.Goals as goal

pub loop-j-init : goal.loop-j-init
loop-j-init c = front-start _ _ _ (omega arith)

pub slice_set_of-store : goal.slice_set_of-store
slice_set_of-store c = omega (arith, c.loop-j.invariant.swept.size)

pub loop-j-preserved : goal.loop-j-preserved
loop-j-preserved c = front-turn _ _ _ _ _ _ c.loop-j.invariant (omega arith) refl

pub shape_of-store : goal.shape_of-store
shape_of-store c = c.loop-j.invariant.swept.size

pub returns : goal.returns
returns c = front-end _ _ _ _ _ c.loop-j.invariant (omega arith)
