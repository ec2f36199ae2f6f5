use Prim.Native.Nat.{◌+◌, ◌-◌, ◌≤◌}
use native.Mathlib.Omega.{arith}
use lib.ListN.{length}
use Rattle.numbers.specs.Signal.{at}
use Rattle.numbers.proofs.Words.{read_back}
use Rattle.writer.proofs.Filling.{Fronting, front-start, front-turn, front-end}
use Rattle.writer.proofs.copies.hand_out.Goals as goal

pub loop-j-init : goal.loop-j-init
loop-j-init c = (omega arith, front-start _ _ _ (omega arith))

pub bounds-out-j : goal.bounds-out-j
bounds-out-j c = omega (arith, c.loop-j.invariant.1.swept.size)

pub loop-j-preserved : goal.loop-j-preserved
loop-j-preserved c =
    (omega arith, front-turn _ _ _ _ _ _ c.loop-j.invariant.1 (omega arith) (read_back _ c.out-1.given))

pub shape_of-out : goal.shape_of-out
shape_of-out c = c.loop-j.invariant.1.swept.size

pub returns : goal.returns
returns c = front-end _ _ _ _ _ c.loop-j.invariant.1 (omega arith)
