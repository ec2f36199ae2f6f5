-- `spare::copy` meets its contract: before turn j the first j heights stand in their places. Assumes nothing.
use Prim.Native.Nat.{◌+◌, ◌-◌, ◌≤◌}
use native.Mathlib.Omega.{arith}
use lib.ListN.{length}
use Rattle.level.specs.Heights.{height_at}
use Rattle.level.proofs.FillLaws.{height-fits, height-read}
use Rattle.writer.proofs.SpareCells.{Copying, copy_start, copy-turn, copy-end}
use Rattle.writer.proofs.spare.copy.Given as goal

abbrev pub invariant-loop-j : goal.invariant-loop-j
invariant-loop-j l = (l.n ≤ length l.run) × Copying l.to l.n (height_at l.run) l.initial.store l.j l.store
