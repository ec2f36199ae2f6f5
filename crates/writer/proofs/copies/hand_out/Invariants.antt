-- `copies::hand_out` meets its contract: the front of `out` is filled. Assumes nothing.
use Prim.Native.Nat.{◌+◌, ◌-◌, ◌≤◌}
use native.Mathlib.Omega.{arith}
use lib.ListN.{length}
use Rattle.numbers.specs.Signal.{at}
use Rattle.numbers.proofs.Words.{read_back}
use Rattle.writer.proofs.Filling.{Fronting, front-start, front-turn, front-end}
use Rattle.writer.proofs.copies.hand_out.Given as goal

abbrev pub invariant-loop-j : goal.invariant-loop-j
invariant-loop-j l = (l.start + l.count ≤ length l.store) × Fronting l.count (λ i. at l.store (l.start + i)) l.initial.out l.j l.out
