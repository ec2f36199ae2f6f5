-- `one_pass`: before the pair at 2k the four values carried are the four passes' own, and the area holds the profile below it (`Turned`). Assumes nothing.
use Prim.Native.Nat.{◌*◌}
use lib.ListN.{length}
use Rattle.profile.specs.Calls.{heights}
use Rattle.profile.proofs.TurnLaws.{Turned}
use Rattle.profile.proofs.pairs.one_pass.Given as goal

abbrev pub invariant-loop-k : goal.invariant-loop-k
invariant-loop-k l = Turned (length l.row) (heights l.row) l.initial.out (2 * l.k) l.s l.out
