-- `areas::copies::clear` meets its contract: a sweep over the front of the area. Assumes nothing.
use Prim.Native.Nat.{◌≤◌}
use lib.IntN.{pos}
use lib.ListN.{length}
use Rattle.numbers.proofs.Sweep.{Swept}
use Rattle.lifting.specs.Halves.{fronted}
use Rattle.areas.proofs.copies.clear.Given as goal

abbrev pub invariant-loop-i : goal.invariant-loop-i
invariant-loop-i g l =
    let e = g.T.Element in
    (l.n ≤ length l.initial.area) × Swept (length l.initial.area) (fronted l.n (λ _. pos 0) (e.read l.initial.area)) (e.read l.initial.area) l.i (e.wholes l.area)
