-- `lines::lift_all` meets its contract: a pair of columns a turn, the last of an odd number behind the loop. Assumes nothing.
use mathlib.Core.Path.{◌≡◌}
use mathlib.Core.Bool.{false}
use Prim.Native.Nat.{◌+◌, ◌-◌, ◌*◌, ◌/◌, ◌≤◌}
use lib.ListN.{length}
use Rattle.numbers.specs.Signal.{at}
use Rattle.map_levels.specs.Sweep.{ColumnsMade}
use Rattle.map_levels.proofs.lines.lift_all.Given as goal

abbrev pub invariant-loop-k : goal.invariant-loop-k
invariant-loop-k g l =
    (l.pairs ≡ l.width / 2) × (length l.lines ≡ length l.initial.lines)
    × ColumnsMade false (2 * l.k) (λ i. g.T.Element.read l.area (l.a + i)) (λ i. g.T.Element.read l.area (l.b + i)) (λ i. g.T.Element.read l.area (l.c + i)) (at l.initial.lines) (at l.lines)
