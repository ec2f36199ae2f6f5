-- `lines::end_all` meets its contract: a column a turn. Assumes nothing.
use mathlib.Core.Path.{◌≡◌}
use mathlib.Core.Bool.{true}
use Prim.Native.Nat.{ℕ, ◌+◌, ◌-◌, ◌≤◌}
use lib.IntN.{ℤ}
use lib.ListN.{length}
use Rattle.numbers.specs.Signal.{at}
use Rattle.map_levels.specs.Sweep.{ColumnsMade}
use Rattle.map_levels.proofs.lines.end_all.Given as goal

abbrev pub invariant-loop-i : goal.invariant-loop-i
invariant-loop-i g l =
    (length l.lines ≡ length l.initial.lines) × ((b c : ℕ → ℤ) → ColumnsMade true l.i (λ i. g.T.Element.read l.area (l.a + i)) b c (at l.initial.lines) (at l.lines))
