-- `closing::close_level` meets its contract. The loop's invariant: what the steps from step k on come to is what all of them do. Assumes nothing.
use mathlib.Core.Path.{◌≡◌, refl, ◌∙◌}
use Prim.Native.Nat.{◌-◌, ◌≤◌, max}
use native.Mathlib.Omega.{arith}
use lib.ListN.{length}
use Rattle.numbers.specs.Signal.{at}
use Rattle.lifting.specs.Grid.{side}
use Rattle.filters.specs.Filters.{filter_of}
use Rattle.writer.proofs.ClosingLaws.{from, level-done, level-waits, level-on}
use Rattle.writer.proofs.closing.close_level.Given as goal

abbrev pub invariant-loop-k : goal.invariant-loop-k
invariant-loop-k l =
    (length l.store ≡ length l.initial.store) × (l.a ≡ (filter_of l.filter).ahead) × (from l.filter l.l (side l.x l.w) l.y l.m l.k (at l.store) ≡ from l.filter l.l (side l.x l.w) l.y l.m l.c (at l.initial.store)) × (l.k ≤ max l.c l.a)
