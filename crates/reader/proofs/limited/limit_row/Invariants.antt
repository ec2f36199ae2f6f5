-- `reader::limited::limit_row` meets its contract: a sweep over the heights. Assumes nothing.
use mathlib.Core.Path.{◌≡◌, refl, sym, ◌∙◌}
use Prim.Native.Nat.{◌-◌, ◌≤◌}
use native.Mathlib.Omega.{arith}
use lib.ListN.{length}
use Rattle.numbers.specs.Signal.{at}
use Rattle.numbers.proofs.Sweep.{Swept, store}
use Rattle.lifting.specs.Halves.{fronted}
use Rattle.areas.specs.Areas.{heights_at, wholes}
use Rattle.areas.proofs.AreaLaws.{front_at, front_rest}
use Rattle.areas.proofs.HeightLaws.{start-heights, finish-heights}
use Rattle.reader.specs.Limited.{limited}
use Rattle.reader.proofs.limited.limit_row.Given as goal

abbrev pub invariant-loop-i : goal.invariant-loop-i
invariant-loop-i l =
    (length l.row ≤ length l.initial.out) × (length l.out ≡ length l.initial.out)
    × Swept (length l.initial.out) (fronted (length l.row) (λ c. limited (at l.row c)) (heights_at l.initial.out)) (heights_at l.initial.out) l.i (wholes l.out)
