-- `reader::walk::work_due` meets its contract: level by level, as the definition goes. Assumes nothing.
use mathlib.Core.Path.{◌≡◌, ◌∙◌, refl, sym}
use Prim.Native.Nat.{◌-◌, ◌≤◌, ◌<◌, ◌+◌}
use native.Mathlib.Nat.{le_trans, le_of_eq}
use native.Mathlib.Omega.{arith}
use lib.ListN.{length}
use borrow.Author.Tests.{not-true, not-false}
use Rattle.numbers.specs.Signal.{at}
use Rattle.lifting.specs.Grid.{side}
use Rattle.filters.specs.Filters.{filter_of}
use Rattle.filters.specs.Figures.{store_by}
use Rattle.filters.proofs.FigureLaws.{levels-most}
use Rattle.level.specs.Rebuilding.{Kept}
use Rattle.level.proofs.WorkLaws.{told-no, told-yes}
use Rattle.level.proofs.KeptLaws.{kept-none, kept-both}
use Rattle.reader.specs.Admission.{Admits}
use Rattle.reader.specs.Machine.{settled}
use Rattle.reader.specs.Inside.{Small, IsLevel}
use Rattle.reader.proofs.WalkLaws.{step_down, none_left, work-due-none, work-due-failed, work-due-on}
use Rattle.reader.proofs.walk.work_due.Given as goal

abbrev pub invariant-loop-k : goal.invariant-loop-k
invariant-loop-k l =
    Small (side l.x l.width) (side l.y l.height) l.drawn × (l.base + l.levels ≤ (filter_of l.filter).levels) × (l.k ≤ l.levels) ×
    (store_by l.filter (side l.x l.width) l.levels ≤ length l.initial.store)
    × (length l.store ≡ length l.initial.store)
    × (0 < l.k → IsLevel l.filter (side l.x l.width) (side l.y l.height) l.drawn (l.k - 1) l.m)
    × (settled l.admission l.filter l.base (side l.x l.width) (side l.y l.height) l.levels l.to l.k l.m.set (at l.store)
    ≡ settled l.admission l.filter l.base (side l.x l.width) (side l.y l.height) l.levels l.to l.from l.initial.m.set (at l.initial.store))
    × Kept (store_by l.filter (side l.x l.width) l.levels) (at l.initial.store) (at l.store)
    × Admits l.admission l.filter l.base (side l.x l.width) (side l.y l.height)
