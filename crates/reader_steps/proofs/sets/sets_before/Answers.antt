-- `reader_steps::sets::sets_before` meets its contract: none, or one more than the set of the row before. Assumes nothing.
use Prim.Native.Nat.{◌-◌}
use native.Mathlib.Omega.{arith}
use mathlib.Core.Path.{◌∙◌, sym, ap}
use Rattle.lifting.specs.Grid.{side}
use Rattle.wavelet.specs.Steps.{sets_before}
use Rattle.wavelet.proofs.StepLaws.{before-zero, set_there}
use Rattle.reader_steps.specs.Sets.{ahead}
use Rattle.reader_steps.proofs.OpenedSets.{last-is}
use Rattle.reader_steps.proofs.SetLaws.{before-later}
use Rattle.reader_steps.proofs.sets.sets_before.Goals as goal

pub overflow_sub-r : goal.overflow_sub-r
overflow_sub-r c = omega arith

pub overflow_add-result : goal.overflow_add-result
overflow_add-result c =
    let a = c.args in
    omega (arith, c.set_of.ensures, set_there (ahead a.filter) (side a.y a.h) (a.r - 1), last-is (side a.y a.h))

pub returns-then-r-eq0 : goal.returns-then-r-eq0
returns-then-r-eq0 c =
    let a = c.args in
    sym (before-zero (ahead a.filter) (side a.y a.h)) ∙ ap (sets_before (ahead a.filter) (side a.y a.h)) (sym c.if-r-eq0.true)

pub returns-else-r-eq0 : goal.returns-else-r-eq0
returns-else-r-eq0 c = let a = c.args in before-later a.filter (side a.y a.h) a.r _ (omega arith) c.set_of.ensures
