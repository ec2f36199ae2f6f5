-- `sets::lift_line` meets its contract: the filter's own line call. Assumes nothing.
use mathlib.Core.Path.{ap, ◌∙◌}
use Prim.Native.Nat.{ℕ}
use lib.IntN.{ℤ}
use Rattle.numbers.specs.Signal.{at}
use lib.ListN.{length}
use Rattle.lifting.specs.Grid.{Side, side}
use Rattle.analysis.proofs.CallLaws.{along-first, along-second}
use Rattle.analysis.proofs.sets.lift_line.Goals as goal

pub shape_of-line-then-filter-eq0 : goal.shape_of-line-then-filter-eq0
shape_of-line-then-filter-eq0 c = c.lift.auto.line

pub returns-then-filter-eq0 : goal.returns-then-filter-eq0
returns-then-filter-eq0 c =
    let a = c.args in
    c.lift.ensures
    ∙ ap (λ (g : Side → (ℕ → ℤ) → ℕ → ℤ). g (side a.x (length a.line.now)) (at a.line.now)) (along-first a.filter c.if-filter-eq0.true)

pub shape_of-line : goal.shape_of-line
shape_of-line c = c.lift-2.auto.line

pub returns : goal.returns
returns c =
    let a = c.args in
    c.lift-2.ensures
    ∙ ap (λ (g : Side → (ℕ → ℤ) → ℕ → ℤ). g (side a.x (length a.line.now)) (at a.line.now)) (along-second a.filter c.if-filter-eq0.false)
