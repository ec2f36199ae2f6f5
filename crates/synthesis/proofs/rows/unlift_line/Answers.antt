-- `synthesis::rows::unlift_line` meets its contract: the filter's own line call. Assumes nothing.
use mathlib.Core.Path.{ap, ◌∙◌}
use lib.IntN.{ℤ}
use lib.ListN.{length}
use Prim.Native.Nat.{ℕ}
use Rattle.numbers.specs.Signal.{at, pick}
use Rattle.lifting.specs.Grid.{Side, side}
use Rattle.lifting.specs.GridHalves.{has_line_in}
use Rattle.synthesis.proofs.CallLaws.{along-first, along-second}
use Rattle.synthesis.proofs.rows.unlift_line.Goals as goal

pub shape_of-line-then-filter-eq0 : goal.shape_of-line-then-filter-eq0
shape_of-line-then-filter-eq0 c = c.unlift.auto.line

pub returns-then-filter-eq0 : goal.returns-then-filter-eq0
returns-then-filter-eq0 c =
    let a = c.args in
    let S = side a.x (length a.line.now) in
    let x = at a.line.now in
    record {
      value = c.code.ensures ∙ c.unlift.ensures.value;
      line_after = c.unlift.ensures.line_after ∙ ap (λ (g : Side → (ℕ → ℤ) → ℕ → ℤ). pick (has_line_in S x) (g S x) x) (along-first a.filter
          c.if-filter-eq0.true);
    }

pub shape_of-line : goal.shape_of-line
shape_of-line c = c.unlift-2.auto.line

pub returns : goal.returns
returns c =
    let a = c.args in
    let S = side a.x (length a.line.now) in
    let x = at a.line.now in
    record {
      value = c.unlift-2.ensures.value;
      line_after = c.unlift-2.ensures.line_after ∙ ap (λ (g : Side → (ℕ → ℤ) → ℕ → ℤ). pick (has_line_in S x) (g S x) x) (along-second a.filter
          c.if-filter-eq0.false);
    }
