-- `levels::rows_even` meets its contract: only a single column at an odd coordinate is asked. Assumes nothing.
use mathlib.Core.Path.{◌≡◌, sym, ap, ◌∙◌}
use Prim.Native.Nat.{ℕ, ◌+◌, ◌*◌}
use native.Mathlib.Omega.{arith}
use borrow.Author.Tests.{not-true, not-false}
use Rattle.numbers.specs.Signal.{at}
use Rattle.numbers.proofs.TestLaws.{every-same}
use Rattle.lifting.specs.Grid.{is_even}
use Rattle.wavelet.specs.Plane.{cells}
use Rattle.map_levels.specs.LevelPasses.{rows_even}
use Rattle.map_levels.proofs.levels.rows_even.Goals as goal

pub returns-then-not-is_single : goal.returns-then-not-is_single
unfolding rows_even
returns-then-not-is_single c = simp (sym c.is_single.ensures ∙ not-true _ c.if-not-is_single.true-raw)

pub returns : goal.returns
unfolding rows_even cells
returns c =
    let a = c.args in
    simp (sym c.is_single.ensures ∙ not-false _ c.if-not-is_single.false-raw)
    (c.column_even.ensures
    ∙ every-same a.height _ _ (λ i _. let e : i * a.across ≡ i * a.across + 0 = omega arith in ap (λ (p : ℕ). is_even (at a.plane.now p)) e))
