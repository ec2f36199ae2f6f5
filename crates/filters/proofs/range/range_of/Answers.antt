use mathlib.Core.Path.{◌≡◌, refl, ap, ◌∙◌}
use Prim.Native.Nat.{ℕ, suc, ◌*◌, ◌^◌, ◌≤◌, ◌<◌, min}
use native.Mathlib.Omega.{arith}
use native.Mathlib.Numerals.{add-one}
use lib.IntN.{ℤ, pos, ◌*ℤ◌}
use mir.Syntax.{w32}
use mir.Val.{SFits}
use mir.ValLaws.{to_z-of_z}
use Rattle.numbers.proofs.Integers.{each, lin}
use Rattle.wavelet.specs.Limits.{max_sample, range}
use Rattle.filters.specs.Range.{max_levels}
use Rattle.nine_seven.specs.NineSevenFilter.{nine_seven_filter}
use Rattle.filters.proofs.RangeLaws.{range-suc, range_small}
use Rattle.filters.proofs.range.range_of.Goals as goal

six-fits : (N : ℕ) (z : ℤ) → 6 * N < 2 ^ 31 → z ≡ pos N → SFits w32 (pos 6 *ℤ z)
six-fits N = each _ λ p q. simp lin (omega arith)

six-is : (N : ℕ) (z : ℤ) → z ≡ pos N → pos 6 *ℤ z ≡ pos (6 * N)
six-is N = each _ λ p q. simp lin (omega arith)

next_small : (k last : ℕ) → k < last → last ≤ max_levels → 6 * range nine_seven_filter k < 2 ^ 31
next_small k last h few = omega (arith, range-suc k, range_small (suc k) (omega arith))

pub loop-init : goal.loop-init
unfolding range max_sample max_levels
loop-init c = (omega (arith, c.min-end.ensures), refl)

pub overflow_mul-most : goal.overflow_mul-most
overflow_mul-most c = let inv = c.loop.invariant in six-fits (range nine_seven_filter c.loop.counter) _ (next_small _ _ c.loop-test.true inv.0) inv.1

pub loop-preserved : goal.loop-preserved
loop-preserved c =
    let k = c.loop.counter in
    let inv = c.loop.invariant in
    (inv.0, to_z-of_z w32 _ (overflow_mul-most c) ∙ six-is (range nine_seven_filter k) _ inv.1 ∙ rw (add-one, range-suc))

pub returns : goal.returns
unfolding max_levels
returns c =
    let l = c.loop in
    let e : l.counter ≡ min c.args.level max_levels = omega (arith, c.min-end.ensures) in
    l.invariant.1 ∙ ap (λ (k : ℕ). pos (range nine_seven_filter k)) e
