use mathlib.Core.Path.{◌≡◌, refl, ap, ◌∙◌}
use Prim.Native.Nat.{ℕ, suc, ◌*◌, ◌^◌, ◌≤◌, ◌<◌, min}
use native.Mathlib.Omega.{arith}
use native.Mathlib.Numerals.{add-one}
use lib.IntN.{ℤ, pos, ◌*ℤ◌}
use mir.Syntax.{w32}
use mir.Val.{SFits}
use mir.ValLaws.{to_z-of_z}
use Rattle.numbers.proofs.Integers.{each, lin}
use Rattle.lifting.specs.FiveThree.{five_three_filter}
use Rattle.lifting.proofs.FiveThreeFilter.{five-three-laws}
use Rattle.wavelet.specs.Limits.{max_levels, max_sample, range}
use Rattle.wavelet.proofs.LimitLaws.{five-three-few}
use Rattle.wavelet.proofs.Bridge.{range-suc, range_small}
use Rattle.wavelet.proofs.sizes.range_of.Goals as goal

four-fits : (N : ℕ) (z : ℤ) → 4 * N < 2 ^ 31 → z ≡ pos N → SFits w32 (pos 4 *ℤ z)
four-fits N = each _ λ p q. simp lin (omega arith)

four_is : (N : ℕ) (z : ℤ) → z ≡ pos N → pos 4 *ℤ z ≡ pos (4 * N)
four_is N = each _ λ p q. simp lin (omega arith)

next_small : (k last : ℕ) → k < last → last ≤ max_levels → 4 * range five_three_filter k < 2 ^ 31
next_small k last h few =
    omega (arith, range-suc five_three_filter five-three-laws k, range_small five_three_filter five-three-laws (suc k) (five-three-few (omega arith)))

pub loop-init : goal.loop-init
unfolding range max_sample max_levels
loop-init c = (omega (arith, c.min-end.ensures), refl)

pub overflow_mul-most : goal.overflow_mul-most
overflow_mul-most c = let inv = c.loop.invariant in four-fits (range five_three_filter c.loop.counter) _ (next_small _ _ c.loop-test.true inv.0) inv.1

pub loop-preserved : goal.loop-preserved
loop-preserved c =
    let k = c.loop.counter in
    let inv = c.loop.invariant in
    (inv.0, to_z-of_z w32 _ (overflow_mul-most c) ∙ four_is (range five_three_filter k) _ inv.1 ∙ rw (add-one, range-suc five_three_filter five-three-laws))

pub returns : goal.returns
unfolding max_levels
returns c =
    let l = c.loop in
    let e : l.counter ≡ min c.args.level max_levels = omega (arith, c.min-end.ensures) in
    l.invariant.1 ∙ ap (λ (k : ℕ). pos (range five_three_filter k)) e
