-- The steps with 32-bit sums are T.800's where the numbers are small, and those of a map are. Assumes nothing.
use mathlib.Core.Path.{◌≡◌, refl, sym, ap, ◌∙◌}
use Prim.Native.Nat.{ℕ, ◌+◌, ◌-◌, ◌*◌, ◌%◌, ◌^◌, ◌≤◌, ◌<◌}
use native.Mathlib.Decide.{dec_lt}
use borrow.Author.Tests.{lt-ltb, le-ltb}
use native.Mathlib.Omega.{arith}
use lib.IntN.{ℤ, pos, nat_abs, ◌+ℤ◌, ◌-ℤ◌}
use lib.Signed.{shr_z}
use mir.Syntax.{w32}
use mir.Val.{SFits}
use Rattle.numbers.specs.Word.{wrap32}
use Rattle.numbers.proofs.Integers.{each, lin, dif-nat_abs}
use Rattle.lifting.specs.Line.{lo, predicted, updated}
use Rattle.lifting.specs.Grid.{Side, count}
use Rattle.lifting.specs.GridHalves.{lifted_in_place}
use Rattle.lifting.specs.Passes.{near, highs_changed, lows_changed}
use Rattle.lifting.proofs.GridLaws.{some}
use Rattle.lifting.proofs.PassLaws.{highs-low, highs-high, lows-low, lows-past, lifted-is}
use Rattle.map_levels.specs.Sweep.{short_predicted, short_updated, short_lifted}

pub sum_kept : (a b : ℤ) → nat_abs a ≤ 2 ^ 29 → nat_abs b ≤ 2 ^ 29 → wrap32 (a +ℤ b) ≡ a +ℤ b
unfolding wrap32
sum_kept = each _ λ p q. each _ λ r s. simp (lin, dif-nat_abs) (omega arith)

pub two-kept : (a b : ℤ) → nat_abs a ≤ 2 ^ 29 → nat_abs b ≤ 2 ^ 29 → wrap32 (a +ℤ b +ℤ pos 2) ≡ a +ℤ b +ℤ pos 2
unfolding wrap32
two-kept = each _ λ p q. each _ λ r s. simp (lin, dif-nat_abs) (omega arith)

pub short-predicted : (x a b : ℤ) → nat_abs a ≤ 2 ^ 29 → nat_abs b ≤ 2 ^ 29 → short_predicted x a b ≡ predicted wrap32 x a b
unfolding short_predicted predicted
short-predicted x a b f g = ap (λ (s : ℤ). wrap32 (x -ℤ shr_z s 2)) (sum_kept a b f g)

pub short-updated : (x a b : ℤ) → nat_abs a ≤ 2 ^ 29 → nat_abs b ≤ 2 ^ 29 → short_updated x a b ≡ updated wrap32 x a b
unfolding short_updated updated
short-updated x a b f g =
    ap (λ (s : ℤ). wrap32 (x +ℤ shr_z (wrap32 (s +ℤ pos 2)) 4)) (sum_kept a b f g) ∙ ap (λ (s : ℤ). wrap32 (x +ℤ shr_z s 4)) (two-kept a b f g)

-- a quarter of a 32-bit number is one
pub quarter-fits : (z : ℤ) → SFits w32 z → SFits w32 (shr_z z 4)
quarter-fits = each _ λ p q. simp lin (omega arith)

-- ---- a line lifted by them
module _ (S : Side) (y y' : ℕ → ℤ) where
  pub single-lifted : S.length < 2 → y' ≡ lifted_in_place S y → y' ≡ short_lifted S y
  unfolding short_lifted
  single-lifted b is = simp (le-ltb 1 S.length (omega arith)) is

pub short-lifted : (S : Side) (low m : ℕ) (y y₁ y₂ : ℕ → ℤ) → 1 < S.length → low ≡ count lo S → m ≡ S.length →
    y₁ ≡ highs_changed short_predicted (1 - S.start % 2) low S.length y → y₂ ≡ lows_changed short_updated (S.start % 2) low m y₁ → y₂ ≡ short_lifted S y
unfolding short_lifted
short-lifted S low m y y₁ y₂ more e k is₁ is₂ = simp (lt-ltb 1 S.length more) (is₂ ∙ rw (is₁, k, e) refl)

-- how far numbers within M grow by a step
pub half-within : (M : ℕ) (a b : ℤ) → nat_abs a ≤ M → nat_abs b ≤ M → nat_abs (shr_z (a +ℤ b) 2) ≤ M
half-within M = each _ λ p q. each _ λ r s. simp (lin, dif-nat_abs) (omega arith)

less-kept : (a b : ℤ) → nat_abs a ≤ 2 ^ 29 → nat_abs b ≤ 2 ^ 29 → wrap32 (a -ℤ b) ≡ a -ℤ b
unfolding wrap32
less-kept = each _ λ p q. each _ λ r s. simp (lin, dif-nat_abs) (omega arith)

less-within : (M : ℕ) (a b : ℤ) → nat_abs a ≤ M → nat_abs b ≤ M → nat_abs (a -ℤ b) ≤ 2 * M
less-within M = each _ λ p q. each _ λ r s. simp (lin, dif-nat_abs) (omega arith)

pub less-small : (M : ℕ) (x h : ℤ) → M ≤ 2 ^ 28 → nat_abs x ≤ M → nat_abs h ≤ M → nat_abs (wrap32 (x -ℤ h)) ≤ 2 * M
less-small M x h most f g = rw (less-kept x h (omega arith) (omega arith)) (less-within M x h f g)

-- a high value of a small line, by the standard's step
predicted-small : (x a b : ℤ) → nat_abs x ≤ 2 ^ 27 → nat_abs a ≤ 2 ^ 27 → nat_abs b ≤ 2 ^ 27 → nat_abs (predicted wrap32 x a b) ≤ 2 ^ 28
unfolding predicted
predicted-small x a b f g h = omega (arith, less-small (2 ^ 27) x (shr_z (a +ℤ b) 2) (omega arith) f (half-within (2 ^ 27) a b g h))

module _ (S : Side) (y : ℕ → ℤ) (more : 1 < S.length) (small : (j : ℕ) → j < S.length → nat_abs (y j) ≤ 2 ^ 27) where
  abbrev low : ℕ
  low = count lo S

  abbrev N : ℕ
  N = S.length

  abbrev o : ℕ
  o = S.start % 2

  abbrev shorts : ℕ → ℤ
  shorts = highs_changed short_predicted (1 - o) low N y

  abbrev highs : ℕ → ℤ
  highs = highs_changed (predicted wrap32) (1 - o) low N y

  high_same : (n : ℕ) → low + n < N → shorts (low + n) ≡ highs (low + n)
  high_same n b =
      let s = some S more in
      let l = near low (n + (1 - o) - 1) in
      let r = near low (n + (1 - o)) in
      highs-high short_predicted (1 - o) low N y n b
      ∙ short-predicted _ _ _ (omega (arith, small l (omega arith))) (omega (arith, small r (omega arith)))
      ∙ sym (highs-high (predicted wrap32) (1 - o) low N y n b)

  high_small : (n : ℕ) → low + n < N → nat_abs (highs (low + n)) ≤ 2 ^ 28
  high_small n b =
      let s = some S more in
      rw (highs-high (predicted wrap32) (1 - o) low N y n b)
      (predicted-small _ _ _ (small (low + n) b) (small (near low (n + (1 - o) - 1)) (omega arith)) (small (near low (n + (1 - o))) (omega arith)))

  low_same : (j : ℕ) → j < low → lows_changed short_updated o low N shorts j ≡ lows_changed (updated wrap32) o low N highs j
  low_same j b =
      let s = some S more in
      let k = near (N - low) (j + o - 1) in
      let m = near (N - low) (j + o) in
      let kb : low + k < N = omega arith in
      let mb : low + m < N = omega arith in
      let h : shorts j ≡ highs j = highs-low short_predicted (1 - o) low N y j b ∙ sym (highs-low (predicted wrap32) (1 - o) low N y j b) in
      lows-low short_updated o low N shorts j b
      ∙ cc (h, high_same k kb, high_same m mb)
      ∙ short-updated (highs j) (highs (low + k)) (highs (low + m)) (omega (arith, high_small k kb)) (omega (arith, high_small m mb))
      ∙ sym (lows-low (updated wrap32) o low N highs j b)

  both-same : (j : ℕ) → j < N → lows_changed short_updated o low N shorts j ≡ lows_changed (updated wrap32) o low N highs j
  both-same j b =
      elim (dec_lt j low) [
        | yes l ↦ low_same j l
        | no l ↦
            let e : low + (j - low) ≡ j = omega arith in
            lows-past short_updated o low N shorts j (omega arith)
            ∙ (rw e at (high_same (j - low) (omega arith)))
            ∙ sym (lows-past (updated wrap32) o low N highs j (omega arith))
      ]

  more_same : (j : ℕ) → j < N → short_lifted S y j ≡ lifted_in_place S y j
  unfolding short_lifted
  more_same j b = simp (lt-ltb 1 N more) (both-same j b ∙ sym (ap (λ (f : ℕ → ℤ). f j) (lifted-is S y more)))

-- a small line in halves is lifted as the standard says
pub short-same : (S : Side) (y : ℕ → ℤ) → ((j : ℕ) → j < S.length → nat_abs (y j) ≤ 2 ^ 27) → (j : ℕ) → j < S.length → short_lifted S y j ≡ lifted_in_place S y j
unfolding short_lifted
short-same S y small j b =
    elim (dec_lt 1 S.length) [
      | yes more ↦ more_same S y more small j b
      | no d ↦ simp (le-ltb 1 S.length (omega arith))
    ]
