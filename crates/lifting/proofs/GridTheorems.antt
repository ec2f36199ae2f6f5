-- The laws of the lifting of a line on the grid, over the definitions of specs/Grid alone, for a start of either parity.
-- `keep` is what is stored of a sum: `wrap32` in the calls, `whole` in T.800's own arithmetic; a law with any `keep` holds for both. `SFits w32 z` says that z
-- is a 32-bit number.
-- Proved by the general lifting (TwoSteps), or by the mirror worked out (GridLaws). Assumes nothing.
use Prim.Native.Nat.{ℕ, ◌+◌, ◌*◌, ◌^◌, ◌≤◌, ◌<◌}
use mathlib.Core.Path.{◌≡◌}
use mathlib.Core.Bool.{true}
use native.Mathlib.Decide.{dec_lt}
use native.Mathlib.Omega.{arith}
use lib.IntN.{ℤ, pos, nat_abs, ◌*ℤ◌}
use mir.Syntax.{w32}
use mir.Val.{SFits}
use Rattle.numbers.specs.Word.{wrap32, whole}
use Rattle.numbers.proofs.Integers.{each, lin}
use Rattle.numbers.proofs.Words.{abs-fits}
use Rattle.lifting.specs.Line.{predicted, updated, Half, lo, hi}
use Rattle.lifting.specs.Grid.{Side, side, place, count, line_forward, line_back, single_high, has_line}
use Rattle.lifting.proofs.GridLaws.{counts, some, place-in, high-near, low_near, low-one, high_one}
use Rattle.lifting.proofs.GridReads.{span-in}
use Rattle.lifting.proofs.TwoSteps as two
use Rattle.lifting.proofs.FiveThree.{five-three, words, wholes, line-back-forward, line-forward-back}

-- ---- the inverse, for every line of 32-bit numbers: there and back. A single sample at an odd coordinate comes back if its double fits 32 bits
module _ (S : Side) (x : ℕ → ℤ) (fits : (i : ℕ) → i < S.length → SFits w32 (x i)) where
  pub back-forward : (single_high S ≡ true → SFits w32 (pos 2 *ℤ x 0)) → (i : ℕ) → i < S.length → line_back wrap32 S (line_forward wrap32 S x) i ≡ x i
  back-forward = line-back-forward words S x fits

-- and back and there, for all values but those that give 14
module _ (S : Side) (c : Half → ℕ → ℤ) (fits : (h : Half) (n : ℕ) → n < count h S → SFits w32 (c h n)) where
  pub forward-back : has_line S c ≡ true → (h : Half) (n : ℕ) → n < count h S → line_forward wrap32 S (line_back wrap32 S c) h n ≡ c h n
  forward-back = line-forward-back words S c fits

-- the values of a line never give 14
pub forward-has : (S : Side) (x : ℕ → ℤ) → has_line S (line_forward wrap32 S x) ≡ true
forward-has = two.forward-has five-three

-- ---- the inverse in whole numbers
pub whole-back-forward : (S : Side) (x : ℕ → ℤ) (i : ℕ) → i < S.length → line_back whole S (line_forward whole S x) i ≡ x i
whole-back-forward S x = line-back-forward wholes S x (λ _ _. tt) (λ _. tt)

pub whole-forward-back : (S : Side) (c : Half → ℕ → ℤ) → has_line S c ≡ true → (h : Half) (n : ℕ) → n < count h S
    → line_forward whole S (line_back whole S c) h n ≡ c h n
whole-forward-back S c = line-forward-back wholes S c (λ _ _ _. tt)

-- ---- away from the end of the line it does not see the length: number n reads no place after that of low number n + 1
pub forward-inner : (keep : ℤ → ℤ) (s N N' : ℕ) (x : ℕ → ℤ) (h : Half) (n : ℕ) → place (side s N) lo (n + 1) < N → place (side s N') lo (n + 1) < N'
    → line_forward keep (side s N) x h n ≡ line_forward keep (side s N') x h n
forward-inner keep s N N' x h n l m =
    let p = span-in (side s N) h n in
    let q = span-in (side s N') h n in
    two.forward-inner five-three keep s N N' x h n (omega arith) (omega arith)

-- ---- ranges: samples within ±M give values within ±2M, the doubled one too, and where these are 32-bit numbers nothing wraps
predict-range : (M : ℕ) (x a b : ℤ) → nat_abs x ≤ M → nat_abs a ≤ M → nat_abs b ≤ M → nat_abs (predicted whole x a b) ≤ 2 * M
unfolding predicted
predict-range M = each _ λ p q. each _ λ r s. each _ λ t u. simp lin (omega arith)

update-range : (M : ℕ) (x a b : ℤ) → nat_abs x ≤ M → nat_abs a ≤ 2 * M → nat_abs b ≤ 2 * M → nat_abs (updated whole x a b) ≤ 2 * M
unfolding updated
update-range M = each _ λ p q. each _ λ r s. each _ λ t u. simp lin (omega arith)

double-range : (M : ℕ) (x : ℤ) → nat_abs x ≤ M → nat_abs (whole (pos 2 *ℤ x)) ≤ 2 * M
double-range M = each _ λ p q. simp lin (omega arith)

module _ (M : ℕ) (S : Side) (x : ℕ → ℤ) (within : (i : ℕ) → i < S.length → nat_abs (x i) ≤ M) where
  in-half : (h : Half) (n : ℕ) → n < count h S → nat_abs (x (place S h n)) ≤ M
  in-half h n b = within (place S h n) (place-in S h n b)

  high-range : 1 < S.length → (n : ℕ) → n < count hi S → nat_abs (line_forward whole S x hi n) ≤ 2 * M
  high-range g n b =
      let s = some S g in
      rw (high-near S g whole x n b) (predict-range M _ _ _ (in-half hi n b) (in-half lo _ (omega arith)) (in-half lo _ (omega arith)))

  pub forward-range : (h : Half) (n : ℕ) → n < count h S → nat_abs (line_forward whole S x h n) ≤ 2 * M
  forward-range lo n b =
      elim (dec_lt 1 S.length) [
        | yes g ↦
            let both = counts S in
            let s = some S g in
            rw (low_near S g whole x n b) (update-range M _ _ _ (in-half lo n b) (high-range g _ (omega arith)) (high-range g _ (omega arith)))
        | no d ↦ let w = in-half lo n b in rw (low-one S (omega arith) whole x n) (omega arith)
      ]
  forward-range hi n b =
      elim (dec_lt 1 S.length) [
        | yes g ↦ high-range g n b
        | no d ↦ rw (high_one S (omega arith) whole x n) (double-range M (x (place S hi n)) (in-half hi n b))
      ]

pub forward-exact : (M : ℕ) (S : Side) → 2 * M < 2 ^ 31 → (x : ℕ → ℤ) → ((i : ℕ) → i < S.length → nat_abs (x i) ≤ M) → (h : Half) (n : ℕ) → n < count h S
    → line_forward wrap32 S x h n ≡ line_forward whole S x h n
forward-exact M S small x within = two.forward-exact five-three S x (λ h n b. abs-fits _ _ small (forward-range M S x within h n b))
