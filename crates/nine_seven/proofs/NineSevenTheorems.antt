-- The laws of the integer 9/7 lifting of a line on the grid, over the definitions of specs/NineSeven alone, for a start of either parity.
-- `keep` is what is stored of a sum: `wrap32` in the calls, `whole` in the formulas' own arithmetic; a law with any `keep` holds for both. `SFits w32 z` says
-- that z is a 32-bit number. Proved by the general lifting (TwoSteps of `lifting`). Assumes nothing.
use Prim.Native.Nat.{ℕ, zero, suc, ◌+◌, ◌*◌, ◌/◌, ◌^◌, ◌≤◌, ◌<◌}
use mathlib.Core.Path.{◌≡◌}
use mathlib.Core.Bool.{true}
use native.Mathlib.Decide.{dec_lt}
use native.Mathlib.Omega.{arith}
use lib.IntN.{ℤ, pos, nat_abs, ◌+ℤ◌, ◌-ℤ◌, ◌*ℤ◌}
use lib.Signed.{shr_z}
use mir.Syntax.{w32}
use mir.Val.{SFits}
use Rattle.numbers.specs.Word.{wrap32, whole}
use Rattle.numbers.proofs.Integers.{each, lin}
use Rattle.numbers.proofs.Words.{abs-fits}
use Rattle.lifting.specs.Line.{Half, lo, hi}
use Rattle.lifting.specs.Grid.{Side, side, place, count, single_high, has_line}
use Rattle.lifting.proofs.GridLaws.{place-in}
use Rattle.lifting.proofs.Keeping.{Keeping, words, wholes}
use Rattle.lifting.proofs.Neighbours.{left, right, left-in, right-in}
use Rattle.lifting.proofs.TwoSteps as two
use Rattle.nine_seven.specs.NineSeven.{line_forward, line_back}
use Rattle.nine_seven.proofs.MirrorLaws.{far_before, far_after, far-before-in, far-after-in}
use Rattle.nine_seven.proofs.NineSeven.{nine-seven, quarter_sum, high-by, low-by}
use Rattle.nine_seven.proofs.NineSevenLaws.{low-one, high_one}
use Rattle.nine_seven.proofs.NineSevenReads.{span-in}

-- ---- the inverse over good numbers
module _ {keep : ℤ → ℤ} (K : Keeping keep) (S : Side) where
  open K use {Good}

  pub forward-good : (x : ℕ → ℤ) → ((i : ℕ) → i < S.length → Good (x i)) → (h : Half) (n : ℕ) → n < count h S → Good (line_forward keep S x h n)
  forward-good = two.forward-good nine-seven K S

  pub back-good : (c : Half → ℕ → ℤ) → ((h : Half) (n : ℕ) → n < count h S → Good (c h n)) → (i : ℕ) → i < S.length → Good (line_back keep S c i)
  unfolding line_back
  back-good = two.back-good nine-seven K S

  pub line-back-forward : (x : ℕ → ℤ) → ((i : ℕ) → i < S.length → Good (x i)) → (single_high S ≡ true → Good (pos 2 *ℤ x 0)) → (i : ℕ) → i < S.length
      → line_back keep S (line_forward keep S x) i ≡ x i
  unfolding line_back
  line-back-forward = two.back-forward nine-seven K S

  pub line-forward-back : (c : Half → ℕ → ℤ) → ((h : Half) (n : ℕ) → n < count h S → Good (c h n)) → has_line S c ≡ true → (h : Half) (n : ℕ) → n < count h S
      → line_forward keep S (line_back keep S c) h n ≡ c h n
  unfolding line_back
  line-forward-back = two.forward-back nine-seven K S

-- ---- for every line of 32-bit numbers: there and back. A single sample at an odd coordinate comes back if its double fits 32 bits
module _ (S : Side) (x : ℕ → ℤ) (fits : (i : ℕ) → i < S.length → SFits w32 (x i)) where
  pub back-forward : (single_high S ≡ true → SFits w32 (pos 2 *ℤ x 0)) → (i : ℕ) → i < S.length → line_back wrap32 S (line_forward wrap32 S x) i ≡ x i
  back-forward = line-back-forward words S x fits

-- and back and there, for all values but those that give 14
module _ (S : Side) (c : Half → ℕ → ℤ) (fits : (h : Half) (n : ℕ) → n < count h S → SFits w32 (c h n)) where
  pub forward-back : has_line S c ≡ true → (h : Half) (n : ℕ) → n < count h S → line_forward wrap32 S (line_back wrap32 S c) h n ≡ c h n
  forward-back = line-forward-back words S c fits

-- the values of a line never give 14
pub forward-has : (S : Side) (x : ℕ → ℤ) → has_line S (line_forward wrap32 S x) ≡ true
forward-has = two.forward-has nine-seven

-- ---- the inverse in whole numbers
pub whole-back-forward : (S : Side) (x : ℕ → ℤ) (i : ℕ) → i < S.length → line_back whole S (line_forward whole S x) i ≡ x i
whole-back-forward S x = line-back-forward wholes S x (λ _ _. tt) (λ _. tt)

pub whole-forward-back : (S : Side) (c : Half → ℕ → ℤ) → has_line S c ≡ true → (h : Half) (n : ℕ) → n < count h S
    → line_forward whole S (line_back whole S c) h n ≡ c h n
whole-forward-back S c = line-forward-back wholes S c (λ _ _ _. tt)

-- ---- away from the end of the line it does not see the length: number n reads no place after that of low number n + 2
pub forward-inner : (keep : ℤ → ℤ) (s N N' : ℕ) (x : ℕ → ℤ) (h : Half) (n : ℕ) → place (side s N) lo (n + 2) < N → place (side s N') lo (n + 2) < N'
    → line_forward keep (side s N) x h n ≡ line_forward keep (side s N') x h n
forward-inner keep s N N' x h n l m =
    let p = span-in (side s N) h n in
    let q = span-in (side s N') h n in
    two.forward-inner nine-seven keep s N N' x h n (omega arith) (omega arith)

-- two lines that agree so far, however they go on
pub forward-local : (keep : ℤ → ℤ) (s N N' : ℕ) (x y : ℕ → ℤ) (h : Half) (n : ℕ) → place (side s N) lo (n + 2) < N → place (side s N') lo (n + 2) < N'
    → ((i : ℕ) → i ≤ place (side s N') lo (n + 2) → x i ≡ y i) → line_forward keep (side s N) x h n ≡ line_forward keep (side s N') y h n
forward-local keep s N N' x y h n l m e =
    let p = span-in (side s N) h n in
    let q = span-in (side s N') h n in
    two.forward-local nine-seven keep s N N' x y h n (omega arith) (omega arith) (λ i r. e i (omega arith))

-- ---- ranges: samples within ±M give values within ±gain M, the doubled one too. Two directions take M to no more than 6M
abbrev pub gain : ℕ → ℕ
gain M = (9 * M + 2) / 4

pub gain-twice : (M : ℕ) → gain (gain M) ≤ 6 * M
gain-twice zero = omega arith
gain-twice (suc zero) = omega arith
gain-twice (suc (suc M)) = omega arith

pub gain-more : (M : ℕ) → M ≤ gain M
gain-more M = omega arith

sum-range : (M : ℕ) (a b : ℤ) → nat_abs a ≤ M → nat_abs b ≤ M → nat_abs (a +ℤ b) ≤ 2 * M
sum-range M = each _ λ p q. each _ λ r s. simp lin (omega arith)

high_small : (M : ℕ) (x y z : ℤ) → nat_abs x ≤ M → nat_abs y ≤ 2 * M → nat_abs z ≤ 2 * M
    → nat_abs (x -ℤ shr_z (pos 9 *ℤ y -ℤ z +ℤ pos 8) 16) ≤ gain M
high_small M = each _ λ p q. each _ λ r s. each _ λ t u. simp lin (omega arith)

low_small : (M : ℕ) (x a b : ℤ) → nat_abs x ≤ M → nat_abs a ≤ gain M → nat_abs b ≤ gain M → nat_abs (x +ℤ quarter_sum a b) ≤ gain M
low_small M = each _ λ p q. each _ λ r s. each _ λ t u. simp lin (omega arith)

double-small : (M : ℕ) (x : ℤ) → nat_abs x ≤ M → nat_abs (whole (pos 2 *ℤ x)) ≤ gain M
double-small M = each _ λ p q. simp lin (omega arith)

module _ (M : ℕ) (S : Side) (x : ℕ → ℤ) (within : (i : ℕ) → i < S.length → nat_abs (x i) ≤ M) where
  in-half : (h : Half) (n : ℕ) → n < count h S → nat_abs (x (place S h n)) ≤ M
  in-half h n b = within (place S h n) (place-in S h n b)

  high-range : 1 < S.length → (n : ℕ) → n < count hi S → nat_abs (line_forward whole S x hi n) ≤ gain M
  high-range g n b =
      let at : ℕ → ℤ = λ i. x (place S lo i) in
      rw (high-by whole S g x n b)
      (high_small M (x (place S hi n)) (at (left lo S n) +ℤ at (right lo S n)) (at (far_before S n) +ℤ at (far_after S n)) (in-half hi n b)
      (sum-range M (at (left lo S n)) (at (right lo S n)) (in-half lo _ (left-in lo S n g b).0) (in-half lo _ (right-in lo S n g b).0))
      (sum-range M (at (far_before S n)) (at (far_after S n)) (in-half lo _ (far-before-in S n g b).0) (in-half lo _ (far-after-in S n g b).0)))

  pub forward-range : (h : Half) (n : ℕ) → n < count h S → nat_abs (line_forward whole S x h n) ≤ gain M
  forward-range lo n b =
      elim (dec_lt 1 S.length) [
        | yes g ↦
            rw (low-by whole S g x n b)
            (low_small M (x (place S lo n)) (line_forward whole S x hi (left hi S n)) (line_forward whole S x hi (right hi S n)) (in-half lo n b)
            (high-range g _ (left-in hi S n g b).0) (high-range g _ (right-in hi S n g b).0))
        | no d ↦ let w = in-half lo n b in rw (low-one S (omega arith) whole x n) (omega (arith, gain-more M))
      ]
  forward-range hi n b =
      elim (dec_lt 1 S.length) [
        | yes g ↦ high-range g n b
        | no d ↦ rw (high_one S (omega arith) whole x n) (double-small M (x (place S hi n)) (in-half hi n b))
      ]

-- where these are 32-bit numbers nothing wraps
pub forward-exact : (M : ℕ) (S : Side) → gain M < 2 ^ 31 → (x : ℕ → ℤ) → ((i : ℕ) → i < S.length → nat_abs (x i) ≤ M) → (h : Half) (n : ℕ) → n < count h S
    → line_forward wrap32 S x h n ≡ line_forward whole S x h n
forward-exact M S small x within = two.forward-exact nine-seven S x (λ h n b. abs-fits _ _ small (forward-range M S x within h n b))
