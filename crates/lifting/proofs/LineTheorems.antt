-- The laws of the lifting of a line, over the definitions of specs/Line alone.
-- `keep` is what is stored of a sum: `wrap32` in the calls, `whole` in T.800's own arithmetic; a law with any `keep` holds for both. `SFits w32 z` says that z
-- is a 32-bit number.
-- Proved by the lines on the grid at a start of 0, or by working out the mirror. Assumes nothing.
use Prim.Native.Nat.{ℕ, zero, suc, ◌+◌, ◌*◌, ◌^◌, ◌≤◌, ◌<◌}
use mathlib.Core.Path.{◌≡◌, sym, ◌∙◌}
use native.Mathlib.Omega.{arith}
use lib.IntN.{ℤ, nat_abs}
use mir.Syntax.{w32}
use mir.Val.{SFits}
use Rattle.numbers.specs.Word.{wrap32, whole}
use Rattle.lifting.specs.Line.{predicted, updated, unpredicted, unupdated, high, low, back_even, Half, lo, hi, count, line_forward, line_halves_back}
use Rattle.lifting.specs.Line.{line_back}
use Rattle.lifting.specs.Grid as grid
use Rattle.lifting.specs.Grid.{side}
use Rattle.lifting.proofs.Filter.{in_place, by_place}
use Rattle.lifting.proofs.FiveThree.{Keeping, words, wholes}
use Rattle.lifting.proofs.FiveThree as fivethree
use Rattle.lifting.proofs.GridReads as reads
use Rattle.lifting.proofs.GridTheorems as theorems
use Rattle.lifting.proofs.LineNear.{high-near, low_near, even-near, odd-near, joined-place}
use Rattle.lifting.proofs.AtZero.{count-zero, forward-zero, back-zero, has-any, never-single}

-- ---- by the lines on the grid, at a start of 0 (AtZero)
module _ (N : ℕ) where
  counted : (h : Half) (n : ℕ) → n < grid.count h (side 0 N) → n < count h N
  counted h n b = rw (count-zero h N) at b

  counts-in : (h : Half) (n : ℕ) → n < count h N → n < grid.count h (side 0 N)
  counts-in h n b = rw (count-zero h N) b

module _ {keep : ℤ → ℤ} (K : Keeping keep) (N : ℕ) where
  open K use {Good}

  module _ (x : ℕ → ℤ) (good : (i : ℕ) → i < N → Good (x i)) where
    pub line-back-forward : (i : ℕ) → i < N → line_back keep N (line_forward keep N x) i ≡ x i
    line-back-forward i b =
        sym (back-zero keep N (line_forward keep N x) i b)
        ∙ reads.back-reads keep (side 0 N) (line_forward keep N x) (grid.line_forward keep (side 0 N) x)
        (λ h n p. sym (forward-zero keep N x h n (counted N h n p))) i b
        ∙ fivethree.line-back-forward K (side 0 N) x good (λ e. absurd (never-single N e)) i b

  module _ (c : Half → ℕ → ℤ) (good : (h : Half) (n : ℕ) → n < count h N → Good (c h n)) where
    pub line-forward-back : (h : Half) (n : ℕ) → n < count h N → line_forward keep N (line_back keep N c) h n ≡ c h n
    line-forward-back h n b =
        sym (forward-zero keep N (line_back keep N c) h n b)
        ∙ reads.forward-reads keep (side 0 N) (line_back keep N c) (grid.line_back keep (side 0 N) c) h n (counts-in N h n b)
        (λ i p _. sym (back-zero keep N c i p))
        ∙ fivethree.line-forward-back K (side 0 N) c (λ h n p. good h n (counted N h n p)) (has-any N c) h n (counts-in N h n b)

-- ---- the inverse, for every line of 32-bit numbers and all coefficients
module _ (N : ℕ) (x : ℕ → ℤ) (fits : (i : ℕ) → i < N → SFits w32 (x i)) where
  pub back-forward : (i : ℕ) → i < N → line_back wrap32 N (line_forward wrap32 N x) i ≡ x i
  back-forward = line-back-forward words N x fits

module _ (N : ℕ) (c : Half → ℕ → ℤ) (fits : (h : Half) (n : ℕ) → n < count h N → SFits w32 (c h n)) where
  pub forward-back : (h : Half) (n : ℕ) → n < count h N → line_forward wrap32 N (line_back wrap32 N c) h n ≡ c h n
  forward-back = line-forward-back words N c fits

-- ---- the inverse in whole numbers, for every line
pub whole-back-forward : (N : ℕ) (x : ℕ → ℤ) (i : ℕ) → i < N → line_back whole N (line_forward whole N x) i ≡ x i
whole-back-forward N x = line-back-forward wholes N x (λ _ _. tt)

pub whole-forward-back : (N : ℕ) (c : Half → ℕ → ℤ) (h : Half) (n : ℕ) → n < count h N → line_forward whole N (line_back whole N c) h n ≡ c h n
whole-forward-back N c = line-forward-back wholes N c (λ _ _ _. tt)

-- ---- the formulas with the mirror worked out, as a program meets them: in the line, and at its end

-- the way back

ap₃ : (f : ℤ → ℤ → ℤ → ℤ) {x y a a' b b' : ℤ} → x ≡ y → a ≡ a' → b ≡ b' → f x a b ≡ f y a' b'
ap₃ f p q r = λ i. f (p i) (q i) (r i)

-- ---- what a value reads: of the line the places that are there, up to 2n+2; of the coefficients those that are there
high-reads : (keep : ℤ → ℤ) (N : ℕ) (x y : ℕ → ℤ) (n : ℕ) → n < count hi N → ((i : ℕ) → i < N → i ≤ 2 * n + 2 → x i ≡ y i) → high keep N x n ≡ high keep N y n
unfolding count
high-reads keep N x y n b e =
    high-near keep N x n b
    ∙ ap₃ (predicted keep) (e _ (omega arith) (omega arith)) (e _ (omega arith) (omega arith)) (e _ (omega arith) (omega arith))
    ∙ sym (high-near keep N y n b)

pub forward-reads : (keep : ℤ → ℤ) (N : ℕ) (x y : ℕ → ℤ) (h : Half) (n : ℕ) → n < count h N → ((i : ℕ) → i < N → i ≤ 2 * n + 2 → x i ≡ y i)
    → line_forward keep N x h n ≡ line_forward keep N y h n
unfolding line_forward low count
forward-reads keep zero x y lo n b e = absurd (omega arith)
forward-reads keep (suc zero) x y lo n b e = e (2 * n) (omega arith) (omega arith)
forward-reads keep (suc (suc m)) x y lo n b e =
    low_near keep (suc (suc m)) x n (omega arith) b
    ∙ ap₃ (updated keep) (e _ (omega arith) (omega arith))
    (high-reads keep (suc (suc m)) x y _ (omega arith) (λ i p q. e i p (omega arith)))
    (high-reads keep (suc (suc m)) x y _ (omega arith) (λ i p q. e i p (omega arith)))
    ∙ sym (low_near keep (suc (suc m)) y n (omega arith) b)
forward-reads keep N x y hi n b e = high-reads keep N x y n b e

even-reads : (keep : ℤ → ℤ) (N : ℕ) (c c' : Half → ℕ → ℤ) → ((h : Half) (n : ℕ) → n < count h N → c h n ≡ c' h n) → (n : ℕ) → n < count lo N
    → back_even keep N (c lo) (c hi) n ≡ back_even keep N (c' lo) (c' hi) n
unfolding back_even count
even-reads keep zero c c' e n b = absurd (omega arith)
even-reads keep (suc zero) c c' e n b = e lo n b
even-reads keep (suc (suc m)) c c' e n b =
    even-near keep (suc (suc m)) (c lo) (c hi) n (omega arith) b
    ∙ ap₃ (unupdated keep) (e lo n b) (e hi _ (omega arith)) (e hi _ (omega arith))
    ∙ sym (even-near keep (suc (suc m)) (c' lo) (c' hi) n (omega arith) b)

pub halves-back-reads : (keep : ℤ → ℤ) (N : ℕ) (c c' : Half → ℕ → ℤ) → ((h : Half) (n : ℕ) → n < count h N → c h n ≡ c' h n) → (h : Half) (n : ℕ)
    → n < count h N → line_halves_back keep N c h n ≡ line_halves_back keep N c' h n
unfolding line_halves_back count
halves-back-reads keep N c c' e lo n b = even-reads keep N c c' e n b
halves-back-reads keep N c c' e hi n b =
    odd-near keep N (c lo) (c hi) n b
    ∙ ap₃ (unpredicted keep) (e hi n b) (even-reads keep N c c' e _ (omega arith)) (even-reads keep N c c' e _ (omega arith))
    ∙ sym (odd-near keep N (c' lo) (c' hi) n b)

pub back-reads : (keep : ℤ → ℤ) (N : ℕ) (c c' : Half → ℕ → ℤ) → ((h : Half) (n : ℕ) → n < count h N → c h n ≡ c' h n) → (i : ℕ) → i < N
    → line_back keep N c i ≡ line_back keep N c' i
unfolding line_back
back-reads keep N c c' e =
    by_place lo (λ i. i < N → line_back keep N c i ≡ line_back keep N c' i)
    (λ h n b. joined-place (line_halves_back keep N c) h n
    ∙ halves-back-reads keep N c c' e h n (in_place lo h N n b)
    ∙ sym (joined-place (line_halves_back keep N c') h n))

-- ---- ranges: samples within ±M give values within ±2M, and where these are 32-bit numbers nothing wraps
pub forward-range : (M N : ℕ) (x : ℕ → ℤ) → ((i : ℕ) → i < N → nat_abs (x i) ≤ M) → (h : Half) (n : ℕ) → n < count h N
    → nat_abs (line_forward whole N x h n) ≤ 2 * M
forward-range M N x within h n b = rw (← forward-zero whole N x h n b) (theorems.forward-range M (side 0 N) x within h n (counts-in N h n b))

pub forward-exact : (M N : ℕ) (x : ℕ → ℤ) → 2 * M < 2 ^ 31 → ((i : ℕ) → i < N → nat_abs (x i) ≤ M) → (h : Half) (n : ℕ) → n < count h N
    → line_forward wrap32 N x h n ≡ line_forward whole N x h n
forward-exact M N x small within h n b =
    sym (forward-zero wrap32 N x h n b) ∙ theorems.forward-exact M (side 0 N) small x within h n (counts-in N h n b) ∙ forward-zero whole N x h n b
