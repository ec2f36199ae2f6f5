-- A line that starts at coordinate 0 is a line of document 01: what `Grid` and `GridHalves` have on the side (0, N) is what `Line` and `Halves` have at N.
-- Assumes nothing.
use mathlib.Core.Path.{◌≡◌, refl, sym, ap, ◌∙◌, fun_ext}
use mathlib.Core.Bool.{true}
use Prim.Native.Nat.{ℕ, ◌+◌, ◌-◌, ◌*◌, ◌/◌, ◌%◌, ◌≤◌, ◌<◌}
use native.Mathlib.Decide.{dec_lt, ℕ_discrete}
use native.Mathlib.Omega.{arith}
use lib.IntN.{ℤ}
use borrow.Author.Tests.{eq-eqb, ne_eqb, le-ltb}
use Rattle.numbers.specs.Word.{wrap32}
use Rattle.lifting.specs.Line.{Half, lo, hi, predicted, updated, unpredicted, unupdated}
use Rattle.lifting.specs.Line as line
use Rattle.lifting.specs.Grid.{side, place, count, joined, line_forward, line_halves_back, line_back, has_line, single_high}
use Rattle.lifting.specs.Halves as halves
use Rattle.lifting.specs.GridHalves.{halves_of, in_halves, lifted_in_place, unlifted_in_place, has_line_in, forward_into, backward_into}
use Rattle.lifting.proofs.LineNear as line-laws
use Rattle.lifting.proofs.GridLaws.{counts, high-near, low_near, even-near, odd-near, low-one, even-one, half-even, half-odd, joined-reads, halves_are}
use Rattle.lifting.proofs.GridLaws.{halves-low, halves-high, halves-past, front-in, front-past}

-- ---- counts, places, halves
pub count-zero : (h : Half) (N : ℕ) → count h (side 0 N) ≡ line.count h N
unfolding count line.count
count-zero lo N = omega arith
count-zero hi N = omega arith

pub place-lo : (N n : ℕ) → place (side 0 N) lo n ≡ 2 * n
unfolding place
place-lo N n = omega arith

pub place-hi : (N n : ℕ) → place (side 0 N) hi n ≡ 2 * n + 1
unfolding place
place-hi N n = omega arith

pub joined-zero : (N : ℕ) (p : Half → ℕ → ℤ) → joined (side 0 N) p ≡ line.joined p
unfolding joined line.joined
joined-zero N p =
    fun_ext λ i.
    elim (ℕ_discrete (i % 2) 0) [
      | yes e ↦ simp (eq-eqb (i % 2) 0 e) (ap (λ (h : Half). p h (i / 2)) (half-even (0 + i) (omega arith)))
      | no d ↦ simp (ne_eqb (i % 2) 0 d) (ap (λ (h : Half). p h (i / 2)) (half-odd (0 + i) (omega arith)))
    ]

-- ---- the lifting of a line
ap₃ : (f : ℤ → ℤ → ℤ → ℤ) {x y a a' b b' : ℤ} → x ≡ y → a ≡ a' → b ≡ b' → f x a b ≡ f y a' b'
ap₃ f p q r = λ i. f (p i) (q i) (r i)

module _ (keep : ℤ → ℤ) (N : ℕ) (g : 1 < N) where
  high_zero : (x : ℕ → ℤ) (n : ℕ) → n < line.count hi N → line_forward keep (side 0 N) x hi n ≡ line.high keep N x n
  unfolding count line.count
  high_zero x n b =
      high-near (side 0 N) g keep x n (omega arith)
      ∙ ap₃ (predicted keep) (ap x (place-hi N n)) (ap x (place-lo N _ ∙ omega arith)) (ap x (place-lo N _ ∙ omega arith))
      ∙ sym (line-laws.high-near keep N x n b)

  low-zero : (x : ℕ → ℤ) (n : ℕ) → n < line.count lo N → line_forward keep (side 0 N) x lo n ≡ line.low keep N x n
  unfolding count line.count
  low-zero x n b =
      low_near (side 0 N) g keep x n (omega arith)
      ∙ ap₃ (updated keep) (ap x (place-lo N n))
      (high_zero x _ (omega arith) ∙ ap (line.high keep N x) (omega arith))
      (high_zero x _ (omega arith) ∙ ap (line.high keep N x) (omega arith))
      ∙ sym (line-laws.low_near keep N x n g b)

  even-zero : (c : Half → ℕ → ℤ) (n : ℕ) → n < line.count lo N → line_halves_back keep (side 0 N) c lo n ≡ line.back_even keep N (c lo) (c hi) n
  unfolding count line.count
  even-zero c n b =
      even-near (side 0 N) g keep c n (omega arith)
      ∙ ap₃ (unupdated keep) refl (ap (c hi) (omega arith)) (ap (c hi) (omega arith))
      ∙ sym (line-laws.even-near keep N (c lo) (c hi) n g b)

  odd-zero : (c : Half → ℕ → ℤ) (n : ℕ) → n < line.count hi N → line_halves_back keep (side 0 N) c hi n ≡ line.back_odd keep N (c lo) (c hi) n
  unfolding count line.count
  odd-zero c n b =
      odd-near (side 0 N) g keep c n (omega arith)
      ∙ ap₃ (unpredicted keep) refl
      (even-zero c _ (omega arith) ∙ ap (line.back_even keep N (c lo) (c hi)) (omega arith))
      (even-zero c _ (omega arith) ∙ ap (line.back_even keep N (c lo) (c hi)) (omega arith))
      ∙ sym (line-laws.odd-near keep N (c lo) (c hi) n b)

-- a line of one sample or none has no high half
no-high : (N n : ℕ) → N ≤ 1 → n < line.count hi N → 1 ≤ 0
unfolding line.count
no-high N n g b = omega arith

module _ (keep : ℤ → ℤ) (N : ℕ) where
  pub forward-zero : (x : ℕ → ℤ) (h : Half) (n : ℕ) → n < line.count h N → line_forward keep (side 0 N) x h n ≡ line.line_forward keep N x h n
  unfolding line.line_forward line.low
  forward-zero x lo n b =
      elim (dec_lt 1 N) [
        | yes g ↦ low-zero keep N g x n b
        | no d ↦ low-one (side 0 N) (omega arith) keep x n ∙ simp (le-ltb 1 N (omega arith)) (ap x (place-lo N n))
      ]
  forward-zero x hi n b =
      elim (dec_lt 1 N) [
        | yes g ↦ high_zero keep N g x n b
        | no d ↦ let e = no-high N n (omega arith) b in absurd (omega arith)
      ]

  pub halves-back-zero : (c : Half → ℕ → ℤ) (h : Half) (n : ℕ) → n < line.count h N → line_halves_back keep (side 0 N) c h n ≡ line.line_halves_back keep N c h n
  unfolding line.line_halves_back line.back_even
  halves-back-zero c lo n b =
      elim (dec_lt 1 N) [
        | yes g ↦ even-zero keep N g c n b
        | no d ↦ even-one (side 0 N) (omega arith) keep c n ∙ simp (le-ltb 1 N (omega arith))
      ]
  halves-back-zero c hi n b =
      elim (dec_lt 1 N) [
        | yes g ↦ odd-zero keep N g c n b
        | no d ↦ let e = no-high N n (omega arith) b in absurd (omega arith)
      ]

  pub back-zero : (c : Half → ℕ → ℤ) (i : ℕ) → i < N → line_back keep (side 0 N) c i ≡ line.line_back keep N c i
  unfolding line_back line.line_back
  back-zero c i b =
      joined-reads (side 0 N) (line_halves_back keep (side 0 N) c) (line.line_halves_back keep N c)
      (λ h n m. halves-back-zero c h n (rw (count-zero h N) at m)) i b
      ∙ ap (λ (x : ℕ → ℤ). x i) (joined-zero N (line.line_halves_back keep N c))

-- ---- memory
pub halves-zero : (N : ℕ) (y : ℕ → ℤ) → halves_of (side 0 N) y ≡ halves.halves_of N y
unfolding halves_of halves.halves_of
halves-zero N y = fun_ext λ h. elim h as (λ k. halves_of (side 0 N) y k ≡ halves.halves_of N y k) [ lo ↦ refl | hi ↦ fun_ext λ n. ap (λ (m : ℕ). y (m + n)) (count-zero lo N) ]

pub in-halves-zero : (N : ℕ) (p : Half → ℕ → ℤ) (z : ℕ → ℤ) → in_halves (side 0 N) p z ≡ halves.in_halves N p z
unfolding in_halves halves.in_halves
in-halves-zero N p z = fun_ext λ j. simp (count-zero lo N)

-- halves that agree where they are
halves-same : (N : ℕ) (p q : Half → ℕ → ℤ) (z : ℕ → ℤ) → ((h : Half) (n : ℕ) → n < line.count h N → p h n ≡ q h n)
    → in_halves (side 0 N) p z ≡ halves.in_halves N q z
halves-same N p q z e =
    let S = side 0 N in
    halves_are S p z (in_halves S q z)
    (λ n h. e lo n (rw (count-zero lo N) at h) ∙ sym (halves-low S q z n h))
    (λ n h.
    let k : count lo S + n - count lo S ≡ n = omega arith in
    e hi n (rw (count-zero hi N) at h)
    ∙ sym (halves-high S q z (count lo S + n) (omega arith) (omega (arith, counts S)) ∙ ap (q hi) k))
    (λ j h. sym (halves-past S q z j h))
    ∙ in-halves-zero N q z

pub lifted-zero : (N : ℕ) (y : ℕ → ℤ) → lifted_in_place (side 0 N) y ≡ halves.lifted_in_place N y
unfolding lifted_in_place halves.lifted_in_place
lifted-zero N y =
    let line-is : joined (side 0 N) (halves_of (side 0 N) y) ≡ line.joined (halves.halves_of N y) =
    joined-zero N (halves_of (side 0 N) y) ∙ ap line.joined (halves-zero N y) in
    halves-same N _ _ y (λ h n b. ap (λ (x : ℕ → ℤ). line_forward wrap32 (side 0 N) x h n) line-is ∙ forward-zero wrap32 N _ h n b)

pub unlifted-zero : (N : ℕ) (y : ℕ → ℤ) → unlifted_in_place (side 0 N) y ≡ halves.unlifted_in_place N y
unfolding unlifted_in_place halves.unlifted_in_place
unlifted-zero N y =
    halves-same N _ _ y
    (λ h n b. ap (λ (c : Half → ℕ → ℤ). line_halves_back wrap32 (side 0 N) c h n) (halves-zero N y) ∙ halves-back-zero wrap32 N _ h n b)

pub forward-into-zero : (N : ℕ) (x z : ℕ → ℤ) → forward_into (side 0 N) x z ≡ halves.forward_into N x z
unfolding forward_into halves.forward_into
forward-into-zero N x z = halves-same N _ _ z (forward-zero wrap32 N x)

pub backward-into-zero : (N : ℕ) (y z : ℕ → ℤ) → backward_into (side 0 N) y z ≡ halves.backward_into N y z
unfolding backward_into halves.backward_into
backward-into-zero N y z =
    fun_ext λ j.
    elim (dec_lt j N) [
      | yes b ↦
          front-in N (line_back wrap32 (side 0 N) (halves_of (side 0 N) y)) z j b
          ∙ ap (λ (c : Half → ℕ → ℤ). line_back wrap32 (side 0 N) c j) (halves-zero N y)
          ∙ back-zero wrap32 N (halves.halves_of N y) j b
          ∙ sym (front-in N (line.line_back wrap32 N (halves.halves_of N y)) z j b)
      | no b ↦
          front-past N (line_back wrap32 (side 0 N) (halves_of (side 0 N) y)) z j (omega arith)
          ∙ sym (front-past N (line.line_back wrap32 N (halves.halves_of N y)) z j (omega arith))
    ]

-- every line is lifted back: none ends in 14
pub has-any : (N : ℕ) (c : Half → ℕ → ℤ) → has_line (side 0 N) c ≡ true
unfolding has_line single_high
has-any N c = refl

pub never-single : (N : ℕ) → single_high (side 0 N) ≡ true → ⊥
unfolding single_high
never-single N e = let z : ◌≡◌ {A = ℕ} 0 1 = cc in absurd (omega arith)

pub has-zero : (N : ℕ) (y : ℕ → ℤ) → has_line_in (side 0 N) y ≡ true
unfolding has_line_in has_line single_high
has-zero N y = refl
