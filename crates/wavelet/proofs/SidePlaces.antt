-- Where the halves of each level stand along one side of the plane, its rows or its columns. Assumes nothing.
use mathlib.Core.Path.{◌≡◌, refl, sym, ap, ◌∙◌, subst}
use mathlib.Core.Bool.{Bool, true, false}
use Prim.Native.Nat.{ℕ, zero, suc, ◌+◌, ◌-◌, ◌≤◌, ◌<◌}
use native.Mathlib.Omega.{arith}
use lib.Dec.{ltb}
use borrow.Author.Tests.{lt-ltb, le-ltb}
use Rattle.lifting.specs.Line.{Half, lo, hi}
use Rattle.lifting.specs.Grid.{Side, count}
use Rattle.wavelet.specs.Levels.{next, side_at}
use Rattle.wavelet.specs.Plane.{half_at, place_in}
use Rattle.wavelet.proofs.SideLaws.{count-sum, length_back, size-le, size-inner}

-- where half h of level k, from 1, begins along a side: the low half at 0, the high half after it; and how long it is
unfoldable pub offset : Half → ℕ → Side → ℕ
offset lo k S = 0
offset hi k S = (side_at k S).length

abbrev pub extent : Half → ℕ → Side → ℕ
extent h k S = count h (side_at (k - 1) S)

-- it ends within the side
pub extent-end : (h : Half) (k : ℕ) (S : Side) → 0 < k → offset h k S + extent h k S ≤ S.length
unfolding offset
extent-end lo k S p = omega (arith, count-sum (side_at (k - 1) S), size-le (k - 1) S)
extent-end hi k S p = omega (arith, count-sum (side_at (k - 1) S), length_back k S p, size-le (k - 1) S)

-- level k + 1 of a side is level k of the next side
pub offset-inner : (h : Half) (k : ℕ) (S : Side) → offset h (suc k) S ≡ offset h k (next S)
unfolding offset
offset-inner lo k S = refl
offset-inner hi k S = ap (λ (T : Side). T.length) (size-inner k S)

pub extent-inner : (h : Half) (k : ℕ) (S : Side) → 0 < k → extent h (suc k) S ≡ extent h k (next S)
extent-inner h zero S p = absurd (omega arith)
extent-inner h (suc k) S p =
    let e : suc (suc k) - 1 ≡ suc k = omega arith in
    let d : suc k - 1 ≡ k = omega arith in
    ap (λ (x : ℕ). count h (side_at x S)) e ∙ ap (count h) (size-inner k S) ∙ ap (λ (x : ℕ). count h (side_at x (next S))) (sym d)

pub inner_below : (h : Half) (k : ℕ) (S : Side) (i : ℕ) → i < extent h (suc (suc k)) S → i < extent h (suc k) (next S)
inner_below h k S i p = subst (λ (x : ℕ). i < x) (extent-inner h (suc k) S (omega arith)) p

-- ---- the finest level
pub extent-first : (h : Half) (S : Side) → extent h 1 S ≡ count h S
unfolding side_at
extent-first h S = refl

abbrev is_low : Half → Bool
is_low lo = true
is_low hi = false

-- place i of half h: the definition's test, half and number in the half
module _ (S : Side) (i : ℕ) where
  pub low-test : (h : Half) → i < count h S → ltb (offset h 1 S + i) (count lo S) ≡ is_low h
  unfolding offset side_at next
  low-test lo p = lt-ltb (0 + i) (count lo S) (omega arith)
  low-test hi p = le-ltb (count lo S + i) (count lo S) (omega arith)

  pub half-at : (h : Half) → i < count h S → half_at S (offset h 1 S + i) ≡ h
  unfolding half_at
  half-at lo p = rw (low-test lo p)
  half-at hi p = rw (low-test hi p)

  pub place-in : (h : Half) → i < count h S → place_in S (offset h 1 S + i) ≡ i
  unfolding place_in offset side_at next
  place-in lo p = rw (low-test lo p) (omega arith)
  place-in hi p = rw (low-test hi p) (omega arith)

-- ---- a place of a side is in one half of a level
pub one-half : (h h' : Half) (k k' : ℕ) (S : Side) (i i' : ℕ) → 0 < k → k ≡ k' → i < extent h k S → i' < extent h' k' S
    → offset h k S + i ≡ offset h' k' S + i' → (h ≡ h') × (i ≡ i')
unfolding offset
one-half lo lo k k' S i i' p e a b d = (refl, omega arith)
one-half hi hi k k' S i i' p e a b d = (refl, omega (arith, ap (λ (x : ℕ). (side_at x S).length) e))
one-half lo hi k k' S i i' p e a b d = absurd (omega (arith, length_back k S p, ap (λ (x : ℕ). (side_at x S).length) e))
one-half hi lo k k' S i i' p e a b d = absurd (omega (arith, length_back k S p, ap (λ (x : ℕ). count lo (side_at (x - 1) S)) e))
