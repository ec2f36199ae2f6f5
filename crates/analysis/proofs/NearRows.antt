-- Which rows a row of a level goes by, the mirror worked out, and which rows a set has. Assumes nothing.
use mathlib.Core.Path.{◌≡◌, sym, ap, ap₂, ◌∙◌}
use mathlib.Core.Bool.{true, false}
use Prim.Native.Nat.{ℕ, ◌+◌, ◌-◌, ◌*◌, ◌%◌, ◌≤◌, ◌<◌}
use native.Mathlib.Decide.{ℕ_discrete}
use native.Mathlib.Omega.{arith}
use lib.Dec.{ltb}
use borrow.Author.Tests.{le-leb, lt-leb, leb-true, ltb-true}
use Rattle.numbers.proofs.Sweep.{both}
use Rattle.lifting.specs.Line.{Half, lo, hi}
use Rattle.lifting.specs.Grid.{Side, side, place, count}
use Rattle.lifting.specs.Passes.{near}
use Rattle.lifting.proofs.Neighbours.{left, right}
use Rattle.nine_seven.specs.NineSeven.{before, after}
use Rattle.nine_seven.specs.Passes.{far_left, far_right}
use Rattle.nine_seven.proofs.MirrorLaws.{before-is, after_is, far_before, far_after, far-before-is, far-after-is, far-more, far-last, far-less}
use Rattle.nine_seven.specs.Near.{Beside, Around}
use Rattle.wavelet.specs.Order.{first_set}
use Rattle.wavelet.proofs.SideLaws.{count-lo, count-hi}
use Rattle.analysis.specs.Columns.{row_before, row_after}
use Rattle.analysis.specs.Sets.{has_row}

-- ---- the rows of a set, by their places
pub high-place : (H : Side) (n : ℕ) → 2 * n + 1 - H.start % 2 ≡ place H hi n
unfolding place
high-place H n = omega arith

pub low-place : (H : Side) (n : ℕ) → H.start % 2 ≤ n → 2 * n - H.start % 2 ≡ place H lo (n - H.start % 2)
unfolding place
low-place H n f = omega arith

-- low number k stands at the row 2 (start mod 2 + k), high number k at 2k + 1
pub low-row : (H : Side) (k : ℕ) → H.start % 2 + place H lo k ≡ 2 * (H.start % 2 + k)
unfolding place
low-row H k = omega arith

pub high-row : (H : Side) (k : ℕ) → H.start % 2 + place H hi k ≡ 2 * k + 1
unfolding place
high-row H k = omega arith

module _ (H : Side) (g : 1 < H.length) (n : ℕ) where
  abbrev p : ℕ
  p = H.start % 2

  -- ---- of row 2n + 1
  module _ (b : n < count hi H) where
    pub before-high : row_before H 1 (2 * n + 1) ≡ 2 * (p + left lo H n)
    unfolding row_before
    before-high = ap (λ (q : ℕ). p + before H.length 1 q) (high-place H n) ∙ ap (λ (q : ℕ). p + q) (before-is H g hi n b) ∙ low-row H (left lo H n)

    pub after-high : row_after H 1 (2 * n + 1) ≡ 2 * (p + right lo H n)
    unfolding row_after
    after-high = ap (λ (q : ℕ). p + after H.length 1 q) (high-place H n) ∙ ap (λ (q : ℕ). p + q) (after_is H g hi n b) ∙ low-row H (right lo H n)

    pub far-before-high : row_before H 3 (2 * n + 1) ≡ 2 * (p + far_before H n)
    unfolding row_before
    far-before-high = ap (λ (q : ℕ). p + before H.length 3 q) (high-place H n) ∙ ap (λ (q : ℕ). p + q) (far-before-is H g n b) ∙ low-row H (far_before H n)

    pub far-after-high : row_after H 3 (2 * n + 1) ≡ 2 * (p + far_after H n)
    unfolding row_after
    far-after-high = ap (λ (q : ℕ). p + after H.length 3 q) (high-place H n) ∙ ap (λ (q : ℕ). p + q) (far-after-is H g n b) ∙ low-row H (far_after H n)

  -- ---- of row 2n
  module _ (f : p ≤ n) (b : n - p < count lo H) where
    pub before-low : row_before H 1 (2 * n) ≡ 2 * left hi H (n - p) + 1
    unfolding row_before
    before-low =
        ap (λ (q : ℕ). p + before H.length 1 q) (low-place H n f) ∙ ap (λ (q : ℕ). p + q) (before-is H g lo (n - p) b) ∙ high-row H (left hi H (n - p))

    pub after-low : row_after H 1 (2 * n) ≡ 2 * right hi H (n - p) + 1
    unfolding row_after
    after-low =
        ap (λ (q : ℕ). p + after H.length 1 q) (low-place H n f) ∙ ap (λ (q : ℕ). p + q) (after_is H g lo (n - p) b) ∙ high-row H (right hi H (n - p))

-- ---- no farther off than the filter looks
module _ (H : Side) (g : 1 < H.length) (n : ℕ) where
  module _ (b : n < count hi H) where
    pub left_near : n ≤ H.start % 2 + left lo H n
    left_near = omega (arith, count-lo H, count-hi H, b)

    pub right_near : n ≤ H.start % 2 + right lo H n
    right_near = omega (arith, count-lo H, count-hi H, b)

    pub far-left-near : n ≤ H.start % 2 + far_before H n + 1
    far-left-near =
        elim (ℕ_discrete n 0) [
          | yes e ↦ omega arith
          | no d ↦ omega (arith, far-more (count lo H) 0 (1 - H.start % 2) n (omega arith))
        ]

    pub far-right-near : n ≤ H.start % 2 + far_after H n + 1
    far-right-near =
        elim (ℕ_discrete (n + 1) (count hi H)) [
          | yes e ↦ omega (arith, far-last (count lo H) (count hi H) (1 - H.start % 2) n e, count-lo H, count-hi H)
          | no d ↦ omega (arith, far-less (count lo H) (count hi H) (1 - H.start % 2) n (omega arith), count-lo H, count-hi H)
        ]

  module _ (f : H.start % 2 ≤ n) (b : n - H.start % 2 < count lo H) where
    pub left-beside : (n ≤ left hi H (n - H.start % 2) + 1) × (left hi H (n - H.start % 2) ≤ n)
    left-beside = omega (arith, count-lo H, count-hi H, b)

    pub right-beside : (n ≤ right hi H (n - H.start % 2) + 1) × (right hi H (n - H.start % 2) ≤ n)
    right-beside = omega (arith, count-lo H, count-hi H, b)

-- ---- does a set have a row?
pub row_in : (H : Side) (h : Half) (n : ℕ) → has_row H h n ≡ true → (first_set H h ≤ n) × (n - first_set H h < count h H)
unfolding has_row
row_in H h n e = let a = both _ _ e in (leb-true _ _ a.0, ltb-true _ _ a.1)

-- as the code asks it
pub high-asked : (H : Side) (n k : ℕ) → k ≡ count hi H → ltb n k ≡ has_row H hi n
unfolding has_row first_set
high-asked H n k e = let z : n - 0 ≡ n = omega arith in rw (e, z) (simp (le-leb 0 n (omega arith)))

pub low-asked : (H : Side) (n k : ℕ) → H.start % 2 ≤ n → k ≡ count lo H → ltb (n - H.start % 2) k ≡ has_row H lo n
unfolding has_row first_set
low-asked H n k f e = rw e (simp (le-leb (H.start % 2) n f))

pub low-out : (H : Side) (n : ℕ) → n < H.start % 2 → false ≡ has_row H lo n
unfolding has_row first_set
low-out H n h = simp (lt-leb (H.start % 2) n h)

pub high-in : (H : Side) (n : ℕ) → has_row H hi n ≡ true → n < count hi H
unfolding first_set
high-in H n e = let r = row_in H hi n e in omega arith

pub low-in : (H : Side) (n : ℕ) → has_row H lo n ≡ true → (H.start % 2 ≤ n) × (n - H.start % 2 < count lo H)
unfolding first_set
low-in H n e = row_in H lo n e

-- ---- the slots of these rows, of d rows kept, as the code finds them: by a row's number in its half
module _ (d y m n : ℕ) (g : 1 < m) where
  module _ (b : n < count hi (side y m)) (low k r : ℕ) (el : low ≡ count lo (side y m)) (er : r ≡ 2 * (y % 2 + k) % d) where
    by-low : (j q : ℕ) → k ≡ j → q ≡ 2 * (y % 2 + j) → r ≡ q % d
    by-low j q e z = er ∙ ap (λ (i : ℕ). 2 * (y % 2 + i) % d) e ∙ sym (ap (λ (i : ℕ). i % d) z)

    before-slot : k ≡ near low (n + (1 - y % 2) - 1) → r ≡ row_before (side y m) 1 (2 * n + 1) % d
    before-slot e = by-low _ _ (e ∙ ap (λ (i : ℕ). near i (n + (1 - y % 2) - 1)) el) (before-high (side y m) g n b)

    after-slot : k ≡ near low (n + (1 - y % 2)) → r ≡ row_after (side y m) 1 (2 * n + 1) % d
    after-slot e = by-low _ _ (e ∙ ap (λ (i : ℕ). near i (n + (1 - y % 2))) el) (after-high (side y m) g n b)

    far-before-slot : k ≡ far_left low (1 - y % 2) n → r ≡ row_before (side y m) 3 (2 * n + 1) % d
    far-before-slot e = by-low _ _ (e ∙ ap (λ (i : ℕ). far_left i (1 - y % 2) n) el) (far-before-high (side y m) g n b)

    far-after-slot : (high : ℕ) → high ≡ count hi (side y m) → k ≡ far_right low high (1 - y % 2) n → r ≡ row_after (side y m) 3 (2 * n + 1) % d
    far-after-slot high eh e = by-low _ _ (e ∙ ap₂ (λ (i j : ℕ). far_right i j (1 - y % 2) n) el eh) (far-after-high (side y m) g n b)

  module _ (f : y % 2 ≤ n) (b : n - y % 2 < count lo (side y m)) (high k r : ℕ) (eh : high ≡ count hi (side y m)) (er : r ≡ (2 * k + 1) % d) where
    by_high : (j q : ℕ) → k ≡ j → q ≡ 2 * j + 1 → r ≡ q % d
    by_high j q e z = er ∙ ap (λ (i : ℕ). (2 * i + 1) % d) e ∙ sym (ap (λ (i : ℕ). i % d) z)

    low-before-slot : k ≡ near high (n + 0 - 1) → r ≡ row_before (side y m) 1 (2 * n) % d
    low-before-slot e =
        let z : n + 0 - 1 ≡ n - y % 2 + y % 2 - 1 = omega arith in by_high _ _ (e ∙ ap₂ (λ (i j : ℕ). near i j) eh z) (before-low (side y m) g n f b)

    low-after-slot : k ≡ near high (n + 0) → r ≡ row_after (side y m) 1 (2 * n) % d
    low-after-slot e =
        let z : n + 0 ≡ n - y % 2 + y % 2 = omega arith in by_high _ _ (e ∙ ap₂ (λ (i j : ℕ). near i j) eh z) (after-low (side y m) g n f b)

  pub around-slots : n < count hi (side y m) → (low high l r b a l' r' b' a' : ℕ) → low ≡ count lo (side y m) → high ≡ count hi (side y m)
      → Around low high (1 - y % 2) n l r b a → l' ≡ 2 * (y % 2 + l) % d → r' ≡ 2 * (y % 2 + r) % d → b' ≡ 2 * (y % 2 + b) % d → a' ≡ 2 * (y % 2 + a) % d
      → (l' ≡ row_before (side y m) 1 (2 * n + 1) % d) × (r' ≡ row_after (side y m) 1 (2 * n + 1) % d) × (b' ≡ row_before (side y m) 3 (2 * n + 1) % d)
      × (a' ≡ row_after (side y m) 3 (2 * n + 1) % d)
  around-slots h low high l r b a l' r' b' a' el eh by e₁ e₂ e₃ e₄ = (
    before-slot h low l l' el e₁ by.left,
    after-slot h low r r' el e₂ by.right,
    far-before-slot h low b b' el e₃ by.before,
    far-after-slot h low a a' el e₄ high eh by.after,
  )

  pub beside-high-slots : n < count hi (side y m) → (low l r l' r' : ℕ) → low ≡ count lo (side y m) → Beside low (1 - y % 2) n l r
      → l' ≡ 2 * (y % 2 + l) % d → r' ≡ 2 * (y % 2 + r) % d
      → (l' ≡ row_before (side y m) 1 (2 * n + 1) % d) × (r' ≡ row_after (side y m) 1 (2 * n + 1) % d)
  beside-high-slots h low l r l' r' el by e₁ e₂ = (before-slot h low l l' el e₁ by.left, after-slot h low r r' el e₂ by.right)

  pub beside-low-slots : y % 2 ≤ n → n - y % 2 < count lo (side y m) → (high l r l' r' : ℕ) → high ≡ count hi (side y m) → Beside high 0 n l r
      → l' ≡ (2 * l + 1) % d → r' ≡ (2 * r + 1) % d → (l' ≡ row_before (side y m) 1 (2 * n) % d) × (r' ≡ row_after (side y m) 1 (2 * n) % d)
  beside-low-slots f b high l r l' r' eh by e₁ e₂ = (low-before-slot f b high l l' eh e₁ by.left, low-after-slot f b high r r' eh e₂ by.right)
