-- Why a difference of 4 is enough: the cell's own height raised by 4 raises its column's low value by 2 or more, and that raises the cell by 1 or more.
-- Assumes nothing.
use mathlib.Core.Path.{◌≡◌, ap, ◌∙◌, fun_ext}
use Prim.Native.Nat.{ℕ, ◌+◌, ◌*◌, ◌≤◌, ◌<◌}
use native.Mathlib.Decide.{ℕ_discrete}
use native.Mathlib.Omega.{arith}
use lib.IntN.{ℤ, pos, ◌+ℤ◌}
use lib.Signed.{◌≤ℤ◌}
use Rattle.numbers.specs.Word.{whole}
use Rattle.numbers.proofs.Integers.{each, lin}
use Rattle.lifting.specs.Line.{predicted, updated, lo}
use Rattle.lifting.specs.Grid.{side, count, line_forward}
use Rattle.nearest_change.specs.Trials.{mirrored}
use Rattle.nearest_change.specs.NearestChange.{Ground, cell_of}
use Rattle.nearest_change.proofs.LineLaws.{line_low, mirror-in}
use Rattle.nearest_change.proofs.CellLaws.{low_at, cell-is}

-- ---- the two steps: x rises to x', and its neighbours by no more
falls : (b b' a a' x x' : ℤ) → b ≤ℤ b' → (a' +ℤ x) ≤ℤ (a +ℤ x') → (predicted whole b a x +ℤ x) ≤ℤ (predicted whole b' a' x' +ℤ x')
unfolding predicted
falls = each _ λ p q. each _ λ p' q'. each _ λ r s. each _ λ r' s'. each _ λ t u. each _ λ t' u'. simp lin (omega arith)

falls-after : (b b' a a' x x' : ℤ) → b ≤ℤ b' → (a' +ℤ x) ≤ℤ (a +ℤ x') → (predicted whole b x a +ℤ x) ≤ℤ (predicted whole b' x' a' +ℤ x')
unfolding predicted
falls-after = each _ λ p q. each _ λ p' q'. each _ λ r s. each _ λ r' s'. each _ λ t u. each _ λ t' u'. simp lin (omega arith)

rises : (k : ℕ) (x x' d d' e e' : ℤ) → (x +ℤ pos (2 * k)) ≤ℤ x' → (d +ℤ x) ≤ℤ (d' +ℤ x') → (e +ℤ x) ≤ℤ (e' +ℤ x')
    → (updated whole x d e +ℤ pos k) ≤ℤ updated whole x' d' e'
unfolding updated
rises k = each _ λ p q. each _ λ p' q'. each _ λ r s. each _ λ r' s'. each _ λ t u. each _ λ t' u'. simp lin (omega arith)

-- ---- a line of which one sample rises
same_gap : (u v w w' : ℤ) → u ≡ v → w ≤ℤ w' → (u ≤ℤ v) × ((v +ℤ w) ≤ℤ (u +ℤ w'))
same_gap = each _ λ p q. each _ λ p' q'. each _ λ r s. each _ λ r' s'. simp lin (λ a b. (omega arith, omega arith))

own-gap : (w w' : ℤ) → w ≤ℤ w' → (w ≤ℤ w') × ((w' +ℤ w) ≤ℤ (w +ℤ w'))
own-gap = each _ λ p q. each _ λ p' q'. simp lin (λ a. (omega arith, omega arith))

not-less : (k : ℕ) (w w' : ℤ) → (w +ℤ pos k) ≤ℤ w' → w ≤ℤ w'
not-less k = each _ λ p q. each _ λ p' q'. simp lin (omega arith)

module _ (N n k : ℕ) (x y : ℕ → ℤ) (b : n < count lo (side 0 N)) where
  pub line-rises : ((i : ℕ) → (i ≡ 2 * n → ⊥) → x i ≡ y i) → (x (2 * n) +ℤ pos (2 * k)) ≤ℤ y (2 * n)
      → (line_forward whole (side 0 N) x lo n +ℤ pos k) ≤ℤ line_forward whole (side 0 N) y lo n
  unfolding count
  line-rises e h =
      let own : mirrored N (2 * n + 2) ≡ 2 * n = mirror-in N (2 * n + 2) (omega arith) (omega arith) ∙ omega arith in
      let m0 = gap (mirrored N (2 * n)) in
      let m1 = gap (mirrored N (2 * n + 1)) in
      let m3 = gap (mirrored N (2 * n + 3)) in
      let m4 = gap (mirrored N (2 * n + 4)) in
      rw (line_low N x n b, line_low N y n b, own)
      (rises k _ _ _ _ _ _ h (falls _ _ _ _ _ _ m1.0 m0.1) (falls-after _ _ _ _ _ _ m3.0 m4.1))
    where
      up : x (2 * n) ≤ℤ y (2 * n)
      up = not-less (2 * k) _ _ h

      gap : (i : ℕ) → (x i ≤ℤ y i) × ((y i +ℤ x (2 * n)) ≤ℤ (x i +ℤ y (2 * n)))
      gap i = elim (ℕ_discrete i (2 * n)) [ yes p ↦ rw p (own-gap _ _ up) | no d ↦ same_gap _ _ _ _ (e i d) up ]

-- ---- the cell
pos-up : (m n : ℕ) → m + 4 ≤ n → (pos m +ℤ pos 4) ≤ℤ pos n
pos-up m n h = simp lin (omega arith)

apart : (u v : ℤ) → (u +ℤ pos 1) ≤ℤ v → u ≡ v → ⊥
apart = each _ λ p q. each _ λ r s. simp lin (λ a b. omega arith)

pub four-alters : (W H r c : ℕ) (g g' : Ground) → r < count lo (side 0 H) → c < count lo (side 0 W)
    → ((i j : ℕ) → ((i ≡ 2 * r) × (j ≡ 2 * c) → ⊥) → g i j ≡ g' i j) → g (2 * r) (2 * c) + 4 ≤ g' (2 * r) (2 * c)
    → cell_of W H g r c ≡ cell_of W H g' r c → ⊥
four-alters W H r c g g' p q e h =
    rw (cell-is W H g r c, cell-is W H g' r c)
    (apart _ _
    (line-rises W c 1 (low_at H g r) (low_at H g' r) q
    (λ j d. ap (λ (x : ℕ → ℤ). line_forward whole (side 0 H) x lo r) (fun_ext λ i. ap pos (e i j (λ z. d z.1))))
    (line-rises H r 2 (λ i. pos (g i (2 * c))) (λ i. pos (g' i (2 * c))) p (λ i d. ap pos (e i (2 * c) (λ z. d z.0))) (pos-up _ _ h))))
