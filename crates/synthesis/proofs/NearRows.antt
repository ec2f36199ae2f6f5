-- The rows that a row goes by as rows of sets. Assumes nothing.
use mathlib.Core.Path.{◌≡◌, ap, ◌∙◌}
use Prim.Native.Nat.{ℕ, ◌+◌, ◌-◌, ◌*◌, ◌%◌, ◌≤◌, ◌<◌}
use native.Mathlib.Decide.{ℕ_discrete}
use native.Mathlib.Omega.{arith}
use Rattle.lifting.specs.Line.{lo, hi}
use Rattle.lifting.specs.Grid.{Side, place, count}
use Rattle.lifting.proofs.GridLaws.{ahead}
use Rattle.lifting.proofs.Neighbours.{left, right}
use Rattle.nine_seven.specs.NineSeven.{before, after}
use Rattle.nine_seven.proofs.MirrorLaws.{far_before, far_after, before-is, after_is, far-before-is, far-after-is, far-first, far-more, far-last, far-less}
use Rattle.wavelet.specs.Order.{first_set}
use Rattle.level.specs.Stretch.{end_of}
use Rattle.synthesis.specs.Columns.{row_before, row_after}
use Rattle.synthesis.proofs.ColumnLaws.{Near}

-- ---- where a row is
low-place : (H : Side) (n : ℕ) → first_set H lo ≤ n → 2 * n - H.start % 2 ≡ place H lo (n - first_set H lo)
unfolding place first_set
low-place H n b = omega arith

high-place : (H : Side) (m : ℕ) → 2 * m + 1 - H.start % 2 ≡ place H hi m
unfolding place
high-place H m = omega arith

low-at : (H : Side) (i : ℕ) → H.start % 2 + place H lo i ≡ 2 * (i + first_set H lo)
unfolding place first_set
low-at H i = omega arith

high-at : (H : Side) (i : ℕ) → H.start % 2 + place H hi i ≡ 2 * i + 1
unfolding place
high-at H i = omega arith

-- ---- the rows next to the low row of set n
module _ (H : Side) (n : ℕ) (g : 1 < H.length) (b : first_set H lo ≤ n) (l : n - first_set H lo < count lo H) where
  pub low-before : row_before H 1 (2 * n) ≡ 2 * left hi H (n - first_set H lo) + 1
  unfolding row_before
  low-before =
      ap (λ (q : ℕ). H.start % 2 + before H.length 1 q) (low-place H n b)
      ∙ ap (λ (q : ℕ). H.start % 2 + q) (before-is H g lo (n - first_set H lo) l)
      ∙ high-at H (left hi H (n - first_set H lo))

  pub low-after : row_after H 1 (2 * n) ≡ 2 * right hi H (n - first_set H lo) + 1
  unfolding row_after
  low-after =
      ap (λ (q : ℕ). H.start % 2 + after H.length 1 q) (low-place H n b)
      ∙ ap (λ (q : ℕ). H.start % 2 + q) (after_is H g lo (n - first_set H lo) l)
      ∙ high-at H (right hi H (n - first_set H lo))

  -- they are of this set or of the one before
  pub before-in : (left hi H (n - first_set H lo) < count hi H) × (left hi H (n - first_set H lo) ≤ n) × (n ≤ left hi H (n - first_set H lo) + 1)
  unfolding count first_set
  before-in = (omega arith, omega arith, omega arith)

  pub after-in : (right hi H (n - first_set H lo) < count hi H) × (right hi H (n - first_set H lo) ≤ n) × (n ≤ right hi H (n - first_set H lo) + 1)
  unfolding count first_set
  after-in = (omega arith, omega arith, omega arith)

-- ---- the rows one and three off the high row of set m
module _ (H : Side) (m : ℕ) (g : 1 < H.length) (l : m < count hi H) where
  pub high-before : row_before H 1 (2 * m + 1) ≡ 2 * (left lo H m + first_set H lo)
  unfolding row_before
  high-before =
      ap (λ (q : ℕ). H.start % 2 + before H.length 1 q) (high-place H m)
      ∙ ap (λ (q : ℕ). H.start % 2 + q) (before-is H g hi m l)
      ∙ low-at H (left lo H m)

  pub high_after : row_after H 1 (2 * m + 1) ≡ 2 * (right lo H m + first_set H lo)
  unfolding row_after
  high_after =
      ap (λ (q : ℕ). H.start % 2 + after H.length 1 q) (high-place H m)
      ∙ ap (λ (q : ℕ). H.start % 2 + q) (after_is H g hi m l)
      ∙ low-at H (right lo H m)

  pub high-far-before : row_before H 3 (2 * m + 1) ≡ 2 * (far_before H m + first_set H lo)
  unfolding row_before
  high-far-before =
      ap (λ (q : ℕ). H.start % 2 + before H.length 3 q) (high-place H m)
      ∙ ap (λ (q : ℕ). H.start % 2 + q) (far-before-is H g m l)
      ∙ low-at H (far_before H m)

  pub high-far-after : row_after H 3 (2 * m + 1) ≡ 2 * (far_after H m + first_set H lo)
  unfolding row_after
  high-far-after =
      ap (λ (q : ℕ). H.start % 2 + after H.length 3 q) (high-place H m)
      ∙ ap (λ (q : ℕ). H.start % 2 + q) (far-after-is H g m l)
      ∙ low-at H (far_after H m)

-- in set n, which has the last of them, they are of it or of those before it that it needs, at the look-ahead a
module _ (a : ℕ) (one : 1 ≤ a) (H : Side) (n m : ℕ) (g : Near a H n m) where
  abbrev In : ℕ → Type 0
  In i = (i + first_set H lo ≤ n) × (n < i + first_set H lo + 2 * a)

  pub left-in : In (left lo H m)
  unfolding count first_set end_of
  left-in = let l = g.0 in let h = g.1 in let b = g.2 in let e = g.3 in let c = g.4 in elim (ℕ_discrete n (m + a)) [
    | yes z ↦ (omega arith, omega arith)
    | no z ↦ let y = g.5 z in (omega arith, omega arith)
  ]

  pub right-in : In (right lo H m)
  unfolding count first_set end_of
  right-in = let l = g.0 in let h = g.1 in let b = g.2 in let e = g.3 in let c = g.4 in elim (ℕ_discrete n (m + a)) [
    | yes z ↦ (omega arith, omega arith)
    | no z ↦ let y = g.5 z in (omega arith, omega arith)
  ]

-- and those three off the row, of a filter that looks two sets ahead
module _ (H : Side) (n m : ℕ) (g : Near 2 H n m) where
  pub far-left-in : In 2 (omega arith) H n m g (far_before H m)
  unfolding count first_set end_of
  far-left-in = let l = g.0 in let h = g.1 in let b = g.2 in let e = g.3 in let c = g.4 in elim (ℕ_discrete m 0) [
    | yes u ↦ let v = far-first (count lo H) 0 (ahead H lo) m u in
        elim (ℕ_discrete n (m + 2)) [
          | yes z ↦ (omega arith, omega arith)
          | no z ↦ let y = g.5 z in (omega arith, omega arith)
        ]
    | no u ↦ let v = far-more (count lo H) 0 (ahead H lo) m (omega (arith, u)) in (omega arith, omega arith)
  ]

  pub far-right-in : In 2 (omega arith) H n m g (far_after H m)
  unfolding count first_set end_of
  far-right-in = let l = g.0 in let h = g.1 in let b = g.2 in let e = g.3 in let c = g.4 in elim (ℕ_discrete (m + 1) (count hi H)) [
    | yes u ↦ let v = far-last (count lo H) (count hi H) (ahead H lo) m u in
        elim (ℕ_discrete n (m + 2)) [
          | yes z ↦ (omega arith, omega arith)
          | no z ↦ let y = g.5 z in (omega arith, omega arith)
        ]
    | no u ↦ let v = far-less (count lo H) (count hi H) (ahead H lo) m (omega (arith, u)) in
        elim (ℕ_discrete n (m + 2)) [
          | yes z ↦ (omega arith, omega arith)
          | no z ↦ let y = g.5 z in (omega arith, omega arith)
        ]
  ]
