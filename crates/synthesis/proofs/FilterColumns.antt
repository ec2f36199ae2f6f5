-- What the two filters do along the rows and to the columns meets what is asked of it: `columns-laws`, by the filter's number. Assumes nothing.
use mathlib.Core.Path.{◌≡◌, refl, sym, ap, subst, ◌∙◌}
use Prim.Native.Nat.{ℕ, zero, suc, ◌+◌, ◌-◌, ◌*◌, ◌≤◌, ◌<◌}
use native.Mathlib.Decide.{dec_lt}
use native.Mathlib.Nat.{mod-lt}
use native.Mathlib.Omega.{arith}
use lib.IntN.{ℤ}
use lib.Signed.{shr_z}
use lib.Dec.{ltb}
use borrow.Author.Tests.{lt-ltb, le-ltb}
use Rattle.numbers.specs.Signal.{pick}
use Rattle.numbers.specs.Word.{wrap32}
use Rattle.lifting.specs.Line as five
use Rattle.lifting.specs.Line.{Half, lo, hi}
use Rattle.lifting.specs.Grid.{Side, place, count, deinterleaved}
use Rattle.lifting.specs.GridHalves as five-halves
use Rattle.lifting.specs.Filter.{Filter, line_back_by}
use Rattle.lifting.proofs.GridLaws as five-laws
use Rattle.lifting.proofs.GridLaws.{place-in, joined-place}
use Rattle.lifting.proofs.GridReads as five-reads
use Rattle.lifting.proofs.Neighbours.{left, right}
use Rattle.lifting.proofs.RowLaws.{row-order}
use Rattle.nine_seven.specs.NineSeven as nine
use Rattle.nine_seven.specs.Memory as nine-halves
use Rattle.filters.specs.Filters.{filter_of}
use Rattle.nine_seven.proofs.MirrorLaws.{far_before, far_after}
use Rattle.nine_seven.proofs.NineSevenLaws as nine-laws
use Rattle.nine_seven.proofs.NineSevenReads as nine-reads
use Rattle.nine_seven.proofs.FiveRows as rows
use Rattle.wavelet.specs.Bands.{Grid, Band, rows_unlifted, level_back}
use Rattle.wavelet.specs.Order.{first_set}
use Rattle.level.specs.Stretch.{slot, row_place, half_place, end_of, RowStands, row_unlifted, row_by}
use Rattle.level.proofs.RowsIn.{Only, row-halves, unlifted-by, half-inside, only-by, by-is}
use Rattle.synthesis.specs.Columns.{row_before, row_after, row_by_four, along_of, unupdated_of, even_of, odd_of, columns_of}
use Rattle.synthesis.proofs.ColumnLaws.{cols_of, Near, ColumnLaws}
use Rattle.synthesis.proofs.NearRows.{low-before, low-after, high-before, high_after, high-far-before, high-far-after, before-in, after-in}
use Rattle.synthesis.proofs.NearRows.{left-in, right-in, far-left-in, far-right-in}

-- ---- the figures
pub ahead-some : (f : ℕ) → 1 ≤ (filter_of f).ahead
unfolding filter_of
ahead-some zero = omega arith
ahead-some (suc f) = omega arith

pub rows_are : (f : ℕ) → (filter_of f).rows ≡ 4 * (filter_of f).ahead
unfolding filter_of
rows_are zero = refl
rows_are (suc f) = refl

pub rows-some : (f : ℕ) → 0 < (filter_of f).rows
rows-some f = omega (arith, rows_are f, ahead-some f)

-- ---- along the rows
pub along : (f : ℕ) (W : Side) (q : ℕ) (x : ℕ → ℤ) (c : Half → ℕ → ℤ) → RowStands (filter_of f).rows W x q c →
    RowStands (filter_of f).rows W (row_unlifted (filter_of f).rows (along_of f) W q x) q (deinterleaved W (line_back_by (filter_of f) wrap32 W c))
unfolding along_of filter_of five-halves.unlifted_in_place nine-halves.unlifted_in_place deinterleaved
along zero W q x c e h i b =
    unlifted-by {m = 4} (omega arith) five-halves.unlifted_in_place W q x _ refl h i b
    ∙ five-reads.halves-back-reads wrap32 W _ c (row-halves {m = 4} (omega arith) W x q _ e) h i b
    ∙ sym (joined-place W ((filter_of 0).halves_back wrap32 W c) h i)
along (suc f) W q x c e h i b =
    unlifted-by {m = 8} (omega arith) nine-halves.unlifted_in_place W q x _ refl h i b
    ∙ nine-reads.halves-back-reads wrap32 W _ c (row-halves {m = 8} (omega arith) W x q _ e) h i b
    ∙ sym (joined-place W ((filter_of (suc f)).halves_back wrap32 W c) h i)

-- ---- rows changed by others, of any number m
module _ {m : ℕ} (some : 0 < m) where
  pub only_none : (w t : ℕ) (x : ℕ → ℤ) → Only m w t x x
  only_none w t x = record { row = λ q i d h. refl; past = λ j h. refl }

  pub only-four : (w t : ℕ) (f : ℤ → ℤ → ℤ → ℤ → ℤ → ℤ) (a b c e : ℕ) (x : ℕ → ℤ) → Only m w t x (row_by_four m f w t a b c e x)
  unfolding row_by_four row_place
  only-four w t f a b c e x = record {
    row = λ q i d h. rows.row_other f w w (slot m t) (slot m a) (slot m b) (slot m c) (slot m e) x (slot m q) i (λ z. d (sym z)) (omega arith) h;
    past = λ j h. rows.row-past f w w (slot m t) (slot m a) (slot m b) (slot m c) (slot m e) x j (omega (arith, row-order w (slot m t) m (mod-lt t some)));
  }

  four_is : (f : ℤ → ℤ → ℤ → ℤ → ℤ → ℤ) (W : Side) (t l r u v : ℕ) (x : ℕ → ℤ) (a b c d e : Half → ℕ → ℤ) → RowStands m W x t a → RowStands m W x l b →
      RowStands m W x r c → RowStands m W x u d → RowStands m W x v e →
      RowStands m W (row_by_four m f W.length t l r u v x) t (λ h i. f (a h i) (b h i) (c h i) (d h i) (e h i))
  unfolding row_by_four row_place
  four_is f W t l r u v x a b c d e p q s y w h i z =
      rows.row-at f W.length W.length (slot m t) (slot m l) (slot m r) (slot m u) (slot m v) x (half_place h W + i) (half-inside h W i z)
      ∙ (λ j. f (p h i z j) (q h i z j) (s h i z j) (y h i z j) (w h i z j))

pub even-only : (f w : ℕ) (H : Side) (q : ℕ) (x : ℕ → ℤ) → Only (filter_of f).rows w q x (even_of f w H q x)
unfolding even_of
even-only f w H q x = go (dec_lt 1 H.length)
  where
    go : Dec (1 < H.length) →
        Only (filter_of f).rows w q x (pick (ltb 1 H.length) (row_by (filter_of f).rows (unupdated_of f) w q (row_before H 1 q) (row_after H 1 q) x) x)
    go (yes g) = rw (lt-ltb 1 H.length g) (only-by (rows-some f) w q (unupdated_of f) (row_before H 1 q) (row_after H 1 q) x)
    go (no g) = rw (le-ltb 1 H.length (omega arith)) (only_none (rows-some f) w q x)

pub odd-only : (f w : ℕ) (H : Side) (q : ℕ) (x : ℕ → ℤ) → Only (filter_of f).rows w q x (odd_of f w H q x)
unfolding odd_of filter_of
odd-only zero w H q x = only-by {m = 4} (omega arith) w q (five.unpredicted wrap32) (row_before H 1 q) (row_after H 1 q) x
odd-only (suc f) w H q x = only-four {m = 8} (omega arith) w q (nine.unpredicted wrap32) _ _ _ _ x

-- ---- a line's halves, by the filter's number
module _ (H : Side) (c : Half → ℕ → ℤ) where
  even-near : (f : ℕ) → 1 < H.length → (n : ℕ) → n < count lo H →
      (filter_of f).halves_back wrap32 H c lo n ≡ unupdated_of f (c lo n) (c hi (left hi H n)) (c hi (right hi H n))
  unfolding filter_of unupdated_of
  even-near zero g n l = five-laws.even-near H g wrap32 c n l
  even-near (suc f) g n l = nine-laws.even-near H g wrap32 c n l

  even-one : (f : ℕ) → H.length ≤ 1 → (n : ℕ) → (filter_of f).halves_back wrap32 H c lo n ≡ c lo n
  unfolding filter_of
  even-one zero g n = five-laws.even-one H g wrap32 c n
  even-one (suc f) g n = nine-laws.even-one H g wrap32 c n

  odd-one : (f : ℕ) → H.length ≤ 1 → (n : ℕ) → (filter_of f).halves_back wrap32 H c hi n ≡ shr_z (c hi n) 2
  unfolding filter_of
  odd-one zero g n = five-laws.odd-one H g wrap32 c n
  odd-one (suc f) g n = nine-laws.odd-one H g wrap32 c n

-- ---- one level: a sample from the two halves of its column
module _ (F : Filter) (W H : Side) (p : Band → Grid) where
  abbrev G : Grid
  G = level_back F wrap32 W H p

  abbrev cols : Half → ℕ → ℕ → ℤ
  cols h n = rows_unlifted F wrap32 W p h n

  abbrev b₀ : ℕ
  b₀ = first_set H lo

  column-back : (h : Half) (n c : ℕ) → G (place H h n) c ≡ F.halves_back wrap32 H (λ a i. cols a i c) h n
  unfolding level_back
  column-back h n c = joined-place H (F.halves_back wrap32 H (λ a i. cols a i c)) h n

  pub low-row : (n : ℕ) → b₀ ≤ n → place H lo (n - b₀) ≡ 2 * n - b₀
  unfolding place first_set
  low-row n b = omega arith

  pub high-row : (i : ℕ) → place H hi i ≡ 2 * i + 1 - b₀
  unfolding place first_set
  high-row i = omega arith

  even-back : (n c : ℕ) → b₀ ≤ n → G (2 * n - b₀) c ≡ F.halves_back wrap32 H (λ a i. cols a i c) lo (n - b₀)
  even-back n c b = ap (λ (r : ℕ). G r c) (sym (low-row n b)) ∙ column-back lo (n - b₀) c

  odd-back : (i c : ℕ) → G (2 * i + 1 - b₀) c ≡ F.halves_back wrap32 H (λ a j. cols a j c) hi i
  odd-back i c = ap (λ (r : ℕ). G r c) (sym (high-row i)) ∙ column-back hi i c

  -- the even row of low number i
  low_value : (i c : ℕ) → G (2 * (i + b₀) - b₀) c ≡ F.halves_back wrap32 H (λ a j. cols a j c) lo i
  low_value i c = even-back (i + b₀) c (omega arith) ∙ ap (F.halves_back wrap32 H (λ a j. cols a j c) lo) (drop i b₀)
    where
      drop : (i b : ℕ) → i + b - b ≡ i
      drop i b = omega arith

-- ---- rows of the level, told by their columns
module _ (W : Side) where
  by-columns : (f : ℤ → ℤ → ℤ → ℤ → ℤ → ℤ) (r₁ r₂ r₃ r₄ r₅ r₆ : ℕ → ℤ) → ((c : ℕ) → c < W.length → f (r₁ c) (r₂ c) (r₃ c) (r₄ c) (r₅ c) ≡ r₆ c) →
      (h : Half) (i : ℕ) → i < count h W → f (deinterleaved W r₁ h i) (deinterleaved W r₂ h i) (deinterleaved W r₃ h i) (deinterleaved W r₄ h i)
      (deinterleaved W r₅ h i) ≡ deinterleaved W r₆ h i
  unfolding deinterleaved
  by-columns f r₁ r₂ r₃ r₄ r₅ r₆ e h i b = e (place W h i) (place-in W h i b)

  pub by_three : (f : ℤ → ℤ → ℤ → ℤ) (r₁ r₂ r₃ r₄ : ℕ → ℤ) → ((c : ℕ) → c < W.length → f (r₁ c) (r₂ c) (r₃ c) ≡ r₄ c) → (h : Half) (i : ℕ) → i < count h W →
      f (deinterleaved W r₁ h i) (deinterleaved W r₂ h i) (deinterleaved W r₃ h i) ≡ deinterleaved W r₄ h i
  by_three f r₁ r₂ r₃ r₄ e = by-columns (λ u v w _ _. f u v w) r₁ r₂ r₃ r₁ r₁ r₄ e

  pub moved : (m : ℕ) (x : ℕ → ℤ) (q t : ℕ) (v : ℕ → ℤ) → q ≡ t → RowStands m W x t (deinterleaved W v) → RowStands m W x q (deinterleaved W v)
  moved m x q t v e s = subst (λ (j : ℕ). RowStands m W x j (deinterleaved W v)) (sym e) s

pub in-lows : (H : Side) (n : ℕ) → 2 * n < end_of H → first_set H lo ≤ n → n - first_set H lo < count lo H
unfolding end_of count first_set
in-lows H n l b = omega arith

-- ---- an even row
pub even-made : (f : ℕ) (W H : Side) (p : Band → Grid) (n : ℕ) (x : ℕ → ℤ) → 2 * n < end_of H → first_set H lo ≤ n →
    RowStands (filter_of f).rows W x (2 * n) (deinterleaved W (rows_unlifted (filter_of f) wrap32 W p lo (n - first_set H lo))) →
    ((i : ℕ) → i < count hi H → i ≤ n → n ≤ i + 1
    → RowStands (filter_of f).rows W x (2 * i + 1) (deinterleaved W (rows_unlifted (filter_of f) wrap32 W p hi i))) →
    RowStands (filter_of f).rows W (even_of f W.length H (2 * n) x) (2 * n) (deinterleaved W (level_back (filter_of f) wrap32 W H p (2 * n - first_set H lo)))
unfolding even_of
even-made f W H p n x l b low high = go (dec_lt 1 H.length)
  where
    m : ℕ
    m = (filter_of f).rows

    j : ℕ
    j = n - first_set H lo

    own : ℕ → ℕ → ℤ
    own = rows_unlifted (filter_of f) wrap32 W p lo

    go : Dec (1 < H.length) → RowStands (filter_of f).rows W
        (pick (ltb 1 H.length) (row_by (filter_of f).rows (unupdated_of f) W.length (2 * n) (row_before H 1 (2 * n)) (row_after H 1 (2 * n)) x) x) (2 * n)
        (deinterleaved W (level_back (filter_of f) wrap32 W H p (2 * n - first_set H lo)))
    go (yes g) =
        let c = in-lows H n l b in
        let u = before-in H n g b c in
        let v = after-in H n g b c in
        rw (lt-ltb 1 H.length g) (λ h i t.
        by-is (rows-some f) (unupdated_of f) W (2 * n) (row_before H 1 (2 * n)) (row_after H 1 (2 * n)) x _ _ _ low
        (moved W m x _ _ (cols (filter_of f) W H p hi (left hi H j)) (low-before H n g b c) (high (left hi H j) u.0 u.1 u.2))
        (moved W m x _ _ (cols (filter_of f) W H p hi (right hi H j)) (low-after H n g b c) (high (right hi H j) v.0 v.1 v.2)) h i t
        ∙ by_three W (unupdated_of f) _ _ _ (level_back (filter_of f) wrap32 W H p (2 * n - first_set H lo))
        (λ d _. sym (even-near H (λ a e. cols (filter_of f) W H p a e d) f g j c) ∙ sym (even-back (filter_of f) W H p n d b)) h i t)
    go (no g) = rw (le-ltb 1 H.length (omega arith)) (λ h i t.
        low h i t
        ∙ by_three W (λ u _ _. u) (own j) (own j) (own j) (level_back (filter_of f) wrap32 W H p (2 * n - first_set H lo))
        (λ d _. sym (even-back (filter_of f) W H p n d b ∙ even-one H (λ a e. cols (filter_of f) W H p a e d) f (omega arith) j)) h i t)

-- ---- an odd row
abbrev Evens : ℕ → Side → Side → (Band → Grid) → ℕ → (ℕ → ℤ) → Type 0
Evens f W H p n x = (j : ℕ) → first_set H lo ≤ j → j ≤ n → n < j + 2 * (filter_of f).ahead →
    RowStands (filter_of f).rows W x (2 * j) (deinterleaved W (level_back (filter_of f) wrap32 W H p (2 * j - first_set H lo)))

odd-made : (f : ℕ) (W H : Side) (p : Band → Grid) (n i : ℕ) (x : ℕ → ℤ) → Near (filter_of f).ahead H n i →
    RowStands (filter_of f).rows W x (2 * i + 1) (deinterleaved W (rows_unlifted (filter_of f) wrap32 W p hi i)) → Evens f W H p n x →
    RowStands (filter_of f).rows W (odd_of f W.length H (2 * i + 1) x) (2 * i + 1)
    (deinterleaved W (level_back (filter_of f) wrap32 W H p (2 * i + 1 - first_set H lo)))
unfolding filter_of odd_of
odd-made zero W H p n i x g high evens h t q =
    let F = filter_of 0 in
    let u = left-in 1 (omega arith) H n i g in
    let v = right-in 1 (omega arith) H n i g in
    by-is {m = 4} (omega arith) (five.unpredicted wrap32) W (2 * i + 1) (row_before H 1 (2 * i + 1)) (row_after H 1 (2 * i + 1)) x _ _ _ high
    (moved W 4 x _ _ (G F W H p (2 * (left lo H i + first_set H lo) - first_set H lo)) (high-before H i g.1 g.0)
    (evens (left lo H i + first_set H lo) (omega arith) u.0 u.1))
    (moved W 4 x _ _ (G F W H p (2 * (right lo H i + first_set H lo) - first_set H lo)) (high_after H i g.1 g.0)
    (evens (right lo H i + first_set H lo) (omega arith) v.0 v.1)) h t q
    ∙ by_three W (five.unpredicted wrap32) _ _ _ (G F W H p (2 * i + 1 - first_set H lo)) (λ c _.
    (λ z. five.unpredicted wrap32 (cols F W H p hi i c) (low_value F W H p (left lo H i) c z) (low_value F W H p (right lo H i) c z))
    ∙ sym (five-laws.odd-near H g.1 wrap32 (λ a j. cols F W H p a j c) i g.0) ∙ sym (odd-back F W H p i c)) h t q
odd-made (suc f) W H p n i x g high evens h t q =
    let F = filter_of (suc f) in
    let u = left-in 2 (omega arith) H n i g in
    let v = right-in 2 (omega arith) H n i g in
    let y = far-left-in H n i g in
    let w = far-right-in H n i g in
    four_is {m = 8} (omega arith) (nine.unpredicted wrap32) W (2 * i + 1) (row_before H 1 (2 * i + 1)) (row_after H 1 (2 * i + 1)) (row_before H 3 (2 * i + 1))
    (row_after H 3 (2 * i + 1)) x _ _ _ _ _ high
    (moved W 8 x _ _ (G F W H p (2 * (left lo H i + first_set H lo) - first_set H lo)) (high-before H i g.1 g.0)
    (evens (left lo H i + first_set H lo) (omega arith) u.0 u.1))
    (moved W 8 x _ _ (G F W H p (2 * (right lo H i + first_set H lo) - first_set H lo)) (high_after H i g.1 g.0)
    (evens (right lo H i + first_set H lo) (omega arith) v.0 v.1))
    (moved W 8 x _ _ (G F W H p (2 * (far_before H i + first_set H lo) - first_set H lo)) (high-far-before H i g.1 g.0)
    (evens (far_before H i + first_set H lo) (omega arith) y.0 y.1))
    (moved W 8 x _ _ (G F W H p (2 * (far_after H i + first_set H lo) - first_set H lo)) (high-far-after H i g.1 g.0)
    (evens (far_after H i + first_set H lo) (omega arith) w.0 w.1)) h t q
    ∙ by-columns W (nine.unpredicted wrap32) _ _ _ _ _ (G F W H p (2 * i + 1 - first_set H lo)) (λ c _.
    (λ z. nine.unpredicted wrap32 (cols F W H p hi i c) (low_value F W H p (left lo H i) c z) (low_value F W H p (right lo H i) c z)
    (low_value F W H p (far_before H i) c z) (low_value F W H p (far_after H i) c z))
    ∙ sym (nine-laws.odd-near H g.1 wrap32 (λ a j. cols F W H p a j c) i g.0) ∙ sym (odd-back F W H p i c)) h t q

pub columns-laws : (f : ℕ) → ColumnLaws (columns_of f)
columns-laws f = record {
  looks = ahead-some f;
  keeps = rows_are f;
  along-is = along f;
  only-even = λ k. even-only f;
  only-odd = λ k. odd-only f;
  even_is = λ k. even-made f;
  odd_is = λ k. odd-made f;
  single-is = λ k W H p i c g _. sym (odd-back (filter_of f) W H p i c ∙ odd-one H (λ a j. cols (filter_of f) W H p a j c) f g i);
}
