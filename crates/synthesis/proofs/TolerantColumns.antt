-- What a tolerant reader's level does to the columns meets what is asked of it: `tolerant-columns`; so its level meets what is asked of a level on the way
-- back: `tolerant-laws`. Assumes nothing.
use mathlib.Core.Path.{◌≡◌, refl, sym, ap, ap₂, subst, ◌∙◌}
use mathlib.Core.Bool.{Bool, true, false}
use Prim.Native.Nat.{ℕ, zero, suc, ◌+◌, ◌-◌, ◌*◌, ◌≤◌, ◌<◌}
use native.Mathlib.Decide.{dec_lt}
use native.Mathlib.Omega.{arith}
use lib.IntN.{ℤ, ◌+ℤ◌, ◌-ℤ◌}
use lib.Signed.{shr_z}
use Rattle.numbers.specs.Signal.{pick, windowed, spliced}
use Rattle.numbers.specs.Word.{wrap32}
use Rattle.numbers.proofs.Parts.{splice-in, window-in}
use Rattle.lifting.specs.Line.{Half, lo, hi, unpredicted}
use Rattle.lifting.specs.Grid.{Side, side, place, count, deinterleaved, single_high, line_halves_back}
use Rattle.lifting.specs.Filter.{Filter}
use Rattle.lifting.proofs.GridLaws.{joined-place, place-in, even-one}
use Rattle.lifting.proofs.SingleLaws.{single-high}
use Rattle.lifting.proofs.Neighbours.{left, right}
use Rattle.lifting.proofs.Neighbours as near
use Rattle.lifting.proofs.FiveThree.{half_sum, quarter_sum, even-by, odd-by}
use Rattle.wavelet.specs.Bands.{Grid, Band, rows_unlifted, level_back}
use Rattle.wavelet.specs.Order.{first_set}
use Rattle.tolerance.specs.Limits.{limited}
use Rattle.tolerance.specs.Back.{level_back_limited}
use Rattle.tolerance.proofs.LimitLaws.{limited-fits, limited-stays}
use Rattle.filters.specs.Filters.{filter_of}
use Rattle.level.specs.Stretch.{row_place, row_in, half_place, end_of, RowStands}
use Rattle.level.proofs.RowsIn.{Only, half-inside, only-splice, by-is}
use Rattle.level.proofs.ReaderLaws.{ReaderLawsBy}
use Rattle.synthesis.specs.Columns.{row_before, row_after, even_of, odd_of}
use Rattle.synthesis.specs.Tolerant.{row_limited, even_limited, odd_limited, back_limited, tolerant_columns, tolerant_back, tolerant_stands}
use Rattle.synthesis.proofs.ColumnLaws.{cols_of, Near, ColumnLaws}
use Rattle.synthesis.proofs.NearRows.{high-before, high_after, left-in, right-in}
use Rattle.synthesis.proofs.FilterColumns.{along, even-made, in-lows, low-row, high-row, by_three, moved, even-only, odd-only, columns-laws}
use Rattle.synthesis.proofs.LevelLaws.{level-laws}

abbrev F : Filter
F = filter_of 0

-- ---- a row limited
only_then : {m w t : ℕ} {x y z : ℕ → ℤ} → Only m w t x y → Only m w t y z → Only m w t x z
only_then a b = record { row = λ q i d h. b.row q i d h ∙ a.row q i d h; past = λ j h. b.past j h ∙ a.past j h }

only-limited : (k w q : ℕ) (x : ℕ → ℤ) → Only 4 w q x (row_limited k w q x)
unfolding row_limited
only-limited k w q x = only-splice {m = 4} (omega arith) w q _ _ (omega arith) (omega arith) _ x

limited-is : (k : ℕ) (W : Side) (q : ℕ) (x : ℕ → ℤ) (c : Half → ℕ → ℤ) → RowStands 4 W x q c →
    RowStands 4 W (row_limited k W.length q x) q (λ h i. limited F k (c h i))
unfolding row_limited row_in
limited-is k W q x c e h i b =
    let f : row_place 4 W.length q + (half_place h W + i) - row_place 4 W.length q ≡ (half_place h W + i) = omega arith in
    splice-in _ _ _ x _ (omega arith) (omega (arith, half-inside h W i b))
    ∙ ap (λ (j : ℕ). limited F k (windowed (row_place 4 W.length q) W.length x j)) f
    ∙ ap (limited F k) (window-in (row_place 4 W.length q) W.length x (half_place h W + i) (half-inside h W i b) ∙ e h i b)

-- limiting twice is limiting once
twice : (k : ℕ) (v : ℤ) → limited F k (limited F k v) ≡ limited F k v
twice k v = limited-stays F k (limited F k v) (limited-fits F k v)

-- ---- one level: a sample from the two halves of its column
module _ (k : ℕ) (W H : Side) (p : Band → Grid) where
  abbrev B : Grid
  B = back_limited k W H p

  abbrev fix : ℤ → ℤ
  fix z = limited F k (wrap32 z)

  abbrev column : ℕ → Half → ℕ → ℤ
  column c a i = rows_unlifted F wrap32 W p a i c

  abbrev b₀ : ℕ
  b₀ = first_set H lo

  -- where no row is a single one at an odd coordinate
  back_is : (h : Half) (n c : ℕ) → single_high H ≡ false → B (place H h n) c ≡ limited F k (line_halves_back fix H (column c) h n)
  unfolding back_limited level_back_limited filter_of
  back_is h n c e = rw e (ap (limited F k) (joined-place H (line_halves_back fix H (column c)) h n))

  strict-is : (h : Half) (n c : ℕ) → level_back F wrap32 W H p (place H h n) c ≡ line_halves_back wrap32 H (column c) h n
  unfolding level_back filter_of
  strict-is h n c = joined-place H (line_halves_back wrap32 H (column c)) h n

  not-single : 0 < count lo H → single_high H ≡ false
  not-single h = go (single_high H) refl
    where
      go : (t : Bool) → single_high H ≡ t → t ≡ false
      go true e = absurd (omega (arith, (single-high H e).1))
      go false e = refl

  many-not : 1 < H.length → single_high H ≡ false
  many-not h = go (single_high H) refl
    where
      go : (t : Bool) → single_high H ≡ t → t ≡ false
      go true e = absurd (omega (arith, (single-high H e).0))
      go false e = refl

  -- an even value is the strict one, limited
  even-limited : (n c : ℕ) → n < count lo H → limited F k (level_back F wrap32 W H p (place H lo n) c) ≡ B (place H lo n) c
  even-limited n c b =
      elim (dec_lt 1 H.length) [
        | yes g ↦
            ap (limited F k) (strict-is lo n c ∙ even-by wrap32 H g (column c) n b)
            ∙ sym (back_is lo n c (not-single (omega arith)) ∙ ap (limited F k) (even-by fix H g (column c) n b) ∙ twice k _)
        | no g ↦
            ap (limited F k) (strict-is lo n c ∙ even-one H (omega arith) wrap32 (column c) n)
            ∙ sym (back_is lo n c (not-single (omega arith)) ∙ ap (limited F k) (even-one H (omega arith) fix (column c) n))
      ]

  -- and by it odd ones are rebuilt
  even-value : (n c : ℕ) → 1 < H.length → n < count lo H → B (place H lo n) c ≡ line_halves_back fix H (column c) lo n
  even-value n c g b =
      back_is lo n c (many-not g) ∙ ap (limited F k) (even-by fix H g (column c) n b) ∙ twice k _ ∙ sym (even-by fix H g (column c) n b)

  low_value : (i c : ℕ) → 1 < H.length → i < count lo H → B (2 * (i + b₀) - b₀) c ≡ line_halves_back fix H (column c) lo i
  low_value i c g b = ap (λ (r : ℕ). B r c) (sym (low-row F W H p (i + b₀) (omega arith)) ∙ ap (place H lo) (drop i b₀)) ∙ even-value i c g b
    where
      drop : (i b : ℕ) → i + b - b ≡ i
      drop i b = omega arith

  odd-value : (i c : ℕ) → 1 < H.length → i < count hi H → (left lo H i < count lo H) → (right lo H i < count lo H) →
      limited F k (unpredicted wrap32 (column c hi i) (B (2 * (left lo H i + b₀) - b₀) c) (B (2 * (right lo H i + b₀) - b₀) c)) ≡ B (2 * i + 1 - b₀) c
  unfolding unpredicted
  odd-value i c g b l r =
      ap₂ (λ (u v : ℤ). limited F k (wrap32 (column c hi i +ℤ half_sum u v))) (low_value (left lo H i) c g l) (low_value (right lo H i) c g r)
      ∙ sym (ap (λ (j : ℕ). B j c) (sym (high-row F W H p i)) ∙ back_is hi i c (many-not g) ∙ ap (limited F k) (odd-by fix H g (column c) i b) ∙ twice k _)

-- ---- an even row
even-row : (k : ℕ) (W H : Side) (p : Band → Grid) (n : ℕ) (x : ℕ → ℤ) → 2 * n < end_of H → first_set H lo ≤ n →
    RowStands 4 W x (2 * n) (deinterleaved W (rows_unlifted F wrap32 W p lo (n - first_set H lo))) →
    ((i : ℕ) → i < count hi H → i ≤ n → n ≤ i + 1 → RowStands 4 W x (2 * i + 1) (deinterleaved W (rows_unlifted F wrap32 W p hi i))) →
    RowStands 4 W (even_limited k W.length H (2 * n) x) (2 * n) (deinterleaved W (back_limited k W H p (2 * n - first_set H lo)))
unfolding even_limited filter_of
even-row k W H p n x l b low high h i t =
    limited-is k W (2 * n) _ _ (even-made 0 W H p n x l b low high) h i t
    ∙ by_three W (λ u _ _. limited F k u) (G) (G) (G) (back_limited k W H p (2 * n - first_set H lo))
    (λ c _.
    let e = low-row F W H p n b in
    ap (λ (r : ℕ). limited F k (level_back F wrap32 W H p r c)) (sym e)
    ∙ even-limited k W H p (n - first_set H lo) c (in-lows H n l b)
    ∙ ap (λ (r : ℕ). back_limited k W H p r c) e) h i t
  where
    G : ℕ → ℤ
    G = level_back F wrap32 W H p (2 * n - first_set H lo)

-- ---- an odd row
odd-row : (k : ℕ) (W H : Side) (p : Band → Grid) (n i : ℕ) (x : ℕ → ℤ) → Near 1 H n i →
    RowStands 4 W x (2 * i + 1) (deinterleaved W (rows_unlifted F wrap32 W p hi i)) →
    ((j : ℕ) → first_set H lo ≤ j → j ≤ n → n < j + 2 * 1 → RowStands 4 W x (2 * j) (deinterleaved W (back_limited k W H p (2 * j - first_set H lo)))) →
    RowStands 4 W (odd_limited k W.length H (2 * i + 1) x) (2 * i + 1) (deinterleaved W (back_limited k W H p (2 * i + 1 - first_set H lo)))
unfolding odd_limited odd_of
odd-row k W H p n i x g high evens h t q =
    let u = left-in 1 (omega arith) H n i g in
    let v = right-in 1 (omega arith) H n i g in
    limited-is k W (2 * i + 1) _ _
    (by-is {m = 4} (omega arith) (unpredicted wrap32) W (2 * i + 1) (row_before H 1 (2 * i + 1)) (row_after H 1 (2 * i + 1)) x _ _ _ high
    (moved W 4 x _ _ (back_limited k W H p (2 * (left lo H i + first_set H lo) - first_set H lo)) (high-before H i g.1 g.0)
    (evens (left lo H i + first_set H lo) (omega arith) u.0 u.1))
    (moved W 4 x _ _ (back_limited k W H p (2 * (right lo H i + first_set H lo) - first_set H lo)) (high_after H i g.1 g.0)
    (evens (right lo H i + first_set H lo) (omega arith) v.0 v.1))) h t q
    ∙ by_three W (λ a b c. limited F k (unpredicted wrap32 a b c)) _ _ _ (back_limited k W H p (2 * i + 1 - first_set H lo))
    (λ c _. odd-value k W H p i c g.1 g.0 (near.left-in lo H i g.1 g.0).0 (near.right-in lo H i g.1 g.0).0) h t q

-- an only row at an odd coordinate is halved, as the strict level has it
single-row : (k : ℕ) (W H : Side) (p : Band → Grid) (i c : ℕ) → H.length ≤ 1 → single_high H ≡ true →
    shr_z (rows_unlifted F wrap32 W p hi i c) 2 ≡ back_limited k W H p (2 * i + 1 - first_set H lo) c
unfolding back_limited
single-row k W H p i c g e = rw e ((columns-laws 0).single-is k W H p i c g e)

pub tolerant-columns : ColumnLaws tolerant_columns
unfolding filter_of even_limited odd_limited
tolerant-columns = record {
  looks = omega arith;
  keeps = refl;
  along-is = along 0;
  only-even = λ k w H q x. only_then (even-only 0 w H q x) (only-limited k w q (even_of 0 w H q x));
  only-odd = λ k w H q x. only_then (odd-only 0 w H q x) (only-limited k w q (odd_of 0 w H q x));
  even_is = even-row;
  odd_is = odd-row;
  single-is = single-row;
}

pub tolerant-laws : ReaderLawsBy (filter_of 0) tolerant_back tolerant_stands
unfolding tolerant_back tolerant_stands
tolerant-laws = level-laws tolerant_columns tolerant-columns

-- at the origin its way back is that of crate tolerance
pub at-origin : (k : ℕ) (W : Side) (h : ℕ) (p : Band → Grid) → tolerant_back.back k W (side 0 h) p ≡ level_back_limited (filter_of 0) wrap32 k W (side 0 h) p
unfolding tolerant_back back_limited single_high
at-origin k W h p = refl
