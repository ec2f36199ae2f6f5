-- The limited way back by words is that by whole numbers, of a plane whose numbers are in the range of the last level: no sum wraps.
-- Assumes nothing.
use mathlib.Core.Path.{◌≡◌, refl, sym, ap, ap₂, ◌∙◌}
use Prim.Native.Nat.{ℕ, zero, suc, ◌+◌, ◌*◌, ◌^◌, ◌≤◌, ◌<◌}
use native.Mathlib.Decide.{dec_lt}
use native.Mathlib.Omega.{arith}
use lib.IntN.{ℤ, pos, nat_abs, ◌+ℤ◌, ◌-ℤ◌}
use lib.Signed.{shr_z}
use Rattle.numbers.specs.Word.{wrap32, whole}
use Rattle.numbers.proofs.Words.{wrap-kept, abs-fits}
use Rattle.numbers.proofs.Integers.{each, lin}
use Rattle.lifting.specs.Line.{Half, lo, hi}
use Rattle.lifting.specs.Grid.{Side, count, joined, line_halves_back, line_back}
use Rattle.lifting.specs.Filter.{Filter}
use Rattle.lifting.specs.FiveThree.{five_three_filter}
use Rattle.lifting.proofs.GridLaws.{even-one, odd-one, joined-place, by_place, in_place, joined-reads}
use Rattle.lifting.proofs.Neighbours.{left, right, left-in, right-in}
use Rattle.lifting.proofs.FiveThree.{half_sum, quarter_sum, even-by, odd-by}
use Rattle.lifting.proofs.FiveThreeFilter.{five-three-laws}
use Rattle.lifting.proofs.GridReads.{back-reads}
use Rattle.wavelet.specs.Limits.{max_sample, range}
use Rattle.wavelet.specs.Bands.{Grid, Band, LL, across, down, band_of, rows_unlifted}
use Rattle.wavelet.specs.Levels.{next}
use Rattle.wavelet.specs.Plane.{plane_bands}
use Rattle.wavelet.proofs.LevelTheory.{OnCells, OnBands, Same, SameBands, band_in, over, plane-bands, over-all, over-same, in-bands, corner}
use Rattle.wavelet.proofs.LevelTheory.{rows-reads, across-of, down-of}
use Rattle.wavelet.proofs.MapTheorems.{fits-within}
use Rattle.wavelet.proofs.Bridge.{Within, range-le}
use Rattle.tolerance.specs.Limits.{limited}
use Rattle.tolerance.specs.Back.{level_back_limited, map_back_limited}
use Rattle.tolerance.proofs.LimitLaws.{limited-fits}

-- ---- one value
quarter-within : (M : ℕ) (x a b : ℤ) → nat_abs x ≤ M → nat_abs a ≤ M → nat_abs b ≤ M → nat_abs (x -ℤ quarter_sum a b) ≤ 2 * M + 1
quarter-within M = each _ λ p q. each _ λ r s. each _ λ t u. simp lin (omega arith)

half-within : (M B : ℕ) (x a b : ℤ) → nat_abs x ≤ M → nat_abs a ≤ B → nat_abs b ≤ B → nat_abs (x +ℤ half_sum a b) ≤ M + B
half-within M B = each _ λ p q. each _ λ r s. each _ λ t u. simp lin (omega arith)

single-within : (M : ℕ) (x : ℤ) → nat_abs x ≤ M → nat_abs (shr_z x 2) ≤ M
single-within M = each _ λ p q. simp lin (omega arith)

-- ---- a line whose values are within M: two ways to keep a sum are the same if they are for the sums that come; an even value comes to B at most
module _ (S : Side) (keep keep' : ℤ → ℤ) (c : Half → ℕ → ℤ) (M B : ℕ) (least : M ≤ B)
    (inside : (a : Half) (n : ℕ) → n < count a S → nat_abs (c a n) ≤ M)
    (kept : (z : ℤ) → nat_abs z ≤ 2 * M + 1 → (keep z ≡ keep' z) × (nat_abs (keep' z) ≤ B))
    (odd-kept : (z : ℤ) → nat_abs z ≤ M + B → keep z ≡ keep' z) where
  evens : (n : ℕ) → n < count lo S → (line_halves_back keep S c lo n ≡ line_halves_back keep' S c lo n) × (nat_abs (line_halves_back keep' S c lo n) ≤ B)
  evens n b =
      elim (dec_lt 1 S.length) [
        | yes g ↦
            let l = (left-in hi S n g b).0 in
            let r = (right-in hi S n g b).0 in
            let z = kept _ (quarter-within M (c lo n) (c hi (left hi S n)) (c hi (right hi S n)) (inside lo n b) (inside hi _ l) (inside hi _ r)) in
            (even-by keep S g c n b ∙ z.0 ∙ sym (even-by keep' S g c n b), rw (even-by keep' S g c n b) z.1)
        | no g ↦
            let e = inside lo n b in
            (even-one S (omega arith) keep c n ∙ sym (even-one S (omega arith) keep' c n), rw (even-one S (omega arith) keep' c n) (omega arith))
      ]

  halves-same : (a : Half) (n : ℕ) → n < count a S → line_halves_back keep S c a n ≡ line_halves_back keep' S c a n
  halves-same lo n b = (evens n b).0
  halves-same hi n b =
      elim (dec_lt 1 S.length) [
        | yes g ↦
            let l = evens (left lo S n) (left-in lo S n g b).0 in
            let r = evens (right lo S n) (right-in lo S n g b).0 in
            odd-by keep S g c n b
            ∙ ap₂ (λ (u v : ℤ). keep (c hi n +ℤ half_sum u v)) l.0 r.0
            ∙ odd-kept _
            (half-within M B (c hi n) (line_halves_back keep' S c lo (left lo S n)) (line_halves_back keep' S c lo (right lo S n)) (inside hi n b) l.1 r.1)
            ∙ sym (odd-by keep' S g c n b)
        | no g ↦ odd-one S (omega arith) keep c n ∙ sym (odd-one S (omega arith) keep' c n)
      ]

  pub line_same : (i : ℕ) → i < S.length → joined S (line_halves_back keep S c) i ≡ joined S (line_halves_back keep' S c) i
  line_same = joined-reads S (line_halves_back keep S c) (line_halves_back keep' S c) halves-same

-- values of whole lines
module _ (S : Side) (c : Half → ℕ → ℤ) (M : ℕ) (inside : (a : Half) (n : ℕ) → n < count a S → nat_abs (c a n) ≤ M) where
  whole-even : (n : ℕ) → n < count lo S → nat_abs (line_halves_back whole S c lo n) ≤ 2 * M + 1
  whole-even n b = (evens S whole whole c M (2 * M + 1) (omega arith) inside (λ z h. (refl, h)) (λ z h. refl) n b).1

  whole-half : (a : Half) (n : ℕ) → n < count a S → nat_abs (line_halves_back whole S c a n) ≤ 3 * M + 1
  whole-half lo n b = let e = whole-even n b in omega arith
  whole-half hi n b =
      elim (dec_lt 1 S.length) [
        | yes g ↦
            let l = whole-even (left lo S n) (left-in lo S n g b).0 in
            let r = whole-even (right lo S n) (right-in lo S n g b).0 in
            let e = half-within M (2 * M + 1) (c hi n) (line_halves_back whole S c lo (left lo S n)) (line_halves_back whole S c lo (right lo S n))
            (inside hi n b) l r in
            rw (odd-by whole S g c n b) (omega arith)
        | no g ↦ let e = single-within M (c hi n) (inside hi n b) in rw (odd-one S (omega arith) whole c n) (omega arith)
      ]

  whole-within : (i : ℕ) → i < S.length → nat_abs (joined S (line_halves_back whole S c) i) ≤ 3 * M + 1
  whole-within =
      by_place S (λ i. i < S.length → nat_abs (joined S (line_halves_back whole S c) i) ≤ 3 * M + 1)
      (λ a n b. rw (joined-place S (line_halves_back whole S c) a n) (whole-half a n (in_place S a n b)))

-- nothing wraps
wrapped : (z : ℤ) (N : ℕ) → N < 2 ^ 31 → nat_abs z ≤ N → wrap32 z ≡ z
wrapped z N h g = wrap-kept z (abs-fits z N (omega arith) g)

abbrev F : Filter
F = five_three_filter

-- the largest number of a plane
unfoldable pub most : ℕ
most = range F 5

most-small : 12 * most + 4 < 2 ^ 31
unfolding most range max_sample
most-small = omega arith

limited-within : (k : ℕ) (v : ℤ) → k ≤ 5 → nat_abs (limited F k v) ≤ most
unfolding most
limited-within k v few = omega (arith, fits-within F five-three-laws k (limited F k v) (limited-fits F k v), range-le F five-three-laws k 5 few)

module _ (W H : Side) (p : Band → Grid) (inside : OnBands (Within most) W H p) where
  half-inside : (a h : Half) (r c : ℕ) → r < count h H → c < count a W → nat_abs (p (band_of a h) r c) ≤ most
  half-inside a h r c u v = inside (band_of a h) r c (rw (down-of a h) u) (rw (across-of a h) v)

  rows_words : (h : Half) (r c : ℕ) → r < count h H → c < W.length → rows_unlifted F wrap32 W p h r c ≡ rows_unlifted F whole W p h r c
  unfolding rows_unlifted
  rows_words h r c u v =
      line_same W wrap32 whole (λ a. p (band_of a h) r) most (2 * most + 1) (omega arith) (λ a n b. half-inside a h r n u b)
      (λ z g. (wrapped z (2 * most + 1) (omega (arith, most-small)) g, g))
      (λ z g. wrapped z (most + (2 * most + 1)) (omega (arith, most-small)) g) c v

  rows-within : (h : Half) (r c : ℕ) → r < count h H → c < W.length → nat_abs (rows_unlifted F whole W p h r c) ≤ 3 * most + 1
  unfolding rows_unlifted
  rows-within h r c u v = whole-within W (λ a. p (band_of a h) r) most (λ a n b. half-inside a h r n u b) c v

  pub level-words : (k : ℕ) → k ≤ 5 → Same W H (level_back_limited F wrap32 k W H p) (level_back_limited F whole k W H p)
  unfolding level_back_limited line_back
  level-words k few r c u v =
      ap (limited F k)
      (back-reads (λ z. limited F k (wrap32 z)) H (λ h i. rows_unlifted F wrap32 W p h i c) (λ h i. rows_unlifted F whole W p h i c)
      (λ h n b. rows_words h n c b v) r u
      ∙ line_same H (λ z. limited F k (wrap32 z)) (λ z. limited F k z) (λ h i. rows_unlifted F whole W p h i c) (3 * most + 1) (3 * most + 1) (omega arith)
      (λ h n b. rows-within h n c b v)
      (λ z g. (ap (limited F k) (wrapped z (2 * (3 * most + 1) + 1) (omega (arith, most-small)) g), omega (arith, limited-within k z few)))
      (λ z g. ap (limited F k) (wrapped z (3 * most + 1 + (3 * most + 1)) (omega (arith, most-small)) g)) r u)

-- ---- all levels
pub level-reads : (keep : ℤ → ℤ) (k : ℕ) (W H : Side) (p q : Band → Grid) → SameBands W H p q →
    Same W H (level_back_limited F keep k W H p) (level_back_limited F keep k W H q)
unfolding level_back_limited line_back
level-reads keep k W H p q same r c u v =
    ap (limited F k)
    (back-reads (λ z. limited F k (keep z)) H (λ h i. rows_unlifted F keep W p h i c) (λ h i. rows_unlifted F keep W q h i c)
    (λ h n b. rows-reads F five-three-laws keep W H p q same h n c b v) r u)

level-within : (keep : ℤ → ℤ) (k : ℕ) (W H : Side) (p : Band → Grid) → k ≤ 5 → OnCells (Within most) W H (level_back_limited F keep k W H p)
unfolding level_back_limited
level-within keep k W H p few r c u v = limited-within k _ few

pub map-within : (keep : ℤ → ℤ) (k L : ℕ) (W H : Side) (x : Grid) → k + L ≤ 5 → OnCells (Within most) W H x →
    OnCells (Within most) W H (map_back_limited F keep k L W H x)
unfolding map_back_limited
map-within keep k zero W H x few inside = inside
map-within keep k (suc L) W H x few inside = level-within keep k W H _ (omega arith)

pub map-words : (k L : ℕ) (W H : Side) (x : Grid) → k + L ≤ 5 → OnCells (Within most) W H x →
    Same W H (map_back_limited F wrap32 k L W H x) (map_back_limited F whole k L W H x)
unfolding map_back_limited
map-words k zero W H x few inside r c u v = refl
map-words k (suc L) W H x few inside r c u v =
    let A = map_back_limited F wrap32 (suc k) L (next W) (next H) x in
    let A' = map_back_limited F whole (suc k) L (next W) (next H) x in
    let first : Same (next W) (next H) A A' = map-words (suc k) L (next W) (next H) x (omega arith) (corner (Within most) W H x inside) in
    let low : OnCells (Within most) (next W) (next H) A = map-within wrap32 (suc k) L (next W) (next H) x (omega arith) (corner (Within most) W H x inside) in
    let bands = over-all (Within most) W H A (band_in W H x) low (in-bands (Within most) W H x inside) in
    ap (λ (q : Band → Grid). level_back_limited F wrap32 k W H q r c) (plane-bands W H A x)
    ∙ level-words W H (over A (band_in W H x)) bands k (omega arith) r c u v
    ∙ level-reads whole k W H (over A (band_in W H x)) (over A' (band_in W H x))
    (over-same W H A A' (band_in W H x) (band_in W H x) first (λ b r c u v. refl)) r c u v
    ∙ ap (λ (q : Band → Grid). level_back_limited F whole k W H q r c) (sym (plane-bands W H A' x))
