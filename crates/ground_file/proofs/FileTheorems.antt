-- The theorems of the format. Two files are equal exactly where shape, step and plane are: `file-told` and `same-file`. Assumes nothing.
use mathlib.Core.Path.{◌≡◌, refl, sym, ap, ap₂, ◌∙◌, subst}
use mathlib.Core.List.{List, [], ◌∷◌, ◌++◌, append_assoc}
use Prim.Native.Nat.{ℕ, zero, suc, ◌+◌, ◌*◌, ◌/◌, ◌%◌, ◌^◌, ◌≤◌, ◌<◌}
use native.Mathlib.Nat.{mul-le-mul_right, add-mul, one-mul, mod-lt, mod-add-div, mul_comm, lt_of_mul-lt-mul_left}
use native.Mathlib.Omega.{arith}
use lib.IntN.{ℤ, pos, ◌*ℤ◌}
use lib.Signed.{shr_z}
use lib.ListN.{take, drop, get_or}
use Rattle.lifting.specs.Grid.{Side}
use Rattle.wavelet.specs.declared.shape.Shape.{Shape}
use Rattle.wavelet.specs.Shape.{columns, rows}
use Rattle.wavelet.specs.Bands.{Band, LL, HL, LH, HH, code}
use Rattle.wavelet.specs.Order.{RowName, row_name, times}
use Rattle.wavelet.specs.View.{band_columns, band_start, Kept}
use Rattle.wavelet.proofs.PlaneLayout.{Stands, plane_row, plane_column, place_is, column-in, row_in}
use Rattle.wavelet.proofs.PlanePlaces.{Found, found, found-place}
use Rattle.ground_file.specs.Groups.{zigzag, bytes_of, row_bytes}
use Rattle.ground_file.specs.File.{header_of, stored, numbers_of, rows_bytes, wanted, body_of, as_number, prime, file_of, Fits}
use Rattle.ground_file.proofs.Digits.{bytes-told}
use Rattle.ground_file.proofs.FileLaws.{zigzag-told, listed_at, listed_below, listed_same, times-first, wanted-kept, kept-wanted, Small, rows_told}

-- ---- the header
pub record SameHeader (s s' : Shape) (q q' : ℕ) (t t' : List ℕ) : Type 0 where
  pub shape : s ≡ s'
  pub step : q ≡ q'
  pub after : t ≡ t'

shape_is : (s s' : Shape) → s.width ≡ s'.width → s.height ≡ s'.height → s.levels ≡ s'.levels → s.x ≡ s'.x → s.y ≡ s'.y → s.filter ≡ s'.filter
    → s ≡ s'
shape_is s s' w h l x y f = λ i. record { width = w i; height = h i; levels = l i; x = x i; y = y i; filter = f i }

header-told : (s s' : Shape) (q q' : ℕ) {p p' : ℕ → ℤ} {t t' : List ℕ} → Fits s q p → Fits s' q' p' → header_of s q ++ t ≡ header_of s' q' ++ t'
    → SameHeader s s' q q' t t'
unfolding header_of bytes_of
header-told s s' q q' a b e =
    record {
      shape =
          shape_is s s' (bytes-told 2 _ _ a.width b.width (ap (λ l. take 2 (drop 16 l)) e))
          (bytes-told 4 _ _ a.height b.height (ap (λ l. take 4 (drop 18 l)) e)) (ap (λ l. get_or l 10 0) e)
          (bytes-told 2 _ _ a.across b.across (ap (λ l. take 2 (drop 12 l)) e)) (bytes-told 2 _ _ a.down b.down (ap (λ l. take 2 (drop 14 l)) e))
          (ap (λ l. get_or l 9 0) e);
      step = ap (λ l. get_or l 11 0) e;
      after = ap (drop 24) e;
    }

-- ---- the places of a kept row lie in the plane
module _ {L : ℕ} {W H : Side} {k : ℕ} {b : Band} {r i : ℕ} (h : Kept W H L k b r) (l : i < band_columns W k b) where
  stands : Stands L W H k b r i
  stands = record { deep = h.deep; most = h.most; last = h.last; row = h.row; column = l }

  pub place-in : band_start W H k b r + i < W.length * H.length
  place-in =
      let c : plane_column W k b i < W.length = column-in L W H k b r i stands in
      let d : (plane_row H k b r + 1) * W.length ≤ H.length * W.length = mul-le-mul_right W.length (omega (arith, row_in L W H k b r i stands)) in
      omega (arith, c, d, place_is W H k b r i, add-mul (plane_row H k b r) 1 W.length, one-mul W.length, mul_comm W.length H.length)

-- ---- a file tells what it was made of
small-rows : (s : Shape) (q : ℕ) (p : ℕ → ℤ) → Fits s q p → (x : RowName) → 0 < times x (wanted s) → Small s q p x
unfolding numbers_of
small-rows s q p f x h = listed_below (2 ^ 28) _ _ (λ i l. f.small x.level x.band x.row i (wanted-kept s f.levels x h) l)

-- one number of a band row, of what is stored of it
value-told : (q : ℕ) (b : Band) (u v : ℤ) → (0 < code b → u ≡ pos q *ℤ shr_z u q) → (0 < code b → v ≡ pos q *ℤ shr_z v q) → stored q b u ≡ stored q b v → u ≡ v
unfolding stored code
value-told q LL u v m n e = e
value-told q HL u v m n e = m (omega arith) ∙ ap (λ w. pos q *ℤ w) e ∙ sym (n (omega arith))
value-told q LH u v m n e = m (omega arith) ∙ ap (λ w. pos q *ℤ w) e ∙ sym (n (omega arith))
value-told q HH u v m n e = m (omega arith) ∙ ap (λ w. pos q *ℤ w) e ∙ sym (n (omega arith))

module _ (s : Shape) (q : ℕ) (p p' : ℕ → ℤ) (f : Fits s q p) (g : Fits s q p') where
  number-told : (k : ℕ) (b : Band) (r i : ℕ) → Kept (columns s) (rows s) s.levels k b r → i < band_columns (columns s) k b
      → numbers_of s q p (row_name k b r) ≡ numbers_of s q p' (row_name k b r)
      → p (band_start (columns s) (rows s) k b r + i) ≡ p' (band_start (columns s) (rows s) k b r + i)
  unfolding numbers_of
  number-told k b r i h l e =
      value-told q b _ _ (f.multiple k b r i h l) (g.multiple k b r i h l)
      (zigzag-told _ _ (sym (listed_at _ _ i l) ∙ ap (λ m. get_or m i 0) e ∙ listed_at _ _ i l))

  plane-told : ((x : RowName) → 0 < times x (wanted s) → numbers_of s q p x ≡ numbers_of s q p' x) → (j : ℕ) → j < s.width * s.height → p j ≡ p' j
  plane-told e j h =
      let w : 0 < s.width = wide s.width refl h in
      let c : j % s.width < s.width = mod-lt j w in
      let d : j % s.width + s.width * (j / s.width) ≡ j = mod-add-div j s.width in
      let r : j / s.width < s.height = lt_of_mul-lt-mul_left s.width (omega arith) in
      let at = found s.levels (columns s) (rows s) (j / s.width) (j % s.width) f.levels r c in
      let kept = keeps at in
      let place : band_start (columns s) (rows s) at.level at.band at.row + at.column ≡ j =
      found-place s.levels (columns s) (rows s) (j / s.width) (j % s.width) at ∙ omega (arith, d, mul_comm s.width (j / s.width)) in
      subst (λ i. p i ≡ p' i) place
      (number-told at.level at.band at.row at.column kept at.stands.column
      (e (row_name at.level at.band at.row) (kept-wanted s f.levels at.level at.band at.row kept)))
    where
      wide : (w : ℕ) → s.width ≡ w → j < w * s.height → 0 < w
      wide zero z l = absurd (omega arith)
      wide (suc w) z l = omega arith

      keeps : {r c : ℕ} (at : Found s.levels (columns s) (rows s) r c) → Kept (columns s) (rows s) s.levels at.level at.band at.row
      keeps at =
          record {
            deep = at.stands.deep;
            most = at.stands.most;
            last = at.stands.last;
            columns = omega (arith, at.stands.column);
            row = at.stands.row;
          }

-- ---- files
-- equal files have equal shapes, steps and planes
pub record Told (s s' : Shape) (q q' : ℕ) (p p' : ℕ → ℤ) : Type 0 where
  pub shape : s ≡ s'
  pub step : q ≡ q'
  pub plane : (j : ℕ) → j < s.width * s.height → p j ≡ p' j

pub file-told : (s s' : Shape) (q q' : ℕ) (p p' : ℕ → ℤ) → Fits s q p → Fits s' q' p' → file_of s q p ≡ file_of s' q' p' → Told s s' q q' p p'
unfolding file_of body_of
file-told s s' q q' p p' f g e =
    let h = header-told s s' q q' f g (sym (append_assoc (header_of s q) _ _) ∙ e ∙ append_assoc (header_of s' q') _ _) in
    let g' : Fits s q p' = subst (λ k. Fits s k p') (sym h.step) (subst (λ v. Fits v q' p') (sym h.shape) g) in
    let last = bytes_of 4 (as_number 0 (body_of s' q' p') % prime) in
    let rest = h.after ∙ ap₂ (λ v k. rows_bytes v k p' (wanted v) ++ last) (sym h.shape) (sym h.step) in
    record {
      shape = h.shape;
      step = h.step;
      plane = plane-told s q p p' f g' (rows_told s q p p' (wanted s) (λ x z. (small-rows s q p f x z, small-rows s q p' g' x z)) rest).0;
    }

-- and a file is made of nothing else
rows_same : (s : Shape) (q : ℕ) (p p' : ℕ → ℤ) (l : List RowName) → ((x : RowName) → 0 < times x l → numbers_of s q p x ≡ numbers_of s q p' x)
    → rows_bytes s q p l ≡ rows_bytes s q p' l
unfolding rows_bytes times
rows_same s q p p' [] h = refl
rows_same s q p p' (y ∷ l) h = ap₂ (λ n r. row_bytes n ++ r) (h y (times-first y l)) (rows_same s q p p' l (λ x z. h x (omega arith)))

pub same-file : (s : Shape) (q : ℕ) (p p' : ℕ → ℤ) → 1 ≤ s.levels → ((j : ℕ) → j < s.width * s.height → p j ≡ p' j) → file_of s q p ≡ file_of s q p'
unfolding file_of body_of numbers_of
same-file s q p p' some e =
    ap (λ r. (header_of s q ++ r) ++ bytes_of 4 (as_number 0 (header_of s q ++ r) % prime))
    (rows_same s q p p' (wanted s)
    (λ x z. listed_same _ _ _ (λ i l. ap (λ v. zigzag (stored q x.band v)) (e _ (place-in (wanted-kept s some x z) l)))))
