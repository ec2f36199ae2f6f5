-- What the calls of the tolerant level come to, over plain variables. Assumes nothing.
use mathlib.Core.Path.{◌≡◌, refl, sym, ap, ap₂, ◌∙◌, fun_ext}
use mathlib.Core.Bool.{Bool, true, false}
use mathlib.Core.List.{List}
use Prim.Native.Nat.{ℕ, zero, suc, ◌+◌, ◌-◌, ◌*◌, ◌≤◌, ◌<◌}
use native.Mathlib.Decide.{dec_lt}
use native.Mathlib.Omega.{arith}
use lib.IntN.{ℤ, pos, neg_ℤ, ◌-ℤ◌}
use lib.Dec.{ltb, leb}
use lib.ListN.{length}
use borrow.Author.Tests.{lt-ltb, le-ltb, le-leb, lt-leb}
use borrow.Rule.Slice.PartMut.{mid_of, put_mid}
use Rattle.numbers.specs.Signal.{at, pick, windowed, spliced}
use Rattle.numbers.specs.Tests.{every}
use Rattle.numbers.proofs.Integers.{each, lin}
use Rattle.numbers.proofs.Parts.{length-mid, at_mid, at-put, splice-in, splice-below, splice-past}
use Rattle.lifting.specs.Line.{lo}
use Rattle.lifting.specs.Grid.{Side, side, single_high}
use Rattle.lifting.specs.Halves.{fronted}
use Rattle.areas.proofs.AreaLaws.{front_at}
use Rattle.lifting.specs.FiveThree.{five_three_filter}
use Rattle.lifting.proofs.FiveThreeFilter.{five-three-laws}
use Rattle.wavelet.specs.Limits.{range}
use Rattle.wavelet.proofs.Bridge.{range-zero}
use Rattle.wavelet.specs.Order.{first_set}
use Rattle.tolerance.specs.Limits.{clamped, limited}
use Rattle.filters.specs.Filters.{filter_of}
use Rattle.level.specs.Tried.{Tried, passed, bind, outcome}
use Rattle.level.specs.Stretch as stretch
use Rattle.level.specs.Stretch.{row_place, row_in, end_of, has_low}
use Rattle.level.specs.Rebuilding.{lowest_by, Kept}
use Rattle.level.proofs.KeptLaws.{kept-none, kept-both}
use Rattle.synthesis.specs.Columns.{Columns}
use Rattle.synthesis.specs.Work.{own_even, pair_of, admitted, even_done, pair_made, first_made, pair_before, pairs_made, last_made, rest_made}
use Rattle.synthesis.specs.Work.{most_made, rows_made}
use Rattle.synthesis.proofs.KeptLaws.{even-kept, odd-kept}
use Rattle.synthesis.proofs.TolerantColumns.{tolerant-columns}
use Rattle.synthesis.specs.Tolerant.{row_limited, even_limited, odd_limited, pair_limited, last_limited, tolerant_columns}

abbrev C : Columns
C = tolerant_columns

-- ---- the two bounds are the level's range
negative : (z : ℤ) → pos 0 -ℤ z ≡ neg_ℤ z
negative = each _ λ p q. simp lin (omega arith)

pub limit_is : (k : ℕ) (v : ℤ) → clamped (lowest_by (filter_of 0) k) (pos (range (filter_of 0) k)) v ≡ limited (filter_of 0) k v
unfolding lowest_by limited filter_of
limit_is zero v = ap (λ (n : ℕ). clamped (pos 0) (pos n) v) (range-zero five_three_filter five-three-laws)
limit_is (suc k) v = ap (λ (a : ℤ). clamped a (pos (range (filter_of 0) (suc k))) v) (negative (pos (range (filter_of 0) (suc k))))

-- ---- every row is admitted
all_true : (n : ℕ) → every n (λ _. true) ≡ true
unfolding every
all_true zero = refl
all_true (suc n) = rw (all_true n)

admits : (k w q : ℕ) (x : ℕ → ℤ) → admitted C k w q x ≡ passed x
unfolding stretch.admitted stretch.row_fits
admits k w q x = rw (all_true w)

seq : (t : Tried) (f : (ℕ → ℤ) → Tried) (y : ℕ → ℤ) → t ≡ passed y → bind t f ≡ f y
unfolding bind
seq t f y e = rw e

-- ---- the rows of a set, from row 0 on
module _ (k w h n : ℕ) (there : 2 * n < h) where
  abbrev H : Side
  H = side 0 h

  pub even-made : (x : ℕ → ℤ) → even_done C k w H n x ≡ even_limited k w H (2 * n) x
  unfolding even_done has_low first_set
  even-made x = rw (le-leb 0 n (omega arith))

  first-made : (x : ℕ → ℤ) → first_made C k w H n x ≡ passed x
  unfolding first_made
  first-made x = go (own_even H n)
    where
      go : (t : Bool) → pick t (admitted C k w (2 * n) x) (passed x) ≡ passed x
      go true = admits k w (2 * n) x
      go false = refl

  pair-made : (i : ℕ) (x : ℕ → ℤ) → pair_made C k w H i x ≡ passed (odd_limited k w H (2 * i + 1) x)
  unfolding pair_made bind
  pair-made i x = rw (admits k w (2 * i + 1) (odd_limited k w H (2 * i + 1) x)) (admits k w (2 * i + 2) (odd_limited k w H (2 * i + 1) x))

  before-made : (x : ℕ → ℤ) → pair_before C 1 k w H n x ≡ passed (pair_limited k w H n x)
  unfolding pair_before pair_limited pair_of
  before-made x = go (ltb n 1)
    where
      go : (t : Bool) → pick t (passed x) (pair_made C k w H (n - 1) x) ≡ passed (pick t x (odd_limited k w H (2 * (n - 1) + 1) x))
      go true = refl
      go false = pair-made (n - 1) x

  last-made : (x : ℕ → ℤ) → rest_made C k w H n x ≡ passed (last_limited k w H n x)
  unfolding rest_made last_made last_limited pairs_made bind single_high filter_of
  last-made x = go (leb (end_of H) (2 * n + 2)) (ltb (2 * n + 1) (end_of H))
    where
      go : (s t : Bool) → pick s (pick t (admitted C k w (2 * n + 1) (odd_limited k w H (2 * n + 1) x)) (passed x)) (passed x)
          ≡ passed (pick s (pick t (odd_limited k w H (2 * n + 1) x) x) x)
      go true true = admits k w (2 * n + 1) (odd_limited k w H (2 * n + 1) x)
      go true false = refl
      go false t = refl

  step : (z : ℕ → ℤ) → rows_made C k w H n z ≡ passed (last_limited k w H n (pair_limited k w H n z))
  unfolding rows_made most_made filter_of
  step z =
      seq _ _ (pair_limited k w H n z) (seq _ _ z (first-made z) ∙ before-made z)
      ∙ last-made (pair_limited k w H n z)

  pub rows-made : (x : ℕ → ℤ) → rows_made C k w H n (even_done C k w H n x) ≡ passed (last_limited k w H n (pair_limited k w H n (even_limited k w H (2 * n) x)))
  rows-made x = ap (rows_made C k w H n) (even-made x) ∙ step (even_limited k w H (2 * n) x)

-- ---- what is written stays within the rows kept
rest-kept : (w : ℕ) (t : Bool) (x y : ℕ → ℤ) → Kept ((filter_of 0).rows * w) x y → Kept ((filter_of 0).rows * w) x (pick t y x)
rest-kept w true x y h = h
rest-kept w false x y h = kept-none ((filter_of 0).rows * w) x

pub all-kept : (k w : ℕ) (H : Side) (n : ℕ) (x : ℕ → ℤ) →
    Kept ((filter_of 0).rows * w) x (last_limited k w H n (pair_limited k w H n (even_limited k w H (2 * n) x)))
unfolding last_limited pair_limited
all-kept k w H n x =
    let y = even_limited k w H (2 * n) x in
    let z = pair_limited k w H n y in
    kept-both _ _ _ _ (even-kept C tolerant-columns k w H (2 * n) x)
    (kept-both _ _ _ _ (other (ltb n 1) y _ (odd-kept C tolerant-columns k w H (2 * (n - 1) + 1) y))
    (rest-kept w (leb (end_of H) (2 * n + 2)) z _ (rest-kept w (ltb (2 * n + 1) (end_of H)) z _ (odd-kept C tolerant-columns k w H (2 * n + 1) z))))
  where
    other : (t : Bool) (x y : ℕ → ℤ) → Kept ((filter_of 0).rows * w) x y → Kept ((filter_of 0).rows * w) x (pick t x y)
    other true x y h = kept-none ((filter_of 0).rows * w) x
    other false x y h = h

-- ---- a row in the part that is lent
splice-same : (p n : ℕ) (y f x : ℕ → ℤ) → ((i : ℕ) → i < n → y i ≡ f i) → spliced p n y x ≡ spliced p n f x
splice-same p n y f x e = fun_ext λ j. elim (dec_lt j p) [
  | yes b ↦ splice-below p n y x j b ∙ sym (splice-below p n f x j b)
  | no b ↦ elim (dec_lt j (p + n)) [
    | yes c ↦ splice-in p n y x j (omega arith) c ∙ e (j - p) (omega arith) ∙ sym (splice-in p n f x j (omega arith) c)
    | no c ↦ splice-past p n y x j (omega arith) ∙ sym (splice-past p n f x j (omega arith))
  ]
]

pub limit-part : (k w q a n : ℕ) (l ys : List ℤ) (u v : ℤ) → a ≡ row_place (filter_of 0).rows w q → n ≡ w → a + n ≤ length l → length ys ≡ n →
    u ≡ lowest_by (filter_of 0) k → v ≡ pos (range (filter_of 0) k) →
    at ys ≡ fronted (length (mid_of a n l)) (λ i. clamped u v (at (mid_of a n l) i)) (at (mid_of a n l)) → at (put_mid a n l ys) ≡ row_limited k w q (at l)
unfolding row_limited row_in filter_of
limit-part k w q a n l ys u v ea en room long eu ev ey =
    at-put a n l ys long room
    ∙ splice-same a n (at ys) (λ i. limited (filter_of 0) k (windowed a n (at l) i)) (at l)
    (λ i h.
    ap (λ (f : ℕ → ℤ). f i) ey
    ∙ front_at (length (mid_of a n l)) _ _ i (omega (arith, length-mid a n l room))
    ∙ (λ t. clamped (eu t) (ev t) (at_mid a n l t i))
    ∙ limit_is k (windowed a n (at l) i))
    ∙ ap₂ (λ (p m : ℕ). spliced p m (λ i. limited (filter_of 0) k (windowed p m (at l) i)) (at l)) ea en

-- ---- the odd rows that there are
module _ (k w h n : ℕ) (x : ℕ → ℤ) where
  pub pair-none : n ≡ 0 → x ≡ pair_limited k w (side 0 h) n x
  unfolding pair_limited
  pair-none e = rw (lt-ltb n 1 (omega arith))

  pub pair-some : (y : ℕ → ℤ) → (n ≡ 0 → ⊥) → y ≡ odd_limited k w (side 0 h) (2 * n - 1) x → y ≡ pair_limited k w (side 0 h) n x
  unfolding pair_limited
  pair-some y d e =
      let q : 2 * n - 1 ≡ 2 * (n - 1) + 1 = omega arith in
      e ∙ ap (λ (i : ℕ). odd_limited k w (side 0 h) i x) q ∙ sym (rw (le-ltb n 1 (omega arith)))

  pub last_none : 2 * n < h → (h ≡ 2 * n + 2 → ⊥) → x ≡ last_limited k w (side 0 h) n x
  unfolding last_limited end_of
  last_none l d = elim (dec_lt (2 * n + 2) h) [
    | yes b ↦ rw (lt-leb (end_of (side 0 h)) (2 * n + 2) (omega arith))
    | no b ↦ simp (le-leb (end_of (side 0 h)) (2 * n + 2) (omega arith), le-ltb (2 * n + 1) (end_of (side 0 h)) (omega arith))
  ]

  pub last_some : (y : ℕ → ℤ) → h ≡ 2 * n + 2 → y ≡ odd_limited k w (side 0 h) (2 * n + 1) x → y ≡ last_limited k w (side 0 h) n x
  unfolding last_limited end_of
  last_some y e d = d ∙ sym (simp (le-leb (end_of (side 0 h)) (2 * n + 2) (omega arith), lt-ltb (2 * n + 1) (end_of (side 0 h)) (omega arith)))
