-- A level's stretch of the store, lent and come back: as signals, from place a on. Assumes nothing.
use mathlib.Core.Path.{◌≡◌, refl, sym, ap, ap₂, ◌∙◌, fun_ext}
use mathlib.Core.List.{List}
use mathlib.Core.Bool.{Bool, true, false}
use Prim.Native.Nat.{ℕ, suc, ◌+◌, ◌-◌, ◌*◌, ◌≤◌, ◌<◌, ◌^◌}
use native.Mathlib.Decide.{dec_lt, ℕ_discrete}
use native.Mathlib.Omega.{arith}
use native.Mathlib.Numerals.{add-one}
use native.Mathlib.Nat.{mul-zero}
use lib.IntN.{ℤ, pos}
use lib.Dec.{eqb, leb}
use lib.ListN.{length, get_or-eq_default}
use borrow.Author.Tests.{lt-ltb, le-ltb, eq-eqb, ne_eqb, leb-true, le-leb}
use mir.Syntax.{w64}
use mir.Val.{Fits}
use borrow.Rule.Slice.PartMut.{mid_of, put_mid}
use Rattle.numbers.specs.Signal.{at, pick, spliced}
use Rattle.numbers.proofs.Sweep.{both as halves}
use Rattle.numbers.proofs.Parts.{length-mid}
use Rattle.numbers.proofs.Parts.{window-in, window-past, splice-below, splice-in, splice-past, at_mid, at-put}
use Rattle.lifting.specs.Line.{lo}
use Rattle.lifting.specs.Grid.{Side, side, count}
use Rattle.lifting.specs.Halves.{fronted}
use Rattle.wavelet.specs.Bands.{across, down}
use Rattle.wavelet.specs.Levels.{side_at}
use Rattle.wavelet.specs.Order.{last_set}
use Rattle.wavelet.proofs.SideLaws.{length-suc, size-le}
use Rattle.wavelet.specs.Limits.{max_levels}
use Rattle.areas.proofs.AreaLaws.{front_at, did}
use Rattle.level.specs.Tried.{Tried, passed, failed, outcome, onto}
use Rattle.level.specs.Stretch.{row_of_set, half_place}
use Rattle.level.proofs.RowsIn.{half-end}
use Rattle.filters.specs.Filters.{filter_of}
use Rattle.synthesis.specs.Back.{workable_of, row_place_of}
use Rattle.synthesis.proofs.BackLaws.{back-feed, place-room, workable-of}
use Rattle.filters.proofs.FigureLaws.{levels-most}
use Rattle.filters.specs.Figures.{store_by}
use Rattle.reader.specs.declared.walk.Level.{Level}
use Rattle.reader_steps.specs.Asked.{named}
use Rattle.reader_steps.specs.Places.{has_cells, has_set}
use Rattle.reader.specs.Admission.{work_by}
use Rattle.reader.specs.Store.{stretch_at, from, behind, fed_at, worked_at}
use Rattle.reader.specs.Inside.{IsLevel}
use Rattle.reader.proofs.StoreLaws.{stretch-suc, stretch-in, stretch-is, stretch-small}
use Rattle.reader_steps.proofs.CellLaws.{cells_are}

module _ (a : ℕ) (x y : ℕ → ℤ) (j : ℕ) where
  pub behind-below : j < a → behind a x y j ≡ x j
  unfolding behind
  behind-below h = simp (lt-ltb j a h)

  pub behind-past : a ≤ j → behind a x y j ≡ y (j - a)
  unfolding behind
  behind-past h = simp (le-ltb j a h)

pub from_at : (a : ℕ) (x : ℕ → ℤ) (j : ℕ) → from a x j ≡ x (a + j)
unfolding from
from_at a x j = refl

-- ---- a part that reaches to the end
past_end : (l : List ℤ) (j : ℕ) → length l ≤ j → at l j ≡ pos 0
past_end l j h = get_or-eq_default l (pos 0) h

module _ (a n : ℕ) (l : List ℤ) (whole : a + n ≡ length l) where
  pub at_rest : at (mid_of a n l) ≡ from a (at l)
  at_rest = at_mid a n l ∙ fun_ext λ j. elim (dec_lt j n) [
    | yes p ↦ window-in a n (at l) j p ∙ sym (from_at a (at l) j)
    | no q ↦ window-past a n (at l) j (omega arith) ∙ sym (from_at a (at l) j ∙ past_end l (a + j) (omega arith))
  ]

  pub at-put-rest : (ys : List ℤ) → length ys ≡ n → at (put_mid a n l ys) ≡ behind a (at l) (at ys)
  at-put-rest ys e = at-put a n l ys e (omega arith) ∙ fun_ext λ j. elim (dec_lt j a) [
    | yes p ↦ splice-below a n (at ys) (at l) j p ∙ sym (behind-below a (at l) (at ys) j p)
    | no q ↦ elim (dec_lt j (a + n)) [
      | yes r ↦ splice-in a n (at ys) (at l) j (omega arith) r ∙ sym (behind-past a (at l) (at ys) j (omega arith))
      | no r ↦ splice-past a n (at ys) (at l) j (omega arith) ∙ past_end l j (omega arith) ∙
          sym (behind-past a (at l) (at ys) j (omega arith) ∙ past_end ys (j - a) (omega arith))
    ]
  ]

-- ---- numbers copied into a part
copied : (a n : ℕ) (v z x : ℕ → ℤ) → spliced a n (fronted n v z) x ≡ spliced a n v x
copied a n v z x = fun_ext λ j. elim (dec_lt j a) [
  | yes p ↦ splice-below a n (fronted n v z) x j p ∙ sym (splice-below a n v x j p)
  | no q ↦ elim (dec_lt j (a + n)) [
    | yes r ↦ splice-in a n (fronted n v z) x j (omega arith) r ∙ front_at n v z (j - a) (omega arith) ∙ sym (splice-in a n v x j (omega arith) r)
    | no r ↦ splice-past a n (fronted n v z) x j (omega arith) ∙ sym (splice-past a n v x j (omega arith))
  ]
]

-- a splice within the rest of a store is a splice of the store
behind-splice : (a p n : ℕ) (v x : ℕ → ℤ) → spliced (a + p) n v x ≡ behind a x (spliced p n v (from a x))
behind-splice a p n v x = fun_ext λ j. elim (dec_lt j a) [
  | yes r ↦ splice-below (a + p) n v x j (omega arith) ∙ sym (behind-below a x _ j r)
  | no r ↦ inside j (omega arith) ∙ sym (behind-past a x _ j (omega arith))
]
  where
    inside : (j : ℕ) → a ≤ j → spliced (a + p) n v x j ≡ spliced p n v (from a x) (j - a)
    inside j h =
        let back : a + (j - a) ≡ j = omega arith in
        let here : from a x (j - a) ≡ x j = from_at a x (j - a) ∙ ap x back in
        elim (dec_lt j (a + p)) [
          | yes q ↦ splice-below (a + p) n v x j q ∙ sym (splice-below p n v (from a x) (j - a) (omega arith) ∙ here)
          | no q ↦ elim (dec_lt j (a + p + n)) [
            | yes s ↦
                let same : j - (a + p) ≡ j - a - p = omega arith in
                splice-in (a + p) n v x j (omega arith) s ∙ ap v same ∙ sym (splice-in p n v (from a x) (j - a) (omega arith) (omega arith))
            | no s ↦ splice-past (a + p) n v x j (omega arith) ∙ sym (splice-past p n v (from a x) (j - a) (omega arith) ∙ here)
          ]
        ]

-- ---- the sides of a level
pub level-wide : (f : ℕ) (W H : Side) (d k : ℕ) (l : Level) → IsLevel f W H d k l → side l.x l.width ≡ side_at k W
level-wide f W H d k l is = ap₂ side is.x is.width

pub level-high : (f : ℕ) (W H : Side) (d k : ℕ) (l : Level) → IsLevel f W H d k l → side l.y l.height ≡ side_at k H
level-high f W H d k l is = ap₂ side is.y is.height

-- ---- a band row put
put_is : (f : ℕ) (W H : Side) (d k c : ℕ) (l : Level) (a p m : ℕ) (v : List ℤ) (s ys : List ℤ) → IsLevel f W H d k l →
    p ≡ row_place_of f l.width (row_of_set (down (named c)) l.set) + half_place (across (named c)) (side l.x l.width) → a ≡ l.start + p → m ≡ length v →
    length v ≡ count (across (named c)) (side_at k W) → a + m ≤ length s → length ys ≡ m → at ys ≡ fronted (length v) (at v) (at (mid_of a m s)) →
    at (put_mid a m s ys) ≡ fed_at f W H k l.set c (at v) (at s)
unfolding fed_at
put_is f W H d k c l a p m v s ys is ep ea em en room long made =
    let n = count (across (named c)) (side_at k W) in
    let q = row_place_of f (side_at k W).length (row_of_set (down (named c)) l.set) + half_place (across (named c)) (side_at k W) in
    let place : a ≡ stretch_at f W k + q = cc (ea, ep, is.start, is.width, level-wide f W H d k l is) in
    let size : m ≡ n = em ∙ en in
    let z = at (mid_of a m s) in
    let step : at ys ≡ fronted n (at v) z = cc (made, en) in
    at-put a m s ys long room
    ∙ ap (λ (y : ℕ → ℤ). spliced a m y (at s)) step
    ∙ ap (λ (i : ℕ). spliced a i (fronted n (at v) z) (at s)) size
    ∙ copied a n (at v) z (at s)
    ∙ ap (λ (i : ℕ). spliced i n (at v) (at s)) place
    ∙ behind-splice (stretch_at f W k) q n (at v) (at s)
    ∙ ap (behind (stretch_at f W k) (at s)) (sym (back-feed f (side_at k W) (side_at k H).start (named c) l.set (at v) (from (stretch_at f W k) (at s))))

-- ---- a set worked out in its level's stretch
onto-outcome : (f : (ℕ → ℤ) → ℕ → ℤ) (ok : Bool) (y : ℕ → ℤ) → outcome ok (f y) ≡ onto f (outcome ok y)
unfolding onto
onto-outcome f true y = refl
onto-outcome f false y = refl

-- a set that the level does not have, and one that it has
pub work_none : (ad f base : ℕ) (W H : Side) (L d k : ℕ) (l : Level) (x : ℕ → ℤ) → IsLevel f W H d k l →
    has_set (side l.x l.width) (side l.y l.height) l.set ≡ false → passed x ≡ worked_at ad f base W H L k l.set x
unfolding worked_at
work_none ad f base W H L d k l x is e =
    let none : has_set (side_at k W) (side_at k H) l.set ≡ false =
    ap₂ (λ (A B : Side). has_set A B l.set) (sym (level-wide f W H d k l is)) (sym (level-high f W H d k l is)) ∙ e in
    sym (ap (λ (t : Bool). pick t (onto (behind (stretch_at f W k) x)
    (work_by ad f (eqb (suc k) L) (base + k) (side_at k W) (side_at k H) l.set (from (stretch_at f W k) x))) (passed x)) none)

set-parts : (W H : Side) (n : ℕ) → has_set W H n ≡ true → (0 < H.length) × (n ≤ last_set H)
unfolding has_set
set-parts W H n e =
    let a = halves (has_cells W H) _ e in
    ((cells_are W H a.0).1, leb-true n (last_set H) a.1)

work-is : (ad f base : ℕ) (W H : Side) (L d k : ℕ) (l : Level) (a n : ℕ) (s ys : List ℤ) (ok : Bool) → IsLevel f W H d k l →
    has_set (side l.x l.width) (side l.y l.height) l.set ≡ true → a ≡ l.start → a + n ≡ length s → length ys ≡ n →
    outcome ok (at ys) ≡ work_by ad f (eqb (k + 1) L) (base + k) (side l.x l.width) (side l.y l.height) l.set (at (mid_of a n s)) →
    outcome ok (at (put_mid a n s ys)) ≡ worked_at ad f base W H L k l.set (at s)
unfolding worked_at
work-is ad f base W H L d k l a n s ys ok is there ea whole long made =
    let place : a ≡ stretch_at f W k = ea ∙ is.start in
    let has : has_set (side_at k W) (side_at k H) l.set ≡ true =
    ap₂ (λ (A B : Side). has_set A B l.set) (sym (level-wide f W H d k l is)) (sym (level-high f W H d k l is)) ∙ there in
    let worked : Tried = onto (behind (stretch_at f W k) (at s)) (work_by ad f (eqb (suc k) L) (base + k) (side_at k W) (side_at k H) l.set
    (from (stretch_at f W k) (at s))) in
    ap (outcome ok) (at-put-rest a n s whole ys long)
    ∙ onto-outcome (behind a (at s)) ok (at ys)
    ∙ ap (onto (behind a (at s))) (made ∙ cc (level-wide f W H d k l is, level-high f W H d k l is, add-one k, at_rest a n s whole))
    ∙ ap (λ (i : ℕ). onto (behind i (at s)) (work_by ad f (eqb (suc k) L) (base + k) (side_at k W) (side_at k H) l.set (from i (at s)))) place
    ∙ sym (ap (λ (t : Bool). pick t worked (passed (at s))) has)

-- the stretch, and below the last level the next one's, lie within the store
pub stretch-room : (f : ℕ) (W : Side) (k L : ℕ) → k < L →
    stretch_at f W k + ((filter_of f).rows * (side_at k W).length + (filter_of f).rows * pick (eqb (k + 1) L) 0 (count lo (side_at k W))) ≤ stretch_at f W L
stretch-room f W k L h = elim (ℕ_discrete (k + 1) L) [
  | yes e ↦ rw (eq-eqb (k + 1) L e) (omega (arith, mul-zero (filter_of f).rows, stretch-suc f W k, stretch-in f W (suc k) L (omega arith)))
  | no d ↦ rw (ne_eqb (k + 1) L d, ← length-suc k W)
      (omega (arith, stretch-suc f W k, stretch-suc f W (suc k), stretch-in f W (suc (suc k)) L (omega arith)))
]

-- ---- the same of a level
module _ (f : ℕ) (W H : Side) (d k : ℕ) (l : Level) (is : IsLevel f W H d k l) where
  pub level_in : W.length ≤ 2 ^ 16 → H.length < 2 ^ 32 → (l.start ≤ 2 ^ 20 + 8 * k) × (l.width ≤ 2 ^ 16) × (l.height < 2 ^ 32) × (l.set ≤ 2 ^ 32)
  level_in wide high = (
    rw is.start (stretch-small f W k wide),
    omega (arith, is.width, size-le k W),
    omega (arith, is.height, size-le k H),
    is.set,
  )

  pub work-room : (L : ℕ) → k < L →
      l.start + ((filter_of f).rows * l.width + (filter_of f).rows * pick (eqb (k + 1) L) 0 (count lo (side l.x l.width))) ≤ store_by f W L
  work-room L h = rw (is.start, is.width, is.x, ← stretch-is f W L) (stretch-room f W k L h)

  put-room : (c p n : ℕ) → p ≡ row_place_of f l.width (row_of_set (down (named c)) l.set) + half_place (across (named c)) (side l.x l.width) →
      n ≡ count (across (named c)) (side_at k W) → l.start + p + n ≤ store_by f W (k + 1)
  put-room c p n ep en =
      let S = side l.x l.width in
      let r = row_of_set (down (named c)) l.set in
      let half = half-end (across (named c)) S in
      let columns : n ≡ count (across (named c)) S = en ∙ ap (count (across (named c))) (sym (level-wide f W H d k l is)) in
      rw (← stretch-is f W (k + 1), add-one k, stretch-suc f W k, ← is.width) (omega (arith, is.start, place-room f l.width r))

  -- ---- a band row put at its place p of its level's stretch, in a store of m numbers
  pub put-places : (c p n m : ℕ) → W.length ≤ 2 ^ 16 → k < max_levels →
      p ≡ row_place_of f l.width (row_of_set (down (named c)) l.set) + half_place (across (named c)) (side l.x l.width) →
      n ≡ count (across (named c)) (side_at k W) → store_by f W (k + 1) ≤ m →
      Fits w64 (l.start + p) × Fits w64 (l.start + p + n) × Fits w64 ((l.start + p) * 4) × (l.start + p ≤ l.start + p + n) × (l.start + p + n ≤ m)
  unfolding max_levels
  put-places c p n m wide deep ep en enough =
      let room = put-room c p n ep en in
      let all = stretch-is f W (k + 1) in
      let small = stretch-small f W (k + 1) wide in
      (omega arith, omega arith, omega arith, omega arith, omega arith)

  pub put-done : (c p : ℕ) (v s ys : List ℤ) → W.length ≤ 2 ^ 16 → k < max_levels →
      p ≡ row_place_of f l.width (row_of_set (down (named c)) l.set) + half_place (across (named c)) (side l.x l.width) →
      length v ≡ count (across (named c)) (side_at k W) → store_by f W (k + 1) ≤ length s →
      length ys ≡ length (mid_of (l.start + p) (l.start + p + length v - (l.start + p)) s) →
      at ys ≡ pick (leb (length v) (length (mid_of (l.start + p) (l.start + p + length v - (l.start + p)) s)))
      (fronted (length v) (at v) (at (mid_of (l.start + p) (l.start + p + length v - (l.start + p)) s)))
      (at (mid_of (l.start + p) (l.start + p + length v - (l.start + p)) s)) →
      at (put_mid (l.start + p) (l.start + p + length v - (l.start + p)) s ys) ≡ fed_at f W H k l.set c (at v) (at s)
  put-done c p v s ys wide deep ep en enough same made =
      let a = l.start + p in
      let m = a + length v - a in
      let size : m ≡ length v = omega arith in
      let room : a + m ≤ length s = omega (arith, (put-places c p (length v) (length s) wide deep ep en enough).4) in
      let long = length-mid a m s room in
      let enough = le-leb (length v) (length (mid_of a m s)) (omega arith) in
      put_is f W H d k c l a p m v s ys is ep refl size en room (same ∙ long) (did _ _ _ _ enough made)

-- ---- a set worked out in the rest of the store from its level's stretch on: the places, and what is left
module _ (ad f base : ℕ) (W H : Side) (L d k : ℕ) (l : Level) (s : List ℤ) (is : IsLevel f W H d k l) (small : (W.length ≤ 2 ^ 16) × (H.length < 2 ^ 32))
    (deep : base + L ≤ (filter_of f).levels) (in_map : k < L) (room : store_by f W L ≤ length s) where
  pub work-places : Fits w64 (l.start * 4) × (l.start ≤ length s) × Fits w64 (k + 1) × Fits w64 (base + k)
  unfolding max_levels
  work-places =
      let most = levels-most f in
      (omega (arith, (level_in f W H d k l is small.0 small.1).0), omega (arith, work-room f W H d k l is L in_map), omega arith, omega arith)

  pub work-done : (ys : List ℤ) (ok : Bool) → has_set (side l.x l.width) (side l.y l.height) l.set ≡ true →
      length ys ≡ length (mid_of l.start (length s - l.start) s) →
      outcome ok (at ys) ≡
      pick (workable_of f (eqb (k + 1) L) (base + k) (side l.x l.width) (side l.y l.height) l.set
      (length (mid_of l.start (length s - l.start) s)))
      (work_by ad f (eqb (k + 1) L) (base + k) (side l.x l.width) (side l.y l.height) l.set (at (mid_of l.start (length s - l.start) s)))
      failed →
      outcome ok (at (put_mid l.start (length s - l.start) s ys)) ≡ worked_at ad f base W H L k l.set (at s)
  work-done ys ok there same made =
      let has = set-parts (side l.x l.width) (side l.y l.height) l.set there in
      let own = work-room f W H d k l is L in_map in
      let n = length s - l.start in
      let whole : l.start + n ≡ length s = omega arith in
      let long = length-mid l.start n s (omega arith) in
      let here = level_in f W H d k l is small.0 small.1 in
      let can = workable-of f (eqb (k + 1) L) (base + k) (side l.x l.width) (side l.y l.height) l.set (length (mid_of l.start n s))
      (omega arith) here.1 (omega (arith, here.2)) has.0 has.1 (omega arith) in
      work-is ad f base W H L d k l l.start n s ys ok is there refl whole (same ∙ long) (did _ _ _ _ can made)
