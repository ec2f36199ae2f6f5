-- What the calls of `forward` ask, and what they come to in a level's stretch. Assumes nothing.
use mathlib.Core.Path.{◌≡◌, refl, sym, ap, ap₂, ◌∙◌, fun_ext}
use mathlib.Core.Bool.{Bool, true, false}
use mathlib.Core.List.{List}
use Prim.Native.Nat.{ℕ, zero, suc, ◌+◌, ◌-◌, ◌*◌, ◌/◌, ◌%◌, ◌≤◌, ◌<◌}
use native.Mathlib.Decide.{dec_lt, ℕ_discrete}
use native.Mathlib.Nat.{mul-add}
use native.Mathlib.Omega.{arith}
use lib.IntN.{ℤ}
use lib.ListN.{length}
use lib.Dec.{leb}
use borrow.Rule.Slice.PartMut.{mid_of, put_mid}
use borrow.Author.Tests.{le-leb, lt-leb, leb-true, leb-false, ne_eqb}
use Rattle.numbers.specs.Signal.{at, pick, windowed, spliced, stored}
use Rattle.numbers.proofs.Parts.{length-mid, at_mid, at-put, window-in, splice-below, splice-in, splice-past}
use Rattle.numbers.proofs.Stores.{stored_at, stored-off}
use Rattle.lifting.specs.Line.{lo, hi}
use Rattle.lifting.specs.Grid.{Side, side, count}
use Rattle.lifting.specs.GridHalves.{deinterleaved_into}
use Rattle.filters.specs.Filters.{filter_of}
use Rattle.wavelet.specs.Bands.{Band, LL, HL, LH, HH, across, down, code}
use Rattle.wavelet.specs.Levels.{next}
use Rattle.wavelet.specs.ViewCall.{named}
use Rattle.wavelet.proofs.ViewLaws.{named-at}
use Rattle.level.specs.Level.{Memory, rest}
use Rattle.level.specs.Cells.{spot}
use Rattle.level.specs.Stretch.{row_place, half_place}
use Rattle.level.specs.Heights as row
use Rattle.level.proofs.RestLaws.{join-splice}
use Rattle.level.proofs.DeinterleavedLaws.{deinterleaved-any}
use Rattle.level.proofs.Spots.{spot_in}
use Rattle.level.proofs.FillLaws.{heights-in}
use Rattle.analysis.specs.Columns.{columns_of}
use Rattle.analysis.specs.Sets.{waits_at, row_put, band_place}
use Rattle.analysis.specs.Forward.{kind_of, level_fits, next_fits, delivered, heights_put, heights_fit}

-- ---- what the calls ask: by division
quarter : (n w : ℕ) → leb w (n / 4) ≡ leb (4 * w) n
quarter n w =
    elim (dec_lt (n / 4) w) [
      | yes p ↦ simp (lt-leb w (n / 4) p, lt-leb (4 * w) n (omega arith))
      | no d ↦ simp (le-leb w (n / 4) (omega arith), le-leb (4 * w) n (omega arith))
    ]

eighth : (n w : ℕ) → leb w (n / 8) ≡ leb (8 * w) n
eighth n w =
    elim (dec_lt (n / 8) w) [
      | yes p ↦ simp (lt-leb w (n / 8) p, lt-leb (8 * w) n (omega arith))
      | no d ↦ simp (le-leb w (n / 8) (omega arith), le-leb (8 * w) n (omega arith))
    ]

pub level-first : (f n w x : ℕ) → f ≡ 0 → leb w (n / 4) ≡ level_fits f n (side x w)
unfolding level_fits filter_of
level-first zero n w x e = quarter n w
level-first (suc f) n w x e = absurd (omega arith)

pub level-second : (f n w x : ℕ) → (f ≡ 0 → ⊥) → leb w (n / 8) ≡ level_fits f n (side x w)
unfolding level_fits filter_of
level-second zero n w x d = absurd (d refl)
level-second (suc f) n w x d = eighth n w

module _ (f n : ℕ) (W : Side) where
  pub level_in : level_fits f n W ≡ true → (filter_of f).rows * W.length ≤ n
  unfolding level_fits
  level_in e = leb-true _ _ e

  pub next-in : next_fits f n W ≡ true → (filter_of f).rows * W.length + (filter_of f).rows * count lo W ≤ n
  unfolding next_fits next
  next-in e = leb-true _ _ e

  pub next-is : (v x : ℕ) → v ≡ count lo W → level_fits f n (side x (W.length + v)) ≡ next_fits f n W
  unfolding level_fits next_fits next
  next-is v x e = ap (λ (i : ℕ). leb i n) (mul-add (filter_of f).rows W.length v ∙ ap (λ (i : ℕ). (filter_of f).rows * W.length + (filter_of f).rows * i) e)

  pub next-none : level_fits f n W ≡ false → false ≡ next_fits f n W
  unfolding level_fits next_fits
  next-none e = sym (lt-leb _ n (omega (arith, leb-false ((filter_of f).rows * W.length) n e)))

-- ---- heights put into a row that is lent
splice-store : (a w p : ℕ) (v : ℤ) (y x : Memory) → p < w → spliced a w (stored p v y) x ≡ stored (a + p) v (spliced a w y x)
splice-store a w p v y x h =
    fun_ext λ j.
    elim (ℕ_discrete j (a + p)) [
      | yes e ↦ splice-in a w _ x j (omega arith) (omega arith) ∙ stored_at p (j - a) v y (omega arith) ∙ sym (stored_at (a + p) j v _ e)
      | no d ↦
          elim (dec_lt j a) [
            | yes l ↦ splice-below a w _ x j l ∙ sym (stored-off (a + p) j v _ d ∙ splice-below a w y x j l)
            | no l ↦
                elim (dec_lt j (a + w)) [
                  | yes k ↦
                      splice-in a w _ x j (omega arith) k ∙ stored-off p (j - a) v y (λ e. d (omega (arith, e)))
                      ∙ sym (stored-off (a + p) j v _ d ∙ splice-in a w y x j (omega arith) k)
                  | no k ↦ splice-past a w _ x j (omega arith) ∙ sym (stored-off (a + p) j v _ d ∙ splice-past a w y x j (omega arith))
                ]
          ]
    ]

splice-same : (a w : ℕ) (x : Memory) → spliced a w (windowed a w x) x ≡ x
splice-same a w x =
    fun_ext λ j.
    elim (dec_lt j a) [
      | yes l ↦ splice-below a w _ x j l
      | no l ↦
          elim (dec_lt j (a + w)) [
            | yes k ↦
                let e : a + (j - a) ≡ j = omega arith in
                splice-in a w _ x j (omega arith) k ∙ window-in a w x (j - a) (omega arith) ∙ ap x e
            | no k ↦ splice-past a w _ x j (omega arith)
          ]
    ]

row-put : (f : ℕ) (W : Side) (q c n : ℕ) (h x : Memory) → c + n ≤ W.length
    → spliced (row_place (filter_of f).rows W.length q) W.length
    (row.heights_put W c n h (windowed (row_place (filter_of f).rows W.length q) W.length x)) x ≡ heights_put f W q c n h x
unfolding heights_put row.heights_put
row-put f W q c zero h x l = splice-same _ W.length x
row-put f W q c (suc n) h x l =
    splice-store _ W.length (spot W (c + n)) (h n) _ x (spot_in W (c + n) (omega arith))
    ∙ ap (stored (row_place (filter_of f).rows W.length q + spot W (c + n)) (h n)) (row-put f W q c n h x (omega arith))

module _ (f : ℕ) (W : Side) (q c n i l : ℕ) (h : Memory) (a k : ℕ) (m z : List ℤ) (ok : level_fits f (length m) W ≡ true)
    (ea : a ≡ row_place (filter_of f).rows W.length q) (ek : k ≡ W.length) (room : a + W.length ≤ length m) where
  mid-long : length (mid_of a k m) ≡ W.length
  mid-long = length-mid a k m (omega arith) ∙ ek

  same_test : row.heights_fit (length (mid_of a k m)) c n l i ≡ heights_fit f (length m) W c n l i
  unfolding row.heights_fit heights_fit
  same_test = rw (mid-long, ok) refl

  pub put-answer : (r : ℕ) → r ≡ pick (row.heights_fit (length (mid_of a k m)) c n l i) 0 5 → r ≡ pick (heights_fit f (length m) W c n l i) 0 5
  put-answer r e = e ∙ ap (λ (t : Bool). pick t 0 5) same_test

  laid : (t : Bool) → row.heights_fit W.length c n l i ≡ t
      → spliced (row_place (filter_of f).rows W.length q) W.length (pick t
      (row.heights_put W c n h (windowed (row_place (filter_of f).rows W.length q) W.length (at m)))
      (windowed (row_place (filter_of f).rows W.length q) W.length (at m))) (at m) ≡ pick t (heights_put f W q c n h (at m)) (at m)
  laid true e = row-put f W q c n h (at m) (heights-in W.length c n l i e).columns
  laid false e = splice-same _ W.length (at m)

  pub put-area : length z ≡ k → at z ≡ pick (row.heights_fit (length (mid_of a k m)) c n l i)
      (row.heights_put (side W.start (length (mid_of a k m))) c n h (at (mid_of a k m))) (at (mid_of a k m))
      → at (put_mid a k m z) ≡ pick (heights_fit f (length m) W c n l i) (heights_put f W q c n h (at m)) (at m)
  put-area s e =
      let t = row.heights_fit W.length c n l i in
      let test : t ≡ heights_fit f (length m) W c n l i = ap (λ (j : ℕ). row.heights_fit j c n l i) (sym mid-long) ∙ same_test in
      let y : at z ≡ pick t (row.heights_put W c n h (windowed a k (at m))) (windowed a k (at m)) = rw (mid-long, at_mid a k m) at e in
      at-put a k m z s (omega arith)
      ∙ rw (y, ea, ek) (laid t refl)
      ∙ ap (λ (b : Bool). pick b (heights_put f W q c n h (at m)) (at m)) test

pub put-none : (f k : ℕ) (W : Side) (c n l i : ℕ) → level_fits f k W ≡ false → heights_fit f k W c n l i ≡ false
unfolding heights_fit
put-none f k W c n l i e = simp e

-- ---- the LL row that goes to the next level, written straight into its place
pub delivered-as : (f : ℕ) (W : Side) (n q a b start v : ℕ) (x y : Memory) → a ≡ row_place (filter_of f).rows W.length (waits_at (filter_of f).ahead lo n)
    → v ≡ count lo W → b ≡ (filter_of f).rows * W.length + row_place (filter_of f).rows v q → start ≡ (next W).start
    → y ≡ spliced b v (deinterleaved_into (side start v) (λ i. x (a + i)) x) x → y ≡ delivered f W n q x
unfolding delivered row_put band_place next half_place across down
delivered-as f W n q a b start v x y ea ev eb es e =
    let z : row_place (filter_of f).rows W.length (waits_at (filter_of f).ahead lo n) + 0 ≡ a = omega (arith, ea) in
    e
    ∙ deinterleaved-any a b start v x x (rest ((filter_of f).rows * W.length) x)
    ∙ rw (z, eb, es, ev) (sym (join-splice ((filter_of f).rows * W.length) (row_place (filter_of f).rows (count lo W) q) (count lo W) _ x))

-- ---- where a band's row of set n waits, the band told by its code; s is its slot
module _ (f : ℕ) (W : Side) (n c s : ℕ) where
  place_at : (b : Band) (r : ℕ) → c ≡ code b → r ≡ band_place (columns_of f) W n b → r ≡ named c ((kind_of f).place W 0 n) 0
  place_at b r e d = d ∙ sym (ap (λ (i : ℕ). named i (band_place (columns_of f) W n) 0) e ∙ named-at b (band_place (columns_of f) W n) 0)

  module _ (es : s ≡ waits_at (filter_of f).ahead lo n % (filter_of f).rows) where
    pub place-low : c ≡ 0 → s * W.length ≡ named c ((kind_of f).place W 0 n) 0
    unfolding band_place row_place half_place code across down
    place-low e = place_at LL _ e (rw es (omega arith))

    pub place-right : (v : ℕ) → c ≡ 1 → v ≡ count lo W → s * W.length + v ≡ named c ((kind_of f).place W 0 n) 0
    unfolding band_place row_place half_place code across down
    place-right v e d = place_at HL _ e (ap₂ (λ (t u : ℕ). t * W.length + u) es d)

  module _ (es : s ≡ waits_at (filter_of f).ahead hi n % (filter_of f).rows) where
    pub place-high : c ≡ 2 → s * W.length ≡ named c ((kind_of f).place W 0 n) 0
    unfolding band_place row_place half_place code across down
    place-high e = place_at LH _ e (rw es (omega arith))

    pub place-last : (v : ℕ) → c ≡ 3 → v ≡ count lo W → s * W.length + v ≡ named c ((kind_of f).place W 0 n) 0
    unfolding band_place row_place half_place code across down
    place-last v e d = place_at HH _ e (ap₂ (λ (t u : ℕ). t * W.length + u) es d)

  pub place_none : (c ≡ 0 → ⊥) → (c ≡ 1 → ⊥) → (c ≡ 2 → ⊥) → (c ≡ 3 → ⊥) → 0 ≡ named c ((kind_of f).place W 0 n) 0
  unfolding code
  place_none n0 n1 n2 n3 = simp (ne_eqb c 0 n0, ne_eqb c 1 n1, ne_eqb c 2 n2, ne_eqb c 3 n3)
