-- One level back and the levels left: what a call of the levels comes to, from what its own calls give. Assumes nothing.
use mathlib.Core.Path.{◌≡◌, refl, sym, ap, ◌∙◌}
use mathlib.Core.Bool.{Bool, true, false}
use Prim.Native.Nat.{ℕ, zero, suc, ◌+◌, ◌-◌, ◌*◌, ◌%◌, ◌^◌, ◌≤◌, ◌<◌, min}
use native.Mathlib.Nat.{pow-suc, mul-le-mul_left, one-le-pow}
use native.Mathlib.Decide.{dec_lt}
use native.Mathlib.Omega.{arith}
use lib.IntN.{ℤ, pos, neg_ℤ, ◌-ℤ◌}
use mir.Syntax.{w32}
use mir.Val.{SFits}
use Rattle.numbers.specs.Signal.{pick, windowed, spliced}
use Rattle.numbers.specs.Word.{wrap32}
use Rattle.numbers.proofs.Integers.{each, lin}
use Rattle.numbers.proofs.Parts.{window-in, splice-in, splice-past}
use Rattle.lifting.specs.Line.{lo}
use Rattle.lifting.specs.Grid.{Side, side, place, count}
use Rattle.lifting.proofs.GridLaws.{counts}
use Rattle.lifting.specs.Filter.{Filter}
use Rattle.lifting.proofs.FilterLaws.{FilterLaws}
use Rattle.wavelet.specs.Limits.{max_levels, range}
use Rattle.wavelet.specs.Bands.{Grid, level_has}
use Rattle.wavelet.specs.Plane.{cells, flat, plane_bands, map_back}
use Rattle.wavelet.specs.Maps.{every_cell, value_fits, rebuilt_fits}
use Rattle.wavelet.proofs.GridLaws.{flat-at}
use Rattle.wavelet.specs.Levels.{next}
use Rattle.map_levels.specs.Rowwise.{interleaved_in_place}
use Rattle.map_levels.specs.Passes.{Rows, KeptFrom, rows_mapped}
use Rattle.map_levels.specs.LevelPasses.{level_grid, Rebuilt, has_next, rows_between, region_in_range, Doubling, LevelMadeBy, LevelsBack}
use Rattle.map_levels.proofs.CellLaws.{mapped_out, kept-flat, kept_then, next-end, next-rows, fewer-rows, fewer-columns}
use Rattle.map_levels.proofs.GridSweep.{row_room}
use Rattle.map_levels.proofs.LevelsMath.{bands_back, bands-fetched, level-rebuilt, interleaved-in}
use Rattle.map_levels.proofs.TestLaws.{false-true, both-both, goes-no, rebuilt-test, fits_more, fits-none, rows-even, columns-even}
use Rattle.map_levels.proofs.TestLaws.{region-more, region-last}

-- ---- sizes
pub stride-small : (L s w : ℕ) → Doubling L s w → 2 * s < 2 ^ 32
stride-small zero s w d = absurd (omega (arith, d.some))
stride-small (suc L) s w d =
    let e = d.small in
    let p : 2 ^ suc L ≡ 2 ^ L * 2 = pow-suc 2 L in
    let a : s * 2 ≤ s * (2 ^ L * 2) = mul-le-mul_left s (omega (arith, one-le-pow L 2 (omega arith))) in
    omega (arith, rw p at e)

pub doubled : (L s : ℕ) (W : Side) (w' : ℕ) → Doubling L s W.length → 2 ≤ L → w' ≡ count lo W → Doubling (L - 1) (2 * s) w'
doubled zero s W w' d b e = absurd (omega arith)
doubled (suc L) s W w' d b e =
    let k : suc L - 1 ≡ L = omega arith in
    let f = d.small in
    let p : 2 ^ suc L ≡ 2 ^ L * 2 = pow-suc 2 L in
    let q : 2 * s * 2 ^ L ≡ s * (2 ^ L * 2) = omega arith in
    let l = counts W in
    rw k (record { some = omega arith; small = omega (arith, rw p at f); narrow = omega (arith, d.narrow) })

pub lows-few : (S : Side) → count lo S + count lo S ≤ S.length + 1
unfolding count
lows-few S = omega arith

-- the side of the next level, from its start and its length
pub next-side : (S : Side) (u w : ℕ) → ((n : ℕ) → u ≡ (next (side S.start n)).start) → w ≡ count lo S → side u w ≡ next S
unfolding next
next-side S u w e f = let g = e 0 in rw (g, f)

abbrev length-of : Side → ℕ
length-of S = S.length

-- rows of the next level, in the part of the area that begins at the first of them, and in the plane, whose lengths the calls keep
module _ (n n' s : ℕ) (W H : Side) (w' h' : ℕ) (ew : w' ≡ count lo W) (eh : h' ≡ count lo H) (some : 0 < h') (R : Rows n s W.length H.length) where
  pub rows_next : n' ≡ n - H.start % 2 * s → Rows n' (2 * s) w' h'
  rows_next size = rw (size, ew, eh) (next-rows s W H (omega arith) n R)

  pub rows-corner : n' ≡ n → Rows n' s w' h'
  rows-corner size =
      let lw = counts W in
      let lh = counts H in
      rw (size, ew, eh) (fewer-columns n s W.length (count lo H) (count lo W) (fewer-rows n s W.length H.length (count lo H) R (omega arith)
      (omega arith)) (omega arith))

-- that part lies in the area
pub part_room : (n s : ℕ) (W H : Side) → 0 < count lo H → Rows n s W.length H.length → H.start % 2 * s ≤ n
part_room n s W H some R = omega (arith, next-end s W H some, R.room)

pub mid-fits : (a n : ℕ) → a ≤ n → a + (n - a) ≤ n
mid-fits a n b = omega arith

module _ (F : Filter) (laws : FilterLaws F) where
  -- ---- back: one level, its low-low part being rebuilt before column `from`, and in the plane from there on; y₀ is the work area before its rows are fetched
  back_none : (L : ℕ) (W H : Side) (x : Grid) (r c : ℕ) → L ≡ 0 → x r c ≡ map_back F wrap32 L W H x r c
  unfolding map_back
  back_none L W H x r c z = rw z refl

  module _ (s A L from : ℕ) (W H : Side) (ok : Bool) (z y₀ y : ℕ → ℤ) (ws : W.length ≤ s) (some : 0 < L) (few : from ≤ count lo W)
      (left : (i n : ℕ) → i < count lo H → n < from → cells s y₀ (place H lo i) n ≡ map_back F wrap32 (L - 1) (next W) (next H) (cells A z) i n)
      (new : (i n : ℕ) → i < count lo H → n < count lo W → from ≤ n → cells A z i n ≡ map_back F wrap32 (L - 1) (next W) (next H) (cells A z) i n)
      (m : LevelMadeBy F ok from s W H (cells A z) y₀ y) where
    level-answer : ok ≡ level_has F W H (bands_back F (L - 1) W H (cells A z))
    unfolding level_has
    level-answer =
        m.answer
        ∙ sym (cc (
          rows-even F laws W H (map_back F wrap32 (L - 1) (next W) (next H) (cells A z)) (cells A z),
          columns-even F laws W H (bands_back F (L - 1) W H (cells A z)) _ (bands-fetched F laws from W H (cells A z) (cells s y₀) few (L - 1) left new),
        ))

    level-grid : ok ≡ true → Rebuilt F L W H (cells A z) (cells s y)
    level-grid t =
        let k : suc (L - 1) ≡ L = omega arith in
        let g = level-rebuilt F laws from W H (cells A z) (cells s y₀) few (L - 1) left new s y ws (m.rows t) in
        rw k at g

  -- no more levels follow
  pub back_end : (s A k L : ℕ) (W H : Side) (ok : Bool) (z y₀ y : ℕ → ℤ) → W.length ≤ s → 0 < L → has_next L (count lo W) (count lo H) ≡ false →
      LevelMadeBy F ok 0 s W H (cells A z) y₀ y → LevelsBack F ok k L s A W H z y₀ y
  back_end s A k L W H ok z y₀ y ws some e m =
      let x = cells A z in
      let left : (i n : ℕ) → i < count lo H → n < 0 → cells s y₀ (place H lo i) n ≡ map_back F wrap32 (L - 1) (next W) (next H) x i n = λ i n ib nb.
      absurd (omega arith) in
      let new : (i n : ℕ) → i < count lo H → n < count lo W → 0 ≤ n → x i n ≡ map_back F wrap32 (L - 1) (next W) (next H) x i n = λ i n ib nb b.
      let f = goes-no L (count lo W) (count lo H) e (omega arith) (omega arith) in
      back_none (L - 1) (next W) (next H) x i n (omega arith) in
      let f = fits-none F laws (k + 1) L W H x some e in
      record {
        answer = rw f (level-answer s A L 0 W H ok z y₀ y ws some (omega arith) left new m);
        grid = level-grid s A L 0 W H ok z y₀ y ws some (omega arith) left new m;
        kept = m.kept;
      }

  -- a part of an area that keeps what is past its own end
  part-kept : (a m e f : ℕ) (p x y : ℕ → ℤ) → y ≡ spliced a m p x → KeptFrom e (windowed a m x) p → a + e ≤ f → KeptFrom f x y
  part-kept a m e f p x y is k b =
      record {
        kept = λ j g.
            ap (λ (u : ℕ → ℤ). u j) is
            ∙ elim (dec_lt j (a + m)) [
              | yes q ↦
                  let i : a + (j - a) ≡ j = omega arith in
                  splice-in a m p x j (omega arith) q ∙ k.kept (j - a) (omega arith) ∙ window-in a m x (j - a) (omega arith) ∙ ap x i
              | no q ↦ splice-past a m p x j (omega arith)
            ];
      }

  -- the low-low part, in the part p₀ of m numbers at place a of the work area y₀ where its rows begin: p₁ is that part as its levels left it, `done` their
  -- answer, y₁ the work area then
  module _ (n s A k L a m : ℕ) (W H W' H' : Side) (done : Bool) (z y₀ p₀ p₁ y₁ : ℕ → ℤ) (R : Rows n s W.length H.length) (b : 2 ≤ L)
      (ch : 0 < count lo H) (ew : W' ≡ next W) (eh : H' ≡ next H) (ea : a ≡ H.start % 2 * s) (em : m ≡ n - a) (e₀ : p₀ ≡ windowed a m y₀)
      (l' : LevelsBack F done (k + 1) (L - 1) (2 * s) A W' H' z p₀ p₁) (e₁ : y₁ ≡ spliced a m p₁ y₀) where
    abbrev x : Grid
    x = cells A z

    abbrev low_back : Type 0
    low_back = LevelsBack F done (k + 1) (L - 1) (2 * s) A (next W) (next H) z (windowed a m y₀) p₁

    low-back : low_back
    low-back = rw (ew, eh, e₀) at l'

    abbrev low_fits : Bool
    low_fits = rebuilt_fits F (k + 1) (L - 1) (next W) (next H) x

    low-fits : low_fits ≡ pick done (every_cell (next W).length (next H).length
        (λ r c. value_fits F (k + 1) (map_back F wrap32 (L - 1) (next W) (next H) x r c))) false
    low-fits =
        let e = low-back.answer in
        let W₁ = next W in
        let H₁ = next H in
        fits_more F laws (k + 1) (L - 1) W₁ H₁ x (omega arith)
        ∙ both-both (rebuilt_fits F (k + 1 + 1) (L - 1 - 1) (next W₁) (next H₁) x)
        (level_has F W₁ H₁ (plane_bands W₁ H₁ (map_back F wrap32 (L - 1 - 1) (next W₁) (next H₁) x) x))
        (every_cell W₁.length H₁.length (λ r c. value_fits F (k + 1) (map_back F wrap32 (L - 1) W₁ H₁ x r c)))
        ∙ rw (← e)

    low-kept : KeptFrom ((H.length - 1) * s + W.length) y₀ y₁
    unfolding next
    low-kept =
        let end = next-end s W H ch in
        part-kept a m ((count lo H - 1) * (2 * s) + count lo W) _ p₁ y₀ y₁ e₁ low-back.kept (omega arith)

    no_answer : (y : ℕ → ℤ) → low_fits ≡ false → KeptFrom ((H.length - 1) * s + W.length) y₀ y → LevelsBack F false k L s A W H z y₀ y
    no_answer y e kept = record { answer = rw e refl; grid = λ f. absurd (false-true f); kept = kept }

    -- a level of it does not fit
    pub back-no : done ≡ false → LevelsBack F false k L s A W H z y₀ y₁
    back-no it = no_answer y₁ (low-fits ∙ rw it) low-kept

    -- its levels fit; q₁ is the part again, q₂ with its rows in their own order, `ok` the test of its own numbers on the way, y₂ the work area then
    module _ (it : done ≡ true) (ok : Bool) (q₁ q₂ y₂ : ℕ → ℤ) (eq : q₁ ≡ windowed a m y₁) (same : q₁ ≡ p₁)
        (t : ok ≡ rows_between 0 H'.length 0 W'.length (neg_ℤ (pos (range F (k + 1)))) (pos (range F (k + 1))) (cells (2 * s) q₁))
        (e₂ : q₂ ≡ flat (2 * s) (rows_mapped (interleaved_in_place W') W'.length H'.length (cells (2 * s) q₁)))
        (f₂ : y₂ ≡ spliced a m q₂ y₁) where
      interleaved : q₂ ≡ flat (2 * s) (rows_mapped (interleaved_in_place (next W)) (next W).length (next H).length (cells (2 * s) q₁))
      interleaved = rw (ew, eh) at e₂

      tested : ok ≡ low_fits
      tested =
          let t' : ok ≡ rows_between 0 (next H).length 0 (next W).length (neg_ℤ (pos (range F (k + 1)))) (pos (range F (k + 1)))
          (cells (2 * s) q₁) =
          rw (ew, eh) at t in
          t'
          ∙ ap (λ (p : ℕ → ℤ). rows_between 0 (next H).length 0 (next W).length (neg_ℤ (pos (range F (k + 1))))
          (pos (range F (k + 1))) (cells (2 * s) p)) same
          ∙ rebuilt-test F laws k (L - 1) (next W) (next H) x (cells (2 * s) p₁) (low-back.grid it)
          ∙ sym (low-fits ∙ rw it)

      low-rows : Rows m (2 * s) (count lo W) (count lo H)
      low-rows = let e : m ≡ n - H.start % 2 * s = omega arith in rw e (next-rows s W H ch n R)

      interleaved-kept : KeptFrom ((H.length - 1) * s + W.length) y₀ y₂
      unfolding next
      interleaved-kept =
          let end = next-end s W H ch in
          kept_then low-kept
          (part-kept a m ((count lo H - 1) * (2 * s) + count lo W) ((H.length - 1) * s + W.length) q₂ y₁ y₂ f₂
          (rw (← eq) (kept-flat m (2 * s) (count lo W) (count lo H) q₁ q₂ _ low-rows interleaved
          (λ r c o. mapped_out (count lo W) (count lo H) (cells (2 * s) q₁) r c o (interleaved_in_place (next W)))))
          (omega arith))
          (omega arith)

      pub back_low : ok ≡ false → LevelsBack F false k L s A W H z y₀ y₂
      back_low no' = no_answer y₂ (sym tested ∙ no') interleaved-kept

      -- the low-low part, as it stands in the work area
      low-cell : (i c : ℕ) → i < count lo H → c < count lo W → cells s y₂ (place H lo i) c ≡ map_back F wrap32 (L - 1) (next W) (next H) x i c
      unfolding cells place next
      low-cell i c ib cb =
          let room = row_room m (2 * s) (count lo W) (count lo H) i low-rows ib in
          let wide = low-rows.wide in
          let j : (2 * i + H.start % 2) * s + c ≡ a + (i * (2 * s) + c) = omega arith in
          let d : a + (i * (2 * s) + c) - a ≡ i * (2 * s) + c = omega arith in
          ap y₂ j
          ∙ ap (λ (u : ℕ → ℤ). u (a + (i * (2 * s) + c))) f₂
          ∙ splice-in a m q₂ y₁ (a + (i * (2 * s) + c)) (omega arith) (omega arith)
          ∙ ap q₂ d
          ∙ ap (λ (u : ℕ → ℤ). u (i * (2 * s) + c)) interleaved
          ∙ flat-at (2 * s) _ i c (omega arith)
          ∙ interleaved-in (next W) (count lo H) (cells (2 * s) q₁) i c ib cb
          ∙ ap (λ (p : ℕ → ℤ). level_grid (next W) (cells (2 * s) p) i c) same
          ∙ (low-back.grid it).cell i c ib cb

      -- they fit too: this level
      pub back_step : (d : Bool) (y : ℕ → ℤ) → ok ≡ true → LevelMadeBy F d W'.length s W H (cells A z) y₂ y → LevelsBack F d k L s A W H z y₀ y
      unfolding next
      back_step d y yes' c =
          let f : W'.length ≡ count lo W = ap length-of ew in
          let c' : LevelMadeBy F d (count lo W) s W H (cells A z) y₂ y = rw f at c in
          let fits : low_fits ≡ true = sym tested ∙ yes' in
          let new : (i j : ℕ) → i < count lo H → j < count lo W → count lo W ≤ j → x i j ≡ map_back F wrap32 (L - 1) (next W) (next H) x i j =
          λ i j ib jb g.
          absurd (omega arith) in
          record {
            answer = rw fits (level-answer s A L (count lo W) W H d z y₂ y R.wide (omega arith) (omega arith) low-cell new c');
            grid = level-grid s A L (count lo W) W H d z y₂ y R.wide (omega arith) (omega arith) low-cell new c';
            kept = kept_then interleaved-kept c'.kept (omega arith);
          }

-- ---- ranges
pub between-by : (first last from to : ℕ) (X : Grid) {low low' high high' : ℤ} → low ≡ low' → high ≡ high' →
    rows_between first last from to low high X ≡ rows_between first last from to low' high' X
between-by first last from to X e f = λ i. rows_between first last from to (e i) (f i) X

pub range-is : (F : Filter) (k : ℕ) → k ≤ max_levels → pos (range F (min k max_levels)) ≡ pos (range F k)
range-is F k b = ap (λ (i : ℕ). pos (range F i)) (omega arith)

pub neg-fits : (N : ℕ) (z : ℤ) → N < 2147483648 → z ≡ pos N → SFits w32 (pos 0 -ℤ z)
neg-fits N = each _ λ p q. simp lin (omega arith)

pub neg_is : (z : ℤ) → pos 0 -ℤ z ≡ neg_ℤ z
neg_is = each _ λ p q. simp lin (omega arith)

module _ (F : Filter) (laws : FilterLaws F) where
  -- ---- question 7, test by test: of the low-low part, of the rows beside it, of the rows below
  module _ (k L : ℕ) (W H W' H' : Side) (x : Grid) (a : Bool) (one : 0 < k) (more : 2 ≤ L) (ew : W' ≡ next W) (eh : H' ≡ next H)
      (ea : a ≡ region_in_range F (k + 1) (L - 1) W' H' x) where
    low-test : a ≡ region_in_range F (k + 1) (L - 1) (next W) (next H) x
    low-test = rw (ew, eh) at ea

    pub range-first : a ≡ false → false ≡ region_in_range F k L W H x
    range-first no' = sym (region-more F laws k L W H x one more ∙ rw (← low-test, no'))

    module _ (yes' : a ≡ true) (b : Bool)
        (eb : b ≡ rows_between 0 H'.length W'.length W.length (neg_ℤ (pos (range F k))) (pos (range F k)) x) where
      beside-test : b ≡ rows_between 0 (count lo H) (count lo W) W.length (neg_ℤ (pos (range F k))) (pos (range F k)) x
      unfolding next
      beside-test = let f = ap length-of ew in let g = ap length-of eh in rw (f, g) at eb

      pub range-second : b ≡ false → false ≡ region_in_range F k L W H x
      range-second no' = sym (region-more F laws k L W H x one more ∙ rw (← low-test, yes', ← beside-test, no'))

      pub range-third : b ≡ true → (d : Bool)
          → d ≡ rows_between H'.length H.length 0 W.length (neg_ℤ (pos (range F k))) (pos (range F k)) x →
          d ≡ region_in_range F k L W H x
      unfolding next
      range-third yes'' d ed =
          let below : d ≡ rows_between (count lo H) H.length 0 W.length (neg_ℤ (pos (range F k))) (pos (range F k)) x =
          rw eh at ed in
          below ∙ sym (region-more F laws k L W H x one more ∙ rw (← low-test, yes', ← beside-test, yes''))

  pub range-end : (k L : ℕ) (W H : Side) (x : Grid) (d : Bool) → 0 < k → 0 < L → has_next L (count lo W) (count lo H) ≡ false →
      d ≡ rows_between 0 H.length 0 W.length (neg_ℤ (pos (range F k))) (pos (range F k)) x → d ≡ region_in_range F k L W H x
  range-end k L W H x d one some go e = e ∙ sym (region-last F laws k L W H x one some go)
