-- The laws of cells in an area, of rows in halves, and of the passes over rows at one cell. Assumes nothing.
use mathlib.Core.Path.{◌≡◌, refl, sym, ap, ◌∙◌, fun_ext}
use mathlib.Core.Bool.{true, false}
use Prim.Native.Nat.{ℕ, ◌+◌, ◌-◌, ◌*◌, ◌/◌, ◌%◌, ◌≤◌, ◌<◌}
use native.Mathlib.Nat.{div-add-mod', mod-lt, mul-le-mul_right}
use native.Mathlib.Decide.{dec_lt, ℕ_discrete}
use native.Mathlib.Omega.{arith}
use lib.IntN.{ℤ}
use borrow.Author.Tests.{lt-ltb, le-ltb, eq-eqb, ne_eqb}
use Rattle.numbers.specs.Signal.{pick}
use Rattle.numbers.specs.Word.{wrap32}
use Rattle.lifting.specs.Line.{unupdated, unpredicted, Half, lo, hi}
use Rattle.lifting.specs.Grid.{Side, half, place, count, deinterleaved, joined, single_high}
use Rattle.lifting.specs.GridHalves.{halves_of, in_halves}
use Rattle.lifting.proofs.GridLaws.{counts, place-in, by_place, joined-place, joined-deinterleaved, halves-low, halves-high}
use Rattle.wavelet.specs.Bands.{Grid}
use Rattle.wavelet.specs.Plane.{cells, flat, half_at, place_in}
use Rattle.wavelet.proofs.GridLaws.{cells-flat}
use Rattle.map_levels.specs.Rowwise.{cut, deinterleaved_in_place, halved_in_place}
use Rattle.map_levels.specs.Passes.{Rows, KeptFrom, within, after, before, is_low, high_rows_changed, low_rows_changed, rows_mapped, plane_row, level_row}
use Rattle.map_levels.specs.Passes.{rows_fetched, grid_halved, grid_copied, rows_returned}
use Rattle.map_levels.proofs.GridSweep.{row_room}
use Rattle.map_levels.specs.LevelPasses.{level_grid, corner_grid, columns_lifted_in_place, columns_unlifted_in_place}

-- ---- cells
pub flat-same : (s : ℕ) (X Y : Grid) → 0 < s → ((r c : ℕ) → c < s → X r c ≡ Y r c) → flat s X ≡ flat s Y
unfolding flat
flat-same s X Y g h = fun_ext λ j. h (j / s) (j % s) (mod-lt j g)

-- ---- rows at even and odd coordinates
module _ (H : Side) (r : ℕ) where
  pub is-low : (H.start + r) % 2 ≡ 0 → is_low H r ≡ true
  unfolding is_low
  is-low e = simp (eq-eqb ((H.start + r) % 2) 0 e)

  pub is-high : (H.start + r) % 2 ≡ 1 → is_low H r ≡ false
  unfolding is_low
  is-high e = simp (ne_eqb ((H.start + r) % 2) 0 (omega arith))

module _ (H : Side) (n : ℕ) where
  pub low-coordinate : (H.start + place H lo n) % 2 ≡ 0
  unfolding place
  low-coordinate = omega arith

  pub high-coordinate : (H.start + place H hi n) % 2 ≡ 1
  unfolding place
  high-coordinate = omega arith

-- ---- a row in halves: where its number c stands, as row c of a level stands in the plane
abbrev pub placed : Side → ℕ → ℕ
placed S c = plane_row S c

module _ (S : Side) (n : ℕ) where
  pub placed-low : placed S (place S lo n) ≡ n
  unfolding plane_row place
  placed-low = let d : (2 * n + S.start % 2) / 2 ≡ n = omega arith in simp (is-low S (2 * n + S.start % 2) (omega arith), d)

  pub placed-high : placed S (place S hi n) ≡ count lo S + n
  unfolding plane_row place
  placed-high = let d : (2 * n + (1 - S.start % 2)) / 2 ≡ n = omega arith in simp (is-high S (2 * n + (1 - S.start % 2)) (omega arith), d)

pub placed-in : (S : Side) (c : ℕ) → c < S.length → placed S c < S.length
unfolding plane_row count
placed-in S c h =
    elim (ℕ_discrete ((S.start + c) % 2) 0) [
      | yes e ↦ simp (is-low S c e) (omega arith)
      | no d ↦ simp (is-high S c (omega arith)) (omega arith)
    ]

pub joined_at : (S : Side) (y : ℕ → ℤ) (c : ℕ) → joined S (halves_of S y) c ≡ y (placed S c)
unfolding halves_of
joined_at S y =
    by_place S (λ c. joined S (halves_of S y) c ≡ y (placed S c))
    (λ h n.
    joined-place S (halves_of S y) h n
    ∙ elim h as (λ h. halves_of S y h n ≡ y (placed S (place S h n))) [
      | lo ↦ sym (ap y (placed-low S n))
      | hi ↦ sym (ap y (placed-high S n))
    ])

pub grid-at : (W : Side) (X : Grid) (r c : ℕ) → level_grid W X r c ≡ X r (placed W c)
unfolding level_grid
grid-at W X r c = joined_at W (X r) c

-- halves in memory, read at the place of number c
pub halves-at : (S : Side) (p : Half → ℕ → ℤ) (z : ℕ → ℤ) (c : ℕ) → c < S.length → in_halves S p z (placed S c) ≡ joined S p c
unfolding plane_row joined half count
halves-at S p z c h =
    let both = counts S in
    elim (ℕ_discrete ((S.start + c) % 2) 0) [
      | yes e ↦ simp (is-low S c e, eq-eqb ((S.start + c) % 2) 0 e) (halves-low S p z (c / 2) (omega arith))
      | no d ↦
          let k : count lo S + c / 2 - count lo S ≡ c / 2 = omega arith in
          simp (is-high S c (omega arith), ne_eqb ((S.start + c) % 2) 0 d)
          (halves-high S p z (count lo S + c / 2) (omega arith) (omega arith) ∙ ap (p hi) k)
    ]

-- halves in memory, read at place j
pub halves-half : (S : Side) (p : Half → ℕ → ℤ) (z : ℕ → ℤ) (j : ℕ) → j < S.length → in_halves S p z j ≡ p (half_at S j) (place_in S j)
unfolding half_at place_in
halves-half S p z j h =
    elim (dec_lt j (count lo S)) [
      | yes a ↦ simp (lt-ltb j (count lo S) a) (halves-low S p z j a)
      | no a ↦ simp (le-ltb j (count lo S) (omega arith)) (halves-high S p z j (omega arith) h)
    ]

-- ---- halves of a side
module _ (S : Side) (i : ℕ) where
  pub half-low : i < count lo S → (half_at S i ≡ lo) × (place_in S i ≡ i)
  unfolding half_at place_in
  half-low h = (simp (lt-ltb i (count lo S) h), simp (lt-ltb i (count lo S) h))

  pub half_in : i < S.length → place_in S i < count (half_at S i) S
  unfolding half_at place_in
  half_in h =
      let both = counts S in
      elim (dec_lt i (count lo S)) [
        | yes a ↦ simp (lt-ltb i (count lo S) a) a
        | no a ↦ simp (le-ltb i (count lo S) (omega arith)) (omega arith)
      ]

  -- the row of the level that goes to row i of the plane
  pub level-is : level_row S i ≡ place S (half_at S i) (place_in S i)
  unfolding level_row half_at place_in
  level-is =
      elim (dec_lt i (count lo S)) [
        | yes a ↦ simp (lt-ltb i (count lo S) a)
        | no a ↦ simp (le-ltb i (count lo S) (omega arith))
      ]

  -- and what stands there
  pub level-at : (y : ℕ → ℤ) → y (level_row S i) ≡ deinterleaved S y (half_at S i) (place_in S i)
  unfolding deinterleaved
  level-at y = ap y level-is

  pub level-low : i < count lo S → level_row S i ≡ place S lo i
  unfolding level_row
  level-low h = simp (lt-ltb i (count lo S) h)

  pub level-high : count lo S ≤ i → level_row S i ≡ place S hi (i - count lo S)
  unfolding level_row
  level-high h = simp (le-ltb i (count lo S) h)

  pub level_in : i < S.length → level_row S i < S.length
  level_in h = let b = place-in S (half_at S i) (place_in S i) (half_in h) in rw level-is b

-- ---- a cell is among the h rows of w numbers, or it is not
pub within_in : (w h r c : ℕ) → r < h → c < w → within w h r c ≡ true
unfolding within
within_in w h r c a b = simp (lt-ltb r h a, lt-ltb c w b)

pub by-within : {P : Type 0} (w h r c : ℕ) → (r < h → c < w → P) → (within w h r c ≡ false → P) → P
unfolding within
by-within w h r c f g =
    elim (dec_lt r h) [
      | yes a ↦ elim (dec_lt c w) [ yes b ↦ f a b | no b ↦ g (simp (lt-ltb r h a, le-ltb c w (omega arith))) ]
      | no a ↦ g (simp (le-ltb r h (omega arith)))
    ]

-- ---- a pass at one cell of its rows of w numbers
module _ (f : ℤ → ℤ → ℤ → ℤ) (w : ℕ) (H : Side) (X : Grid) (c : ℕ) (cw : c < w) where
  pub high-in : (r : ℕ) → r < H.length → (H.start + r) % 2 ≡ 1 → high_rows_changed f w H X r c ≡ f (X r c) (X (before r) c) (X (after H.length r) c)
  unfolding high_rows_changed within
  high-in r rh e = simp (lt-ltb r H.length rh, lt-ltb c w cw, is-high H r e)

  pub high-low : (r : ℕ) → r < H.length → (H.start + r) % 2 ≡ 0 → high_rows_changed f w H X r c ≡ X r c
  unfolding high_rows_changed within
  high-low r rh e = simp (lt-ltb r H.length rh, lt-ltb c w cw, is-low H r e)

  pub low-in : (r : ℕ) → r < H.length → (H.start + r) % 2 ≡ 0 → low_rows_changed f w H X r c ≡ f (X r c) (X (before r) c) (X (after H.length r) c)
  unfolding low_rows_changed within
  low-in r rh e = simp (lt-ltb r H.length rh, lt-ltb c w cw, is-low H r e)

  pub low-high : (r : ℕ) → r < H.length → (H.start + r) % 2 ≡ 1 → low_rows_changed f w H X r c ≡ X r c
  unfolding low_rows_changed within
  low-high r rh e = simp (lt-ltb r H.length rh, lt-ltb c w cw, is-high H r e)

pub cut_in : (n : ℕ) (x : ℕ → ℤ) (j : ℕ) → j < n → cut n x j ≡ x j
unfolding cut
cut_in n x j h = simp (lt-ltb j n h)

-- ---- rows fetched from the plane, at one cell
module _ (from w : ℕ) (H : Side) (P X : Grid) (r c : ℕ) (rh : r < H.length) (cw : c < w) where
  pub fetched-new : pick (is_low H r) from 0 ≤ c → rows_fetched from w H P X r c ≡ P (plane_row H r) c
  unfolding rows_fetched
  fetched-new =
      elim (ℕ_discrete ((H.start + r) % 2) 0) [
        | yes e ↦ simp (within_in w H.length r c rh cw, is-low H r e) (λ b. simp (le-ltb c from b))
        | no d ↦ simp (within_in w H.length r c rh cw, is-high H r (omega arith)) (λ b. refl)
      ]

  pub fetched-made : c < pick (is_low H r) from 0 → rows_fetched from w H P X r c ≡ X r c
  unfolding rows_fetched
  fetched-made =
      elim (ℕ_discrete ((H.start + r) % 2) 0) [
        | yes e ↦ simp (within_in w H.length r c rh cw, is-low H r e) (λ b. simp (lt-ltb c from b))
        | no d ↦ simp (is-high H r (omega arith)) (λ b. absurd (omega arith))
      ]

-- what a low and a high row have made already
module _ (H : Side) (i : ℕ) (from : ℕ) where
  pub made-low : pick (is_low H (place H lo i)) from 0 ≡ from
  made-low = simp (is-low H (place H lo i) (low-coordinate H i))

  pub made-high : pick (is_low H (place H hi i)) from 0 ≡ 0
  made-high = simp (is-high H (place H hi i) (high-coordinate H i))

-- ---- a cell outside the h rows of w numbers stays
pub outside-columns : (w h r c : ℕ) → w ≤ c → within w h r c ≡ false
unfolding within
outside-columns w h r c b = elim (dec_lt r h) [ yes a ↦ simp (lt-ltb r h a, le-ltb c w b) | no a ↦ simp (le-ltb r h (omega arith)) ]

pub outside-rows : (w h r c : ℕ) → h ≤ r → within w h r c ≡ false
unfolding within
outside-rows w h r c b = simp (le-ltb r h b)

pub mapped_out : (w h : ℕ) (X : Grid) (r c : ℕ) → within w h r c ≡ false → (f : (ℕ → ℤ) → ℕ → ℤ) → rows_mapped f w h X r c ≡ X r c
unfolding rows_mapped
mapped_out w h X r c e f = simp e

module _ (w : ℕ) (H : Side) (X : Grid) (r c : ℕ) (e : within w H.length r c ≡ false) where
  pub high-out : (f : ℤ → ℤ → ℤ → ℤ) → high_rows_changed f w H X r c ≡ X r c
  unfolding high_rows_changed
  high-out f = simp e

  pub low-out : (f : ℤ → ℤ → ℤ → ℤ) → low_rows_changed f w H X r c ≡ X r c
  unfolding low_rows_changed
  low-out f = simp e

  pub fetched-out : (from : ℕ) (z : Grid) → rows_fetched from w H z X r c ≡ X r c
  unfolding rows_fetched
  fetched-out from z = simp e

module _ (W H : Side) (G Z : Grid) (r c : ℕ) where
  pub halved-in : r < H.length → c < W.length → grid_halved W H G Z r c ≡ deinterleaved_in_place W (G (level_row H r)) c
  unfolding grid_halved
  halved-in rh cw = simp (within_in W.length H.length r c rh cw)

  pub halved-out : within W.length H.length r c ≡ false → grid_halved W H G Z r c ≡ Z r c
  unfolding grid_halved
  halved-out e = simp e

pub copied-in : (w h : ℕ) (G Z : Grid) (r c : ℕ) → r < h → c < w → grid_copied w h G Z r c ≡ G r c
unfolding grid_copied
copied-in w h G Z r c rh cw = simp (within_in w h r c rh cw)

pub copied-out : (w h : ℕ) (G Z : Grid) (r c : ℕ) → within w h r c ≡ false → grid_copied w h G Z r c ≡ Z r c
unfolding grid_copied
copied-out w h G Z r c e = simp e

-- a grid laid in halves is the grid that stands there
pub corner-at : (W H : Side) (X : Grid) (r c : ℕ) → corner_grid W H X r c ≡ X (placed H r) (placed W c)
unfolding corner_grid
corner-at W H X r c = joined_at H (λ i. level_grid W X i c) r ∙ grid-at W X (placed H r) c

pub halved-grid : (A : ℕ) (W H : Side) (G Z : Grid) (z : ℕ → ℤ) → W.length ≤ A → z ≡ flat A (grid_halved W H G Z) → (r c : ℕ) → r < H.length → c < W.length →
    corner_grid W H (cells A z) r c ≡ G r c
unfolding deinterleaved_in_place
halved-grid A W H G Z z wa e r c rh cw =
    let p = placed H r in
    let q = placed W c in
    let pb = placed-in H r rh in
    let qb = placed-in W c cw in
    let col : ℕ → ℤ = λ i. G i c in
    corner-at W H (cells A z) r c
    ∙ ap (λ (u : ℕ → ℤ). cells A u p q) e
    ∙ cells-flat A (grid_halved W H G Z) p q (omega arith)
    ∙ halved-in W H G Z p q pb qb
    ∙ halves-at W (deinterleaved W (G (level_row H p))) (G (level_row H p)) c cw
    ∙ joined-deinterleaved W (G (level_row H p)) c
    ∙ level-at H p col
    ∙ sym (halves-half H (deinterleaved H col) col p pb)
    ∙ halves-at H (deinterleaved H col) col r rh
    ∙ joined-deinterleaved H col r

module _ (W : Side) (h : ℕ) (X Z : Grid) (r c : ℕ) where
  pub returned-in : r < h → c < W.length → rows_returned W h X Z r c ≡ level_grid W X r c
  unfolding rows_returned level_grid
  returned-in rh cw = simp (within_in W.length h r c rh cw)

  pub returned-out : within W.length h r c ≡ false → rows_returned W h X Z r c ≡ Z r c
  unfolding rows_returned
  returned-out e = simp e

pub column-out : (w : ℕ) (H : Side) (X : Grid) (r c : ℕ) → within w H.length r c ≡ false → columns_lifted_in_place w H X r c ≡ X r c
unfolding columns_lifted_in_place
column-out w H X r c e = simp e

pub columns-out : (w : ℕ) (H : Side) (X : Grid) (r c : ℕ) → within w H.length r c ≡ false → columns_unlifted_in_place w H X r c ≡ X r c
unfolding columns_unlifted_in_place
columns-out w H X r c e =
    elim (dec_lt 1 H.length) [
      | yes g ↦ simp (lt-ltb 1 H.length g) (high-out w H (low_rows_changed (unupdated wrap32) w H X) r c e (unpredicted wrap32) ∙
          low-out w H X r c e (unupdated wrap32))
      | no g ↦
          simp (le-ltb 1 H.length (omega arith))
          (elim (single_high H) as (λ t. pick t (rows_mapped (halved_in_place w) w H.length X) X r c ≡ X r c) [
            | true ↦ mapped_out w H.length X r c e (halved_in_place w)
            | false ↦ refl
          ])
    ]

-- ---- what stands past the rows stays
pub past-rows : (s w h j : ℕ) → 0 < h → (h - 1) * s + w ≤ j → within w h (j / s) (j % s) ≡ false
past-rows s w h j some b =
    let k = div-add-mod' j s in
    by-within w h (j / s) (j % s) (λ rh cw. let m : j / s * s ≤ (h - 1) * s = mul-le-mul_right s (omega arith) in absurd (omega arith)) (λ e. e)

pub kept-flat : (n s w h : ℕ) (x y : ℕ → ℤ) (F : Grid) → Rows n s w h → y ≡ flat s F → ((r c : ℕ) → within w h r c ≡ false → F r c ≡ cells s x r c) →
    KeptFrom ((h - 1) * s + w) x y
unfolding flat cells
kept-flat n s w h x y F R e f =
    record {
      kept = λ j b. ap (λ (z : ℕ → ℤ). z j) e ∙ f (j / s) (j % s) (past-rows s w h j R.some b) ∙ ap x (div-add-mod' j s);
    }

pub kept_then : {m n : ℕ} {x y z : ℕ → ℤ} → KeptFrom n x y → KeptFrom m y z → m ≤ n → KeptFrom n x z
kept_then k l b = record { kept = λ j h. l.kept j (omega arith) ∙ k.kept j h }

-- ---- the rows of the next level: every second row from the first low one on, its low half
module _ (s : ℕ) (W H : Side) (some : 0 < count lo H) where
  pub next-end : H.start % 2 * s + ((count lo H - 1) * (2 * s) + count lo W) ≤ (H.length - 1) * s + W.length
  unfolding count
  next-end =
      let p = H.start % 2 in
      let l = (H.length + 1 - p) / 2 in
      let m : (p + 2 * (l - 1)) * s ≤ (H.length - 1) * s = mul-le-mul_right s (omega arith) in
      let e : (p + 2 * (l - 1)) * s ≡ p * s + (l - 1) * (2 * s) = omega arith in
      omega arith

  pub next-rows : (n : ℕ) → Rows n s W.length H.length → Rows (n - H.start % 2 * s) (2 * s) (count lo W) (count lo H)
  next-rows n R =
      let k = counts W in
      let apart = R.apart in
      let wide = R.wide in
      record { apart = omega arith; wide = omega arith; some = some; room = omega (arith, next-end, R.room) }

-- a part of the rows
pub fewer-rows : (n s w h m : ℕ) → Rows n s w h → 0 < m → m ≤ h → Rows n s w m
fewer-rows n s w h m R some b = record { apart = R.apart; wide = R.wide; some = some; room = row_room n s w h (m - 1) R (omega arith) }

pub fewer-columns : (n s w h v : ℕ) → Rows n s w h → v ≤ w → Rows n s v h
fewer-columns n s w h v R b = record { apart = R.apart; wide = omega (arith, R.wide); some = R.some; room = omega (arith, R.room) }
