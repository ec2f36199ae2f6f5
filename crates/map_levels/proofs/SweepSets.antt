-- A level in one sweep: what the lines hold, and the rows of the plane and of the work area that are done, from low row to low row. Assumes nothing.
use mathlib.Core.Path.{◌≡◌, refl, sym, ap, ap₂, ◌∙◌}
use mathlib.Core.Logic.{◌≢◌}
use mathlib.Core.Bool.{Bool, true, false}
use Prim.Native.Nat.{ℕ, ◌+◌, ◌-◌, ◌*◌, ◌%◌, ◌^◌, ◌≤◌, ◌<◌}
use native.Mathlib.Nat.{mul-le-mul_right, mul-le-mul_left}
use native.Mathlib.Decide.{dec_lt, ℕ_discrete}
use native.Mathlib.Omega.{arith}
use lib.IntN.{ℤ, pos, nat_abs}
use lib.Dec.{ltb, leb}
use borrow.Author.Tests.{lt-ltb, le-ltb, le-leb, lt-leb, eq-eqb, ne_eqb}
use Rattle.numbers.specs.Signal.{pick, windowed, spliced}
use Rattle.numbers.specs.Word.{wrap32, whole}
use Rattle.numbers.proofs.Parts.{window-in, splice-past}
use Rattle.lifting.specs.Line.{Half, lo, hi}
use Rattle.lifting.specs.Grid.{Side, count, place, line_forward}
use Rattle.lifting.specs.GridHalves.{forward_into}
use Rattle.lifting.specs.FiveThree.{five_three_filter}
use Rattle.lifting.specs.Passes.{near}
use Rattle.lifting.proofs.GridLaws.{ahead, counts, high-near, low_near}
use Rattle.lifting.proofs.GridReads.{forward-reads}
use Rattle.lifting.proofs.GridTheorems.{forward-range, forward-exact}
use Rattle.wavelet.specs.Bands.{Grid, LL, band_of, columns_lifted, subband}
use Rattle.wavelet.specs.Plane.{cells, half_at, place_in}
use Rattle.wavelet.proofs.LevelTheory.{across-of, down-of}
use Rattle.wavelet.specs.Limits.{max_width}
use Rattle.map_levels.specs.Passes.{Rows, within}
use Rattle.map_levels.specs.Sweep.{short_predicted, short_updated, SmallLine, Small}
use Rattle.map_levels.specs.Sweep.{line_half, line_at, high_of, line_lifted, level_written, source_grid, other_low, first_other, ColumnsMade, SetsDone}
use Rattle.map_levels.specs.Sweep.{LevelArea, LevelSwept}
use Rattle.map_levels.proofs.GridSweep.{row_room, put_other, put_in, put-wide, within_in, within-past, within-wide}
use Rattle.map_levels.proofs.CellLaws.{halves-half, half_in, half-low}
use Rattle.map_levels.proofs.ShortSums.{short-predicted, short-updated}

-- ---- what the calls of a set ask and come to
pub made_as : (last l' : Bool) (w a b o o' : ℕ) (G : Grid) (y₀ y : ℕ → ℤ) → last ≡ l' → o' ≡ o → ColumnsMade l' w (G a) (G b) (G o') y₀ y →
    ColumnsMade last w (G a) (G b) (G o) y₀ y
made_as last l' w a b o o' G y₀ y e f M = rw e (rw f at M)

pub high-put : (A w n low nl nh : ℕ) (v z z' : ℕ → ℤ) → low ≡ nl → n < nh → z' ≡ spliced ((low + n) * A) w v z →
    z' ≡ pick (ltb n nh) (spliced ((nl + n) * A) w v z) z
high-put A w n low nl nh v z z' e h is = simp (lt-ltb n nh h) (is ∙ ap (λ (t : ℕ). spliced ((t + n) * A) w v z) e)

pub high-left : (n nh : ℕ) (u z : ℕ → ℤ) → nh ≤ n → z ≡ pick (ltb n nh) u z
high-left n nh u z h = simp (le-ltb n nh h)

-- row n of the low-low part lies in the work area
pub corner-room : (m : ℕ) (W H : Side) (n : ℕ) → Rows m W.length W.length H.length → n < count lo H → n * count lo W + count lo W ≤ m
corner-room m W H n R nb =
    let l = counts W in
    let k = counts H in
    let a : n * count lo W ≤ n * W.length = mul-le-mul_left n (omega arith) in
    let r = row_room m W.length W.length H.length n R (omega arith) in
    omega arith

-- areas that kept their lengths
pub area-kept : {first : Bool} {k n n' m m' A : ℕ} {W H : Side} → n' ≡ n → m' ≡ m → LevelArea first k n m A W H → LevelArea first k n' m' A W H
area-kept e f R = rw (e, f) R

-- the lines have room for a map's columns
pub lines-enough : (w : ℕ) → w ≤ max_width → w ≤ 2 * line_half
unfolding line_half max_width
lines-enough w b = omega arith

-- ---- the rows of a column, the line g: low row n stands at place a
module _ (H : Side) (more : 1 < H.length) (g : ℕ → ℤ) (small : (i : ℕ) → i < H.length → nat_abs (g i) ≤ 2 ^ 26) where
  abbrev p : ℕ
  p = H.start % 2

  abbrev high : ℕ → ℤ
  high = line_forward wrap32 H g hi

  some-high : 0 < count hi H
  unfolding count
  some-high = omega arith

  -- no high value is too large
  pub high_small : (k : ℕ) → nat_abs (high (near (count hi H) k)) ≤ 2 ^ 27
  high_small k =
      let s = some-high in
      let m = near (count hi H) k in
      let b : m < count hi H = omega arith in
      let r : nat_abs (line_forward whole H g hi m) ≤ 2 * 2 ^ 26 = forward-range (2 ^ 26) H g small hi m b in
      rw (forward-exact (2 ^ 26) H (omega arith) g small hi m b) (omega (arith, r))

  pub low_small : (n : ℕ) → n < count lo H → nat_abs (line_forward wrap32 H g lo n) ≤ 2 ^ 27
  low_small n b =
      let r : nat_abs (line_forward whole H g lo n) ≤ 2 * 2 ^ 26 = forward-range (2 ^ 26) H g small lo n b in
      rw (forward-exact (2 ^ 26) H (omega arith) g small lo n b) (omega (arith, r))

  module _ (n : ℕ) (nb : n < count lo H) where
    abbrev a : ℕ
    a = 2 * n + p

    after-here : a + 1 < H.length → n + p < count hi H
    unfolding count
    after-here b = omega arith

    other-is : place H lo (near (count lo H) (n + p + ahead H lo)) ≡ other_low H.length a
    unfolding count place other_low
    other-is =
        elim (dec_lt (a + 2) H.length) [
          | yes b ↦ simp (lt-ltb (a + 2) H.length b) (omega arith)
          | no b ↦ simp (le-ltb (a + 2) H.length (omega arith)) (omega arith)
        ]

    high-place : place H hi (n + p) ≡ a + 1
    unfolding place
    high-place = omega arith

    here-is : place H lo (near (count lo H) (n + p + ahead H lo - 1)) ≡ a
    unfolding count place
    here-is = omega arith

    other-in : other_low H.length a < H.length
    unfolding count other_low
    other-in =
        elim (dec_lt (a + 2) H.length) [
          | yes b ↦ simp (lt-ltb (a + 2) H.length b) b
          | no b ↦ simp (le-ltb (a + 2) H.length (omega arith)) (omega arith)
        ]

    high-made : a + 1 < H.length → short_predicted (g (a + 1)) (g a) (g (other_low H.length a)) ≡ high (n + p)
    high-made b =
        short-predicted _ _ _ (omega (arith, small a (omega arith))) (omega (arith, small (other_low H.length a) other-in))
        ∙ sym (high-near H more wrap32 g (n + p) (after-here b) ∙ rw (high-place, here-is, other-is))

    pub next-high : high_of (leb H.length (a + 1)) (high (near (count hi H) (n + p - 1))) (g a) (g (a + 1)) (g (other_low H.length a))
        ≡ high (near (count hi H) (n + p))
    unfolding count
    next-high =
        elim (dec_lt (a + 1) H.length) [
          | yes b ↦
              let e : near (count hi H) (n + p) ≡ n + p = omega arith in
              simp (lt-leb H.length (a + 1) b) (high-made b ∙ ap high (sym e))
          | no b ↦
              let e : near (count hi H) (n + p - 1) ≡ near (count hi H) (n + p) = omega arith in
              simp (le-leb H.length (a + 1) (omega arith)) (ap high e)
        ]

    pub low-made : short_updated (g a) (high (near (count hi H) (n + p - 1))) (high (near (count hi H) (n + p))) ≡ line_forward wrap32 H g lo n
    unfolding place
    low-made = short-updated _ _ _ (omega (arith, high_small (n + p - 1))) (omega (arith, high_small (n + p))) ∙ sym (low_near H more wrap32 g n nb)

  -- the first high row
  first-place : place H hi 0 ≡ 1 - p
  unfolding place
  first-place = omega arith

  first-left : place H lo (near (count lo H) (0 + ahead H lo - 1)) ≡ p
  unfolding count place
  first-left = omega arith

  first-right : place H lo (near (count lo H) (0 + ahead H lo)) ≡ first_other H
  unfolding count place first_other other_low
  first-right =
      elim (ℕ_discrete p 0) [
        | yes e ↦
            simp (eq-eqb p 0 e)
            (elim (dec_lt 2 H.length) [
              | yes b ↦ simp (lt-ltb 2 H.length b) (omega arith)
              | no b ↦ simp (le-ltb 2 H.length (omega arith)) (omega arith)
            ])
        | no d ↦ simp (ne_eqb p 0 d) (omega arith)
      ]

  other-first : first_other H < H.length
  unfolding first_other other_low
  other-first =
      elim (ℕ_discrete p 0) [
        | yes e ↦
            simp (eq-eqb p 0 e)
            (elim (dec_lt 2 H.length) [
              | yes b ↦ simp (lt-ltb 2 H.length b) b
              | no b ↦ simp (le-ltb 2 H.length (omega arith)) (omega arith)
            ])
        | no d ↦ simp (ne_eqb p 0 d) more
      ]

  pub first-made : short_predicted (g (1 - p)) (g p) (g (first_other H)) ≡ high (near (count hi H) (0 + p - 1))
  first-made =
      let s = some-high in
      let e : near (count hi H) (0 + p - 1) ≡ 0 = omega arith in
      short-predicted _ _ _ (omega (arith, small p (omega arith))) (omega (arith, small (first_other H) other-first))
      ∙ sym (ap high e ∙ high-near H more wrap32 g 0 some-high ∙ rw (first-place, first-left, first-right))

-- ---- halves of a side
pub half_high : (S : Side) (m : ℕ) → (half_at S (count lo S + m) ≡ hi) × (place_in S (count lo S + m) ≡ m)
unfolding half_at place_in
half_high S m =
    let k : count lo S + m - count lo S ≡ m = omega arith in
    (simp (le-ltb (count lo S + m) (count lo S) (omega arith)), simp (le-ltb (count lo S + m) (count lo S) (omega arith), k))

-- ---- rows of the plane: a line v of columns lifted is the band's row
module _ (W H : Side) (G : Grid) where
  pub row-band : (d : Half) (m : ℕ) (v : ℕ → ℤ) → ((i : ℕ) → i < W.length → v i ≡ columns_lifted five_three_filter wrap32 H G d m i) →
      (c : ℕ) → c < W.length → line_lifted W v c ≡ subband five_three_filter wrap32 W H G (band_of (half_at W c) d) m (place_in W c)
  unfolding forward_into subband
  row-band d m v e c cw =
      halves-half W (line_forward wrap32 W v) (λ _. pos 0) c cw
      ∙ forward-reads wrap32 W v (columns_lifted five_three_filter wrap32 H G d m) (half_at W c) (place_in W c) (half_in W c cw) (λ i ib _. e i ib)
      ∙ ap₂ (λ (a b : Half). line_forward wrap32 W (columns_lifted five_three_filter wrap32 H G b m) a (place_in W c)) (sym (across-of (half_at W c) d))
      (sym (down-of (half_at W c) d))

  module _ (Z : Grid) (r c : ℕ) where
    pub written_in : r < H.length → c < W.length →
        level_written five_three_filter W H G Z r c ≡ subband five_three_filter wrap32 W H G (band_of (half_at W c) (half_at H r)) (place_in H r) (place_in W c)
    unfolding level_written
    written_in rh cw = simp (within_in W.length H.length r c rh cw)

    pub written_out : within W.length H.length r c ≡ false → level_written five_three_filter W H G Z r c ≡ Z r c
    unfolding level_written
    written_out e = simp e

  -- the row of low number n, and that of high number m
  module _ (Z : Grid) (v : ℕ → ℤ) where
    pub low-written : (n : ℕ) → n < count lo H → ((i : ℕ) → i < W.length → v i ≡ columns_lifted five_three_filter wrap32 H G lo n i) →
        (c : ℕ) → c < W.length → line_lifted W v c ≡ level_written five_three_filter W H G Z n c
    low-written n nb e c cw =
        let k = counts H in
        row-band lo n v e c cw ∙ sym (written_in Z n c (omega arith) cw ∙ rw ((half-low H n nb).0, (half-low H n nb).1))

    pub high-written : (m : ℕ) → m < count hi H → ((i : ℕ) → i < W.length → v i ≡ columns_lifted five_three_filter wrap32 H G hi m i) →
        (c : ℕ) → c < W.length → line_lifted W v c ≡ level_written five_three_filter W H G Z (count lo H + m) c
    high-written m mb e c cw =
        let k = counts H in
        row-band hi m v e c cw ∙ sym (written_in Z (count lo H + m) c (omega arith) cw ∙ rw ((half_high H m).0, (half_high H m).1))

-- ---- row t of the plane stored
module _ (A w t : ℕ) (wide : w ≤ A) (v z z' : ℕ → ℤ) (e : z' ≡ spliced (t * A) w v z) where
  stored_row : (j : ℕ) → z' j ≡ spliced (t * A) w v z j
  stored_row j = ap (λ (f : ℕ → ℤ). f j) e

  pub row_other : (r c : ℕ) → c < A → r ≢ t → cells A z' r c ≡ cells A z r c
  unfolding cells
  row_other r c ca d = stored_row (r * A + c) ∙ put_other A w t v z wide r c ca d

  pub row_here : (Y : ℕ → ℤ) → ((c : ℕ) → c < w → v c ≡ Y c) → ((c : ℕ) → c < A → w ≤ c → cells A z t c ≡ Y c) → (c : ℕ) → c < A → cells A z' t c ≡ Y c
  unfolding cells
  row_here Y inside beside c ca =
      stored_row (t * A + c)
      ∙ elim (dec_lt c w) [
        | yes b ↦ put_in A w t v z wide c b ∙ inside c b
        | no b ↦ put-wide A w t v z wide c (omega arith) ∙ beside c ca (omega arith)
      ]

-- ---- low row n: from the areas z, x and lines y to z₂, x₁ and y₁
module _ (first : Bool) (A : ℕ) (W H : Side) (g z₀ x₀ : ℕ → ℤ) (n : ℕ) (z x y : ℕ → ℤ) (S : SetsDone five_three_filter first A W H g z₀ x₀ n z x y)
    (more : 1 < H.length) (nb : n < count lo H) (wide : W.length ≤ A) where
  abbrev w : ℕ
  w = W.length

  abbrev b : ℕ
  b = H.start % 2

  abbrev G : Grid
  G = source_grid first w g x₀

  abbrev G' : Grid
  G' = source_grid first w g x

  abbrev written : Grid
  written = level_written five_three_filter W H G (cells A z₀)

  -- what is read is as it was at the start
  source_row : (q i : ℕ) → 2 * n ≤ q → G' q i ≡ G q i
  unfolding cells
  source_row q i h =
      let l = counts W in
      let m₁ : n * count lo W ≤ n * w = mul-le-mul_left n (omega arith) in
      let m₂ : n * w ≤ q * w = mul-le-mul_right w (omega arith) in
      let k : x (q * w + i) ≡ x₀ (q * w + i) = S.kept (q * w + i) (omega arith) in
      elim first as (λ t. pick t g x (q * w + i) ≡ pick t g x₀ (q * w + i)) [ true ↦ refl | false ↦ k ]

  other-on : 2 * n ≤ other_low H.length (2 * n + b)
  unfolding other_low
  other-on =
      elim (dec_lt (2 * n + b + 2) H.length) [
        | yes h ↦ simp (lt-ltb (2 * n + b + 2) H.length h) (omega arith)
        | no h ↦ simp (le-ltb (2 * n + b + 2) H.length (omega arith)) (omega arith)
      ]

  module _ (y₁ : ℕ → ℤ)
      (M : ColumnsMade (leb H.length (2 * n + b + 1)) w (G' (2 * n + b)) (G' (2 * n + b + 1)) (G' (other_low H.length (2 * n + b))) y y₁) where
    abbrev D : ℕ → ℕ → ℤ
    D m i = columns_lifted five_three_filter wrap32 H G hi m i

    abbrev o : ℕ
    o = other_low H.length (2 * n + b)

    abbrev last : Bool
    last = leb H.length (2 * n + b + 1)

    high-line : (i : ℕ) → i < w → line_at 0 y₁ i ≡ D (near (count hi H) (n + b)) i
    unfolding columns_lifted
    high-line i iw =
        M.high i iw
        ∙ ap (λ (v : ℤ). high_of last v (G' (2 * n + b) i) (G' (2 * n + b + 1) i) (G' o i)) (S.line i iw)
        ∙ ap (λ (v : ℤ). high_of last (D (near (count hi H) (n + b - 1)) i) v (G' (2 * n + b + 1) i) (G' o i)) (source_row (2 * n + b) i (omega arith))
        ∙ ap (λ (v : ℤ). high_of last (D (near (count hi H) (n + b - 1)) i) (G (2 * n + b) i) v (G' o i)) (source_row (2 * n + b + 1) i (omega arith))
        ∙ ap (λ (v : ℤ). high_of last (D (near (count hi H) (n + b - 1)) i) (G (2 * n + b) i) (G (2 * n + b + 1) i) v) (source_row o i other-on)
        ∙ next-high H more (λ r. G r i) (λ r rh. S.small r i rh iw) n nb

    low-line : (i : ℕ) → i < w → line_at (2 * line_half) y₁ i ≡ columns_lifted five_three_filter wrap32 H G lo n i
    unfolding columns_lifted
    low-line i iw =
        M.low i iw
        ∙ ap (λ (v : ℤ). short_updated (G' (2 * n + b) i) (line_at 0 y i) v) (sym (M.high i iw) ∙ high-line i iw)
        ∙ ap (λ (v : ℤ). short_updated (G' (2 * n + b) i) v (D (near (count hi H) (n + b)) i)) (S.line i iw)
        ∙ ap (λ (v : ℤ). short_updated v (D (near (count hi H) (n + b - 1)) i) (D (near (count hi H) (n + b)) i)) (source_row (2 * n + b) i (omega arith))
        ∙ low-made H more (λ r. G r i) (λ r rh. S.small r i rh iw) n nb

    -- neither line is too large
    small-high : SmallLine w (line_at 0 y₁)
    unfolding columns_lifted
    small-high i iw = rw (high-line i iw) (high_small H more (λ r. G r i) (λ r rh. S.small r i rh iw) (n + b))

    small_low : SmallLine w (line_at (2 * line_half) y₁)
    unfolding columns_lifted
    small_low i iw = rw (low-line i iw) (low_small H more (λ r. G r i) (λ r rh. S.small r i rh iw) n nb)

    module _ (z₁ x₁ z₂ : ℕ → ℤ) (f₁ : SmallLine w (line_at (2 * line_half) y₁) → z₁ ≡ spliced (n * A) w (line_lifted W (line_at (2 * line_half) y₁)) z)
        (e₂ : x₁ ≡ spliced (n * count lo W) (count lo W) (windowed (n * A) (count lo W) z₁) x)
        (f₃ : SmallLine w (line_at 0 y₁) → z₂ ≡ pick (ltb (n + b) (count hi H)) (spliced ((count lo H + (n + b)) * A) w (line_lifted W
        (line_at 0 y₁)) z₁) z₁) where
      e₁ : z₁ ≡ spliced (n * A) w (line_lifted W (line_at (2 * line_half) y₁)) z
      e₁ = f₁ small_low

      e₃ : z₂ ≡ pick (ltb (n + b) (count hi H)) (spliced ((count lo H + (n + b)) * A) w (line_lifted W (line_at 0 y₁)) z₁) z₁
      e₃ = f₃ small-high

      out-wide : (r c : ℕ) → w ≤ c → written r c ≡ cells A z₀ r c
      out-wide r c h = written_out W H G (cells A z₀) r c (within-wide w H.length r c h)

      out-past : (r c : ℕ) → H.length ≤ r → written r c ≡ cells A z₀ r c
      out-past r c h = written_out W H G (cells A z₀) r c (within-past w H.length r c h)

      low-here : (c : ℕ) → c < A → cells A z₁ n c ≡ written n c
      low-here =
          row_here A w n wide _ z z₁ e₁ (written n) (low-written W H G (cells A z₀) (line_at (2 * line_half) y₁) n nb low-line)
          (λ c ca h. S.rest_lows n c (omega arith) nb ca ∙ sym (out-wide n c h))

      low-other : (r c : ℕ) → c < A → r ≢ n → cells A z₁ r c ≡ cells A z r c
      low-other = row_other A w n wide _ z z₁ e₁

      -- the high row, or none
      high-there : n + b < count hi H → z₂ ≡ spliced ((count lo H + (n + b)) * A) w (line_lifted W (line_at 0 y₁)) z₁
      high-there h = e₃ ∙ simp (lt-ltb (n + b) (count hi H) h)

      high-none : count hi H ≤ n + b → z₂ ≡ z₁
      high-none h = e₃ ∙ simp (le-ltb (n + b) (count hi H) h)

      high-here : (c : ℕ) → c < A → cells A z₂ (count lo H + (n + b)) c ≡ written (count lo H + (n + b)) c
      high-here c ca =
          let t = count lo H + (n + b) in
          let k = counts H in
          let still : cells A z₁ t c ≡ cells A z₀ t c = low-other t c ca (omega arith) ∙ S.rest_highs (n + b) c (omega arith) ca in
          elim (dec_lt (n + b) (count hi H)) [
            | yes h ↦
                let e : near (count hi H) (n + b) ≡ n + b = omega arith in
                row_here A w t wide _ z₁ z₂ (high-there h) (written t)
                (high-written W H G (cells A z₀) (line_at 0 y₁) (n + b) h (λ i iw. high-line i iw ∙ ap (λ (m : ℕ). D m i) e))
                (λ d da wd. low-other t d da (omega arith) ∙ S.rest_highs (n + b) d (omega arith) da ∙ sym (out-wide t d wd)) c ca
            | no h ↦ ap (λ (u : ℕ → ℤ). cells A u t c) (high-none (omega arith)) ∙ still ∙ sym (out-past t c (omega arith))
          ]

      high-other : (r c : ℕ) → c < A → r ≢ count lo H + (n + b) → cells A z₂ r c ≡ cells A z₁ r c
      high-other r c ca d =
          elim (dec_lt (n + b) (count hi H)) [
            | yes h ↦ row_other A w (count lo H + (n + b)) wide _ z₁ z₂ (high-there h) r c ca d
            | no h ↦ ap (λ (u : ℕ → ℤ). cells A u r c) (high-none (omega arith))
          ]

      -- the low-low numbers
      corner-here : (c : ℕ) → c < count lo W → x₁ (n * count lo W + c) ≡ subband five_three_filter wrap32 W H G LL n c
      unfolding cells band_of
      corner-here c cb =
          let l = counts W in
          let k = counts H in
          ap (λ (f : ℕ → ℤ). f (n * count lo W + c)) e₂
          ∙ put_in (count lo W) (count lo W) n _ x (omega arith) c cb
          ∙ window-in (n * A) (count lo W) z₁ c cb
          ∙ low-here c (omega arith)
          ∙ written_in W H G (cells A z₀) n c (omega arith) (omega arith)
          ∙ rw ((half-low W c cb).0, (half-low H n nb).0, (half-low W c cb).1, (half-low H n nb).1)

      corner-other : (r c : ℕ) → c < count lo W → r ≢ n → x₁ (r * count lo W + c) ≡ x (r * count lo W + c)
      corner-other r c cb d =
          ap (λ (f : ℕ → ℤ). f (r * count lo W + c)) e₂ ∙ put_other (count lo W) (count lo W) n _ x (omega arith) r c cb d

      pub set-done : SetsDone five_three_filter first A W H g z₀ x₀ (n + 1) z₂ x₁ y₁
      set-done =
          record {
            small = S.small;
            line = λ i iw. let t : n + 1 + b - 1 ≡ n + b = omega arith in high-line i iw ∙ ap (λ (m : ℕ). D (near (count hi H) m) i) (sym t);
            lows = λ r c h ca. high-other r c ca (omega arith) ∙ elim (ℕ_discrete r n) [
              | yes e ↦ rw e (low-here c ca)
              | no d ↦ low-other r c ca d ∙ S.lows r c (omega (arith, d)) ca
            ];
            highs = λ r c h ca. elim (ℕ_discrete r (n + b)) [
              | yes e ↦ rw e (high-here c ca)
              | no d ↦ high-other (count lo H + r) c ca (λ s. d (omega arith)) ∙ low-other (count lo H + r) c ca (omega arith)
                  ∙ S.highs r c (omega (arith, d)) ca
            ];
            rest_lows = λ r c h rl ca. high-other r c ca (omega arith) ∙ low-other r c ca (omega arith) ∙ S.rest_lows r c (omega arith) rl ca;
            rest_highs = λ r c h ca. high-other (count lo H + r) c ca (omega arith) ∙ low-other (count lo H + r) c ca (omega arith)
                ∙ S.rest_highs r c (omega arith) ca;
            made = λ r c h cb. elim (ℕ_discrete r n) [
              | yes e ↦ rw e (corner-here c cb)
              | no d ↦ corner-other r c cb d ∙ S.made r c (omega (arith, d)) cb
            ];
            kept = λ j h. ap (λ (f : ℕ → ℤ). f j) e₂ ∙ splice-past (n * count lo W) (count lo W) _ x j (omega arith) ∙ S.kept j (omega arith);
          }

-- ---- all sets
pub sets_end : (first : Bool) (A : ℕ) (W H : Side) (g z₀ x₀ z x y : ℕ → ℤ) (n : ℕ) → n ≡ count lo H →
    SetsDone five_three_filter first A W H g z₀ x₀ n z x y → LevelSwept five_three_filter first A W H g z₀ x₀ z x
unfolding count
sets_end first A W H g z₀ x₀ z x y n en S =
    record {
      cells_are = λ r c ca.
          elim (dec_lt r (count lo H)) [
            | yes h ↦ S.lows r c (omega arith) ca
            | no h ↦
                let e : count lo H + (r - count lo H) ≡ r = omega arith in
                elim (dec_lt (r - count lo H) (n + H.start % 2)) [
                  | yes k ↦ rw e at (S.highs (r - count lo H) c k ca)
                  | no k ↦
                      (rw e at (S.rest_highs (r - count lo H) c (omega arith) ca))
                      ∙ sym (written_out W H _ (cells A z₀) r c (within-past W.length H.length r c (omega arith)))
                ]
          ];
      made = λ r c h cb. S.made r c (omega arith) cb;
      kept = λ j h. S.kept j (rw en h);
    }

-- ---- the first high row, z₁ being the plane with it where it comes first
module _ (first : Bool) (A : ℕ) (W H : Side) (g z₀ x₀ y y₁ : ℕ → ℤ) (more : 1 < H.length) (wide : W.length ≤ A) (small : Small first W H g x₀)
    (M : ColumnsMade false W.length (source_grid first W.length g x₀ (H.start % 2)) (source_grid first W.length g x₀ (1 - H.start % 2))
    (source_grid first W.length g x₀ (first_other H)) y y₁) where
  abbrev G₁ : Grid
  G₁ = source_grid first W.length g x₀

  first-line : (i : ℕ) → i < W.length → line_at 0 y₁ i ≡ columns_lifted five_three_filter wrap32 H G₁ hi (near (count hi H) (0 + H.start % 2 - 1)) i
  unfolding columns_lifted
  first-line i iw = M.high i iw ∙ first-made H more (λ r. G₁ r i) (λ r rh. small r i rh iw)

  first_small : SmallLine W.length (line_at 0 y₁)
  unfolding columns_lifted
  first_small i iw = rw (first-line i iw) (high_small H more (λ r. G₁ r i) (λ r rh. small r i rh iw) (0 + H.start % 2 - 1))

  pub first-low : H.start % 2 ≡ 0 → SetsDone five_three_filter first A W H g z₀ x₀ 0 z₀ x₀ y₁
  first-low e =
      record {
        small = small;
        line = first-line;
        lows = λ r c h ca. absurd (omega arith);
        highs = λ r c h ca. absurd (omega arith);
        rest_lows = λ r c h rl ca. refl;
        rest_highs = λ r c h ca. refl;
        made = λ r c h cb. absurd (omega arith);
        kept = λ j h. refl;
      }

  pub first-high : (z₁ : ℕ → ℤ) → (H.start % 2 ≡ 0 → ⊥) →
      (SmallLine W.length (line_at 0 y₁) →
      z₁ ≡ pick (ltb 0 (count hi H)) (spliced ((count lo H + 0) * A) W.length (line_lifted W (line_at 0 y₁)) z₀) z₀) →
      SetsDone five_three_filter first A W H g z₀ x₀ 0 z₁ x₀ y₁
  unfolding count
  first-high z₁ d is =
      let w = W.length in
      let t = count lo H + 0 in
      let one : H.start % 2 ≡ 1 = omega (arith, d) in
      let some : 0 < count hi H = omega arith in
      let e : z₁ ≡ spliced (t * A) w (line_lifted W (line_at 0 y₁)) z₀ = is first_small ∙ simp (lt-ltb 0 (count hi H) some) in
      let k : near (count hi H) (0 + H.start % 2 - 1) ≡ 0 = omega arith in
      let here : (c : ℕ) → c < A → cells A z₁ t c ≡ level_written five_three_filter W H G₁ (cells A z₀) t c =
      row_here A w t wide _ z₀ z₁ e (level_written five_three_filter W H G₁ (cells A z₀) t)
      (high-written W H G₁ (cells A z₀) (line_at 0 y₁) 0 some
      (λ i iw. first-line i iw ∙ ap (λ (m : ℕ). columns_lifted five_three_filter wrap32 H G₁ hi m i) k))
      (λ c ca h. sym (written_out W H G₁ (cells A z₀) t c (within-wide w H.length t c h))) in
      let other : (r c : ℕ) → c < A → r ≢ t → cells A z₁ r c ≡ cells A z₀ r c = row_other A w t wide _ z₀ z₁ e in
      record {
        small = small;
        line = first-line;
        lows = λ r c h ca. absurd (omega arith);
        highs = λ r c h ca. let z : r ≡ 0 = omega arith in rw z (here c ca);
        rest_lows = λ r c h rl ca. other r c ca (omega arith);
        rest_highs = λ r c h ca. other (count lo H + r) c ca (omega arith);
        made = λ r c h cb. absurd (omega arith);
        kept = λ j h. refl;
      }
