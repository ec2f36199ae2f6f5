-- A level of the window lifted by itself: its bands are those of the window, and where they are right those of the map. Assumes nothing.
use mathlib.Core.Path.{◌≡◌, sym, ap, ◌∙◌}
use mathlib.Core.Bool.{true}
use Prim.Native.Nat.{ℕ, ◌+◌, ◌-◌, ◌*◌, ◌/◌, ◌≤◌, ◌<◌}
use native.Mathlib.Omega.{arith}
use lib.IntN.{ℤ}
use Rattle.numbers.specs.Word.{wrap32}
use Rattle.lifting.specs.Line.{Half, lo, hi}
use Rattle.lifting.specs.Grid.{side, place, count, line_forward}
use Rattle.lifting.specs.GridHalves.{in_halves, forward_into}
use Rattle.lifting.specs.FiveThree.{five_three_filter}
use Rattle.lifting.proofs.GridLaws.{counts, halves-low, halves-high, place-in}
use Rattle.lifting.proofs.GridReads.{forward-reads}
use Rattle.wavelet.specs.Bands.{Grid, across, down, band_of, columns_lifted, subband}
use Rattle.wavelet.specs.Plane.{flat}
use Rattle.wavelet.proofs.GridLaws.{flat-at}
use Rattle.wavelet.proofs.LevelTheory.{across-of, down-of}
use Rattle.map_levels.specs.Rowwise.{cut}
use Rattle.map_levels.proofs.RowwiseLaws.{cut_in}
use Rattle.map_levels.proofs.GridSweep.{mapped_in}
use Rattle.map_levels.specs.Passes.{rows_mapped}
use Rattle.strokes.specs.declared.direction.Direction.{Direction}
use Rattle.strokes.specs.Local.{Cut, Sound, used_in, columns_done, row_done, rows_done, level_done}
use Rattle.strokes.proofs.WindowLaws.{line-window}
use Rattle.strokes.proofs.ColumnTurns.{high-done, low-done}

-- ---- the window's own bands
module _ (w h : ℕ) (X : Grid) where
  -- row r of half v, after the columns are lifted
  column-row : (v : Half) (n j : ℕ) → n < count v (side 0 h) → j < w →
      columns_done w h X (place (side 0 h) v n) j ≡ columns_lifted five_three_filter wrap32 (side 0 h) X v n j
  unfolding columns_lifted place count
  column-row lo n j b q = let k : 2 * n + 0 ≡ 2 * n = omega arith in ap (λ (r : ℕ). columns_done w h X r j) k ∙ low-done w h X n j (omega arith) q
  column-row hi n j b q = high-done w h X n j (omega arith) q

  -- where number m of a half stands in a row
  abbrev pub column : Half → ℕ → ℕ
  column lo m = m
  column hi m = count lo (side 0 w) + m

  column-in : (a : Half) (m : ℕ) → m < count a (side 0 w) → column a m < w
  column-in lo m b = let k = counts (side 0 w) in omega arith
  column-in hi m b = let k = counts (side 0 w) in omega arith

  halves-value : (a : Half) (m : ℕ) (p : Half → ℕ → ℤ) (z : ℕ → ℤ) → m < count a (side 0 w) → in_halves (side 0 w) p z (column a m) ≡ p a m
  halves-value lo m p z b = halves-low (side 0 w) p z m b
  halves-value hi m p z b =
      let k = counts (side 0 w) in
      let e : count lo (side 0 w) + m - count lo (side 0 w) ≡ m = omega arith in
      halves-high (side 0 w) p z (count lo (side 0 w) + m) (omega arith) (omega arith) ∙ ap (p hi) e

  row-cell : (a v : Half) (n m : ℕ) → n < count v (side 0 h) → m < count a (side 0 w) →
      rows_mapped (row_done w) w h (columns_done w h X) (place (side 0 h) v n) (column a m) ≡
      subband five_three_filter wrap32 (side 0 w) (side 0 h) X (band_of a v) n m
  unfolding forward_into subband
  row-cell a v n m p q =
      let r = place (side 0 h) v n in
      let y = cut w (columns_done w h X r) in
      mapped_in _ w h (columns_done w h X) r (column a m) (place-in (side 0 h) v n p) (column-in a m q)
      ∙ halves-value a m (line_forward wrap32 (side 0 w) y) y q
      ∙ forward-reads wrap32 (side 0 w) y (columns_lifted five_three_filter wrap32 (side 0 h) X v n) a m q
      (λ j b _. cut_in w (columns_done w h X r) j b ∙ column-row v n j p b)
      ∙ sym (ap (λ (d : Half). line_forward wrap32 (side 0 w) (columns_lifted five_three_filter wrap32 (side 0 h) X d n) (across (band_of a v)) m) (down-of a v)
      ∙ ap (λ (d : Half). line_forward wrap32 (side 0 w) (columns_lifted five_three_filter wrap32 (side 0 h) X v n) d m) (across-of a v))

-- in the rows that are used
pub level-cell : (w : ℕ) (e : Direction) (X : Grid) (a v : Half) (n m : ℕ) → used_in e (place (side 0 e.size) v n) ≡ true →
    n < count v (side 0 e.size) → m < count a (side 0 w) →
    level_done w e X (place (side 0 e.size) v n) (column w e.size X a m) ≡ subband five_three_filter wrap32 (side 0 w) (side 0 e.size) X (band_of a v) n m
unfolding level_done rows_done
level-cell w e X a v n m used p q = simp used (row-cell w e.size X a v n m p q)

-- ---- and the map's
module _ (u v N a t w : ℕ) (C : Cut u v N a t w) (u' v' M b s h : ℕ) (D : Cut u' v' M b s h) (X G : Grid)
    (e : (r c : ℕ) → Sound u' v' h r → Sound u v w c → X r c ≡ G (b + r) (a + c)) where
  pub band-window : (x y : Half) (n m : ℕ) → n < count y (side 0 h) → m < count x (side 0 w) → v' ≤ n → n + u' < (h + 1) / 2 → v ≤ m → m + u < (w + 1) / 2 →
      subband five_three_filter wrap32 (side 0 w) (side 0 h) X (band_of x y) n m ≡ subband five_three_filter wrap32 (side 0 N) (side 0 M) G (band_of x y)
      (s + n) (t + m)
  unfolding subband columns_lifted
  band-window x y n m p q l r l' r' =
      line-window wrap32 u v N a t w C (columns_lifted five_three_filter wrap32 (side 0 M) G (down (band_of x y)) (s + n))
      (columns_lifted five_three_filter wrap32 (side 0 h) X (down (band_of x y)) n)
      (λ j sj. line-window wrap32 u' v' M b s h D (λ i. G i (a + j)) (λ i. X i j) (λ i si. e i j si sj) (down (band_of x y)) n (rw (down-of x y) p) l r)
      (across (band_of x y)) m (rw (across-of x y) q) l' r'

-- in memory
module _ (u v N a t w : ℕ) (C : Cut u v N a t w) (u' v' M b s : ℕ) (rows : Direction) (D : Cut u' v' M b s rows.size) (X G : Grid)
    (e : (r c : ℕ) → Sound u' v' rows.size r → Sound u v w c → X r c ≡ G (b + r) (a + c)) where
  abbrev h : ℕ
  h = rows.size

  pub window-at : (S : ℕ) (x y : Half) (n m : ℕ) → used_in rows (place (side 0 h) y n) ≡ true → w ≤ S → n < count y (side 0 h) → m < count x (side 0 w) →
      v' ≤ n → n + u' < (h + 1) / 2 → v ≤ m → m + u < (w + 1) / 2 →
      flat S (level_done w rows X) (place (side 0 h) y n * S + column w h X x m) ≡ subband five_three_filter wrap32 (side 0 N) (side 0 M) G (band_of x y) (s + n)
      (t + m)
  window-at S x y n m used wide p q l r l' r' =
      let k = column-in w h X x m q in
      flat-at S (level_done w rows X) (place (side 0 h) y n) (column w h X x m) (omega arith) ∙ level-cell w rows X x y n m used p q
      ∙ band-window u v N a t w C u' v' M b s h D X G e x y n m p q l r l' r'
