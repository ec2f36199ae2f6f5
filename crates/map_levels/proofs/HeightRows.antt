-- The rows of heights loaded and stored: a turn of each loop. Assumes nothing.
use mathlib.Core.Path.{◌≡◌, refl, sym, ap, ◌∙◌}
use mathlib.Core.List.{List}
use mathlib.Core.Bool.{Bool, true, false}
use Prim.Native.Nat.{ℕ, ◌+◌, ◌-◌, ◌*◌, ◌≤◌, ◌<◌}
use native.Mathlib.Decide.{dec_lt, ℕ_discrete}
use native.Mathlib.Omega.{arith}
use lib.IntN.{ℤ, pos}
use lib.ListN.{length, length-map}
use borrow.Rule.Slice.PartMut.{mid_of, put_mid}
use Rattle.lifting.proofs.FiveThreeFilter.{five-three-laws}
use Rattle.numbers.specs.Signal.{at}
use Rattle.numbers.proofs.Parts.{length-mid, at_mid}
use Rattle.lifting.specs.Line.{Half, lo}
use Rattle.lifting.specs.Halves.{fronted}
use Rattle.lifting.specs.Grid.{Side, side, count, joined}
use Rattle.lifting.specs.GridHalves.{halves_of, in_halves}
use Rattle.lifting.proofs.GridLaws.{halves-low, halves-high}
use Rattle.lifting.specs.FiveThree.{five_three_filter}
use Rattle.wavelet.specs.Limits.{max_sample}
use Rattle.wavelet.specs.Bands.{Grid}
use Rattle.wavelet.specs.Plane.{cells, flat}
use Rattle.wavelet.specs.Maps.{every, every_cell, value_fits}
use Rattle.map_levels.specs.Rowwise.{heights_at, cut, between}
use Rattle.map_levels.specs.Passes.{Rows, KeptFrom, rows_mapped, rows_returned}
use Rattle.map_levels.specs.LevelPasses.{Finished}
use Rattle.map_levels.proofs.RowwiseLaws.{window-cut, cut_in, cut-interleaved}
use Rattle.wavelet.proofs.MapTheorems.{every-each, each-every, every-same}
use Rattle.areas.specs.Areas.{wholes}
use Rattle.areas.proofs.AreaLaws.{front_at}
use Rattle.areas.proofs.HeightLaws.{wholes-at}
use Rattle.map_levels.proofs.HeightLaws.{wholes-mid, wholes-put}
use Rattle.map_levels.proofs.GridSweep.{Passed, row_room, within_in, within-past, within-wide, pass-start, pass-room, pass-end, pass_kept, row-length}
use Rattle.map_levels.proofs.GridSweep.{lent_row, part-turn, map-turn, mapped-past}
use Rattle.map_levels.proofs.TestLaws.{false-true, not-every, height-fits}
use Rattle.map_levels.proofs.CellLaws.{mapped_out, returned-out}

-- ---- a row lent as `&`: its length, and its numbers
module _ (s w h i k : ℕ) (e : k ≡ w) (lt : i < h) where
  pub numbers-length : (x : List ℤ) → Rows (length x) s w h → length (mid_of (i * s) k x) ≡ w
  numbers-length x g = let room = row_room (length x) s w h i g lt in length-mid (i * s) k x (omega arith) ∙ e

  pub numbers-row : (x : List ℤ) → at (mid_of (i * s) k x) ≡ cut w (cells s (at x) i)
  unfolding cells
  numbers-row x = at_mid (i * s) k x ∙ rw e (window-cut (i * s) w (at x) (cells s (at x) i) (λ c q. refl))

  pub heights-length : (g : List ℕ) → Rows (length g) s w h → length (mid_of (i * s) k g) ≡ w
  heights-length g r =
      let same = length-map g pos in
      sym (length-map (mid_of (i * s) k g) pos) ∙ ap length (wholes-mid (i * s) k g) ∙ numbers-length (wholes g) (rw same r)

  pub heights-row : (g : List ℕ) → heights_at (mid_of (i * s) k g) ≡ cut w (cells s (heights_at g) i)
  heights-row g =
      sym (wholes-at (mid_of (i * s) k g)) ∙ ap at (wholes-mid (i * s) k g) ∙ numbers-row (wholes g) ∙ rw (wholes-at g)

-- ---- loaded
-- within the halves, memory does not count
pub halves-inside : (S : Side) (p : Half → ℕ → ℤ) (y z : ℕ → ℤ) (c : ℕ) → c < S.length → in_halves S p y c ≡ in_halves S p z c
halves-inside S p y z c h =
    elim (dec_lt c (count lo S)) [
      | yes a ↦ halves-low S p y c a ∙ sym (halves-low S p z c a)
      | no d ↦ halves-high S p y c (omega arith) h ∙ sym (halves-high S p z c (omega arith) h)
    ]

-- ---- stored
-- heights swept as whole numbers: their room, a row's length, and their length
module _ {s w h : ℕ} {Y : Grid} {l₀ : List ℤ} {i : ℕ} (g : List ℕ) (p : Passed s w h Y l₀ i (wholes g)) where
  pub swept-room : i < h → i * s + w ≤ length g
  swept-room lt = let room = pass-room p lt in let same = length-map g pos in omega arith

  pub swept-length : (k : ℕ) → k ≡ w → i < h → length (mid_of (i * s) k g) ≡ w
  swept-length k e lt =
      sym (length-map (mid_of (i * s) k g) pos) ∙ ap length (wholes-mid (i * s) k g) ∙ row-length s w h Y l₀ i k (wholes g) e lt p

  pub swept-size : (g₀ : List ℕ) → l₀ ≡ wholes g₀ → length g ≡ length g₀
  swept-size g₀ e = sym (length-map g pos) ∙ p.size ∙ ap length e ∙ length-map g₀ pos

-- row i, lent as a part of n numbers y, its numbers being those of X: the test
pub row-fits : (w i n : ℕ) (X : Grid) (y : ℕ → ℤ) → n ≡ w → y ≡ cut w (X i) →
    every n (λ j. between (pos 0) (pos max_sample) (y j)) ≡ every w (λ c. value_fits five_three_filter 0 (X i c))
row-fits w i n X y en ey =
    ap (λ (m : ℕ). every m (λ j. between (pos 0) (pos max_sample) (y j))) en
    ∙ every-same w _ _ (λ j q. ap (between (pos 0) (pos max_sample)) (ap (λ (f : ℕ → ℤ). f j) ey ∙ cut_in w (X i) j q) ∙ height-fits five_three_filter
    five-three-laws (X i j))

pub row-heights : (n : ℕ) (y : ℕ → ℤ) → every n (λ j. between (pos 0) (pos max_sample) (y j)) ≡ true → every n (λ j. value_fits five_three_filter 0 (y j)) ≡ true
row-heights n y e = sym (every-same n _ _ (λ j q. height-fits five_three_filter five-three-laws (y j))) ∙ e

-- and its heights z
pub store-turn : (W : Side) (h : ℕ) (X : Grid) (g₀ : List ℕ) (i k n : ℕ) (y : ℕ → ℤ) (g z : List ℕ) → k ≡ W.length → i < h →
    n ≡ W.length → y ≡ cut W.length (X i) → length z ≡ length (mid_of (i * W.length) k g) →
    heights_at z ≡ fronted n (joined (side W.start n) (halves_of (side W.start n) y)) (heights_at (mid_of (i * W.length) k g)) →
    Passed W.length W.length h (rows_returned W h X (cells W.length (at (wholes g₀)))) (wholes g₀) i (wholes g) →
    Passed W.length W.length h (rows_returned W h X (cells W.length (at (wholes g₀)))) (wholes g₀) (i + 1) (wholes (put_mid (i * W.length) k g z))
unfolding rows_returned
store-turn W h X g₀ i k n y g z e lt en ey ez is p =
    let w = W.length in
    let u = heights_at (mid_of (i * w) k g) in
    let is' : at (wholes z) ≡ fronted w (joined W (halves_of W (X i))) u = wholes-at z ∙ (rw (en, ey) at is) ∙ cut-interleaved W (X i) u in
    let ez' : length (wholes z) ≡ length (mid_of (i * w) k (wholes g)) =
    length-map z pos ∙ ez ∙ sym (length-map (mid_of (i * w) k g) pos) ∙ ap length (wholes-mid (i * w) k g) in
    rw (wholes-put (i * w) k g z)
    (part-turn w w h _ (wholes g₀) i k (wholes g) (wholes z) e lt ez'
    (λ c q. ap (λ (f : ℕ → ℤ). f c) is' ∙ front_at w (joined W (halves_of W (X i))) u c q ∙ simp (within_in w h i c lt q))
    (λ c q. simp (within-wide w h i c q))
    p)

pub store-end : (W : Side) (h : ℕ) (X : Grid) (g₀ : List ℕ) (i : ℕ) (g : List ℕ) →
    Passed W.length W.length h (rows_returned W h X (cells W.length (at (wholes g₀)))) (wholes g₀) i (wholes g) → h ≤ i →
    heights_at g ≡ flat W.length (rows_returned W h X (cells W.length (heights_at g₀)))
unfolding rows_returned
store-end W h X g₀ i g p le =
    let w = W.length in
    sym (wholes-at g)
    ∙ pass-end p (λ r c q. simp (within-past w h r c (omega arith)))
    ∙ ap (λ (x : ℕ → ℤ). flat w (rows_returned W h X (cells w x))) (wholes-at g₀)

-- ---- the loop that tests, stores and clears: work₀ and heights₀ are the areas at its start
pub record Finishing (W : Side) (h : ℕ) (l₀ : List ℤ) (g₀ : List ℕ) (i : ℕ) (l : List ℤ) (g : List ℕ) : Type 0 where
  pub most : i ≤ h
  pub rows : Passed W.length W.length h (rows_mapped (fronted W.length (λ _. pos 0)) W.length h (cells W.length (at l₀))) l₀ i l
  pub heights : Passed W.length W.length h (rows_returned W h (cells W.length (at l₀)) (cells W.length (at (wholes g₀)))) (wholes g₀) i (wholes g)
  pub tested : every i (λ r. every W.length (λ c. value_fits five_three_filter 0 (cells W.length (at l₀) r c))) ≡ true

module _ (W : Side) (h : ℕ) (l₀ : List ℤ) (g₀ : List ℕ) where
  abbrev w : ℕ
  w = W.length

  pub finish-start : Rows (length l₀) w w h → Rows (length g₀) w w h → Finishing W h l₀ g₀ 0 l₀ g₀
  finish-start R S =
      let same = length-map g₀ pos in
      record {
        most = omega arith;
        rows = pass-start w w h _ l₀ 0 R (λ r c lt. absurd (omega arith));
        heights = pass-start w w h _ (wholes g₀) 0 (rw same S) (λ r c lt. absurd (omega arith));
        tested = each-every 0 _ (λ j q. absurd (omega arith));
      }

  module _ (i : ℕ) (l : List ℤ) (g : List ℕ) (f : Finishing W h l₀ g₀ i l g) where
    pub finish-kept : KeptFrom ((h - 1) * w + w) (at l₀) (at l)
    finish-kept = pass_kept f.rows (λ r c o. mapped_out w h (cells w (at l₀)) r c o (fronted w (λ _. pos 0)))

    pub finish-kept-heights : KeptFrom ((h - 1) * w + w) (heights_at g₀) (heights_at g)
    finish-kept-heights =
        let k = pass_kept f.heights (λ r c o. returned-out W h (cells w (at l₀)) (cells w (at (wholes g₀))) r c o) in
        record { kept = λ j b. ap (λ (x : ℕ → ℤ). x j) (sym (wholes-at g)) ∙ k.kept j b ∙ ap (λ (x : ℕ → ℤ). x j) (wholes-at g₀) }

    -- the test of row i, lent as a part of k numbers
    module _ (k : ℕ) (e : k ≡ w) (lt : i < h) (ok : Bool)
        (is : ok ≡ every (length (mid_of (i * w) k l)) (λ j. between (pos 0) (pos max_sample) (at (mid_of (i * w) k l) j))) where
      row-test : ok ≡ every w (λ c. value_fits five_three_filter 0 (cells w (at l₀) i c))
      row-test = is ∙ row-fits w i _ (cells w (at l₀)) _ (row-length w w h _ l₀ i k l e lt f.rows) (lent_row w w h _ l₀ i k l e f.rows)

      pub finish-no : ok ≡ false → Finished false W h (at l₀) (at l) (heights_at g₀) (heights_at g)
      unfolding every_cell
      finish-no no' =
          record {
            answer = sym (not-every h _ i lt (sym row-test ∙ no'));
            heights = λ t. absurd (false-true t);
            cleared = λ t. absurd (false-true t);
            kept = finish-kept;
            kept_heights = finish-kept-heights;
          }

      pub finish-turn : (z : List ℤ) (v : List ℕ) → ok ≡ true → length z ≡ length (mid_of (i * w) k l) → length v ≡ length (mid_of (i * w) k g) →
          heights_at v ≡ fronted (length (mid_of (i * w) k l))
          (joined (side W.start (length (mid_of (i * w) k l))) (halves_of (side W.start (length (mid_of (i * w) k l))) (at (mid_of (i * w) k l))))
          (heights_at (mid_of (i * w) k g)) → at z ≡ fronted (length (mid_of (i * w) k l)) (λ _. pos 0) (at (mid_of (i * w) k l)) →
          Finishing W h l₀ g₀ (i + 1) (put_mid (i * w) k l z) (put_mid (i * w) k g v)
      finish-turn z v yes' ez ev hs cs =
          record {
            most = omega arith;
            rows = map-turn (λ n. fronted n (λ _. pos 0)) w w h l₀ i k l z e lt ez cs f.rows;
            heights = store-turn W h (cells w (at l₀)) g₀ i k _ _ g v e lt (row-length w w h _ l₀ i k l e lt f.rows) (lent_row w w h _ l₀ i k l e f.rows)
                ev hs f.heights;
            tested = each-every (i + 1) _
                (λ j q. elim (ℕ_discrete j i) [ yes m ↦ rw m (sym row-test ∙ yes') | no m ↦ every-each i _ f.tested j (omega arith) ]);
          }

    pub finish-yes : h ≤ i → Finished true W h (at l₀) (at l) (heights_at g₀) (heights_at g)
    unfolding every_cell
    finish-yes le =
        let m : h ≡ i = omega (arith, f.most) in
        record {
          answer = sym (each-every h _ (λ j q. every-each i _ f.tested j (omega arith)));
          heights = λ _. store-end W h (cells w (at l₀)) g₀ i g f.heights le;
          cleared = λ _. pass-end f.rows (λ r c q. mapped-past (fronted w (λ _. pos 0)) w h (cells w (at l₀)) r c (omega arith));
          kept = finish-kept;
          kept_heights = finish-kept-heights;
        }
