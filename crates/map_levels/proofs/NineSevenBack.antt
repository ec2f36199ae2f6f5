-- A level back by the 9/7, pass by pass: the plane's rows fetched, all rows lifted back, then all columns. Assumes nothing.
use mathlib.Core.Path.{◌≡◌, refl, sym, ap, ◌∙◌, fun_ext}
use mathlib.Core.Bool.{Bool, true, false}
use mathlib.Core.List.{List}
use Prim.Native.Nat.{ℕ, ◌+◌, ◌-◌, ◌*◌, ◌/◌, ◌%◌, ◌≤◌, ◌<◌}
use native.Mathlib.Nat.{div-add-mod'}
use native.Mathlib.Omega.{arith}
use lib.IntN.{ℤ}
use lib.Dec.{eqb}
use lib.ListN.{length}
use borrow.Rule.Slice.PartMut.{mid_of, put_mid}
use Rattle.numbers.specs.Signal.{at, pick, both, windowed}
use Rattle.numbers.specs.Tests.{every}
use Rattle.numbers.proofs.Parts.{window-in}
use Rattle.numbers.proofs.TestLaws.{every-same, every-each, each-every}
use Rattle.numbers.specs.Word.{wrap32}
use Rattle.lifting.specs.Line.{lo}
use Rattle.lifting.specs.Grid.{Side, side, count, deinterleaved, single_high, is_even}
use Rattle.lifting.specs.GridHalves.{has_line_in}
use Rattle.lifting.specs.Filter.{line_back_by}
use Rattle.lifting.proofs.SingleLaws.{single-high, has_first, has-none}
use Rattle.lifting.proofs.RowLaws.{row-fits}
use Rattle.nine_seven.specs.NineSeven.{line_back}
use Rattle.nine_seven.specs.Memory.{unlifted_in_place}
use Rattle.nine_seven.specs.NineSevenFilter.{nine_seven_filter}
use Rattle.nine_seven_sweep.specs.Columns.{column, columns_by, columns_back, columns_have, columns_fit}
use Rattle.areas.proofs.AreaLaws.{did}
use Rattle.wavelet.specs.Bands.{Grid}
use Rattle.wavelet.specs.Plane.{cells, flat}
use Rattle.wavelet.proofs.GridLaws.{cells-flat}
use Rattle.map_levels.specs.Rowwise.{cut}
use Rattle.map_levels.specs.Passes.{Rows, KeptFrom, within, is_low, plane_row, rows_mapped, rows_fetched}
use Rattle.map_levels.specs.ByFilter.{unlifted_by, columns_unlifted_by, level_unlifted_by, row_copied}
use Rattle.map_levels.specs.LevelPasses.{rows_even, columns_even, LevelMadeBy}
use Rattle.map_levels.proofs.GridSweep.{RowSwept, Passed, row-length, lent_row, map-turn, within-wide}
use Rattle.map_levels.proofs.RowwiseLaws.{window-cut}
use Rattle.map_levels.proofs.CellLaws.{flat-same, fetched-new, fetched-made, fetched-out, mapped_out, kept-flat, kept_then, placed-in}
use Rattle.map_levels.proofs.LevelCalls.{mapped-same, copy-turn, made-few}
use Rattle.map_levels.proofs.TestLaws.{false-true}

-- the rows of the plane are lines' where the values that are halved are even
row_has : (A : ℕ) (W : Side) (h l : ℕ) (p : ℕ → ℤ) → l < h → rows_even W h (cells A p) ≡ true → has_line_in W (windowed (l * A) W.length p) ≡ true
unfolding rows_even cells
row_has A W h l p b e =
    elim (single_high W) as (λ t. single_high W ≡ t → has_line_in W (windowed (l * A) W.length p) ≡ true) [
      | true ↦ λ o.
          let t = single-high W o in
          let all : every h (λ r. is_even (p (r * A + 0))) ≡ true = simp o at e in
          has_first W _ o ∙ ap is_even (window-in (l * A) W.length p 0 (omega arith)) ∙ every-each h _ all l b
      | false ↦ λ o. has-none W _ o
    ] refl

-- ---- the plane's rows fetched
pub copied-turn : (A s from w : ℕ) (H : Side) (p x₀ x x' : ℕ → ℤ) (i : ℕ) → w ≤ s → from ≤ w → i < H.length → x' ≡ row_copied from w H A s p i x →
    RowSwept s (rows_fetched from w H (cells A p) (cells s x₀)) (cells s x₀) i x →
    RowSwept s (rows_fetched from w H (cells A p) (cells s x₀)) (cells s x₀) (i + 1) x'
unfolding cells
copied-turn A s from w H p x₀ x x' i ws fw ih is sw =
    let m = pick (is_low H i) from 0 in
    let l = plane_row H i in
    let few = made-few H i from w fw in
    copy-turn s w m (w - m) i (i * s + m) _ _ (windowed (l * A + m) (w - m) p) x x' ws (omega arith) refl is
    (λ c b.
    let k : l * A + m + c ≡ l * A + (m + c) = omega arith in
    window-in (l * A + m) (w - m) p c b ∙ ap p k ∙ sym (fetched-new from w H _ _ i (m + c) ih (omega arith) (omega arith)))
    (λ c b. fetched-made from w H _ _ i c ih (omega arith) b)
    (λ c b. fetched-out w H _ i c (within-wide w H.length i c b) from _)
    sw

-- ---- all rows lifted back
pub unlifted-turn : (s x w h : ℕ) (l₀ : List ℤ) (i k : ℕ) (l z : List ℤ) → rows_even (side x w) h (cells s (at l₀)) ≡ true → k ≡ w → i < h →
    length z ≡ length (mid_of (i * s) k l) →
    at z ≡ pick (has_line_in (side x (length (mid_of (i * s) k l))) (at (mid_of (i * s) k l)))
    (unlifted_in_place (side x (length (mid_of (i * s) k l))) (at (mid_of (i * s) k l))) (at (mid_of (i * s) k l)) →
    Passed s w h (rows_mapped (unlifted_in_place (side x w)) w h (cells s (at l₀))) l₀ i l →
    Passed s w h (rows_mapped (unlifted_in_place (side x w)) w h (cells s (at l₀))) l₀ (i + 1) (put_mid (i * s) k l z)
unfolding cells
unlifted-turn s x w h l₀ i k l z even e ih size is p =
    let mid = row-length s w h _ l₀ i k l e ih p in
    let row = lent_row s w h _ l₀ i k l e p in
    let same = window-cut (i * s) w (at l₀) (cells s (at l₀) i) (λ c q. refl) in
    let held : has_line_in (side x w) (cut w (cells s (at l₀) i)) ≡ true =
    ap (has_line_in (side x w)) (sym same) ∙ row_has s (side x w) h i (at l₀) ih even in
    let has : has_line_in (side x (length (mid_of (i * s) k l))) (at (mid_of (i * s) k l)) ≡ true = cc (mid, row, held) in
    map-turn (λ n. unlifted_in_place (side x n)) s w h l₀ i k l z e ih size (did _ _ _ _ has is) p

-- ---- the level
module _ (n s A from : ℕ) (W H : Side) (z y₀ : ℕ → ℤ) (R : Rows n s W.length H.length) (few : from ≤ count lo W) where
  abbrev w : ℕ
  w = W.length

  abbrev h : ℕ
  h = H.length

  abbrev Z : Grid
  Z = cells A z

  abbrev fetched : Grid
  fetched = rows_fetched from w H Z (cells s y₀)

  pub nine-none : (ok : Bool) → ok ≡ rows_even W h Z → ok ≡ false → LevelMadeBy nine_seven_filter false from s W H Z y₀ y₀
  nine-none ok e f =
      let g = sym e ∙ f in
      record { answer = rw g; rows = λ t. absurd (false-true t); kept = record { kept = λ j b. refl } }

  -- x₁ is the area with the rows fetched
  module _ (x₁ : ℕ → ℤ) (e₁ : x₁ ≡ flat s fetched) (even : rows_even W h Z ≡ true) where
    cell₁ : (r c : ℕ) → c < s → cells s x₁ r c ≡ fetched r c
    cell₁ r c cs = ap (λ (u : ℕ → ℤ). cells s u r c) e₁ ∙ cells-flat s fetched r c cs

    pub fetched-even : rows_even W h (cells s x₁) ≡ true
    unfolding rows_even
    fetched-even =
        elim (single_high W) as (λ t. single_high W ≡ t → pick (single_high W) (every h (λ r. is_even (cells s x₁ r 0))) true ≡ true) [
          | false ↦ λ o. simp o
          | true ↦ λ o.
              let t = single-high W o in
              let all : every h (λ r. is_even (Z r 0)) ≡ true = simp o at even in
              let wide = R.wide in
              simp o
              (each-every h _ (λ r rh.
              let m = made-few H r from 0 (omega arith) in
              ap is_even (cell₁ r 0 (omega arith) ∙ fetched-new from w H Z (cells s y₀) r 0 rh (omega arith) (omega arith))
              ∙ every-each h _ all (plane_row H r) (placed-in H r rh)))
        ] refl

    -- x₂ the area with the rows lifted back, x₃ with the columns
    module _ (x₂ x₃ : ℕ → ℤ) (e₂ : x₂ ≡ flat s (rows_mapped (unlifted_in_place W) w h (cells s x₁))) (q : ℕ)
        (eq : q ≡ pick (columns_fit n s w h) (pick (columns_have w H x₂) 0 14) 5)
        (e₃ : x₃ ≡ pick (both (columns_fit n s w h) (columns_have w H x₂)) (columns_back s w H x₂) x₂) where
      abbrev rows_done : Grid
      rows_done = rows_mapped (unlifted_by nine_seven_filter W) w h fetched

      cell₂ : (r c : ℕ) → c < s → cells s x₂ r c ≡ rows_done r c
      unfolding unlifted_by unlifted_in_place
      cell₂ r c cs =
          let wide = R.wide in
          ap (λ (u : ℕ → ℤ). cells s u r c) e₂
          ∙ cells-flat s _ r c cs
          ∙ mapped-same (unlifted_in_place W) w h (cells s x₁) fetched r c (cell₁ r c cs) (λ j jw. cell₁ r j (omega arith))

      fits : columns_fit n s w h ≡ true
      unfolding columns_fit
      fits = row-fits n s w (h - 1) R.wide R.room

      have : columns_have w H x₂ ≡ columns_even w H rows_done
      unfolding columns_have columns_even cells
      have =
          ap (λ (t : Bool). pick (single_high H) t true)
          (every-same w _ _ (λ c cw.
          let wide = R.wide in
          let k : c ≡ 0 * s + c = omega arith in
          ap is_even (ap x₂ k ∙ cell₂ 0 c (omega arith))))

      columns-of : columns_back s w H x₂ ≡ flat s (columns_unlifted_by nine_seven_filter w H (cells s x₂))
      unfolding columns_back columns_by column flat cells columns_unlifted_by line_back within
      columns-of = fun_ext λ j. let back : j / s * s + j % s ≡ j = div-add-mod' j s in rw back

      columns-same : (X Y : Grid) (r c : ℕ) → ((i : ℕ) → X i c ≡ Y i c) → columns_unlifted_by nine_seven_filter w H X r c ≡ columns_unlifted_by nine_seven_filter w H
          Y r c
      unfolding columns_unlifted_by
      columns-same X Y r c e =
          ap (λ (u : ℕ → ℤ). pick (within w h r c) (line_back_by nine_seven_filter wrap32 H (deinterleaved H u) r) (u r)) (fun_ext e)

      columns-out : (X : Grid) (r c : ℕ) → within w h r c ≡ false → columns_unlifted_by nine_seven_filter w H X r c ≡ X r c
      unfolding columns_unlifted_by
      columns-out X r c e = simp e

      kept₂ : KeptFrom ((h - 1) * s + w) y₀ x₂
      kept₂ =
          kept_then
          (kept-flat n s w h y₀ x₁ fetched R e₁ (λ r c o. fetched-out w H (cells s y₀) r c o from Z))
          (kept-flat n s w h x₁ x₂ _ R e₂ (λ r c o. mapped_out w h (cells s x₁) r c o (unlifted_in_place W)))
          (omega arith)

      level : x₃ ≡ flat s (columns_unlifted_by nine_seven_filter w H (cells s x₂)) → 0 < s → w ≤ s →
          x₃ ≡ flat s (level_unlifted_by nine_seven_filter W H (cells s (flat s fetched)))
      unfolding level_unlifted_by
      level all some wide =
          all ∙ flat-same s _ _ some
          (λ r c cs. columns-same (cells s x₂) (rows_mapped (unlifted_by nine_seven_filter W) w h (cells s (flat s fetched))) r c
          (λ i. cell₂ i c cs ∙ sym (mapped-same (unlifted_by nine_seven_filter W) w h (cells s (flat s fetched)) fetched i c (cells-flat s fetched i c cs)
          (λ j jw. cells-flat s fetched i j (omega arith)))))

      done : (t : Bool) → columns_have w H x₂ ≡ t → LevelMadeBy nine_seven_filter (eqb q 0) from s W H Z y₀ x₃
      done true t =
          let some = R.apart in
          let wide = R.wide in
          let f = fits in
          let all : x₃ ≡ flat s (columns_unlifted_by nine_seven_filter w H (cells s x₂)) = (rw (f, t) at e₃) ∙ columns-of in
          let zero' : q ≡ 0 = rw (f, t) at eq in
          let g : columns_even w H rows_done ≡ true = sym have ∙ t in
          record {
            answer = rw (zero', even, g) refl;
            rows = λ _. level all some wide;
            kept = kept_then kept₂ (kept-flat n s w h x₂ x₃ _ R all (columns-out (cells s x₂))) (omega arith);
          }
      done false t =
          let f = fits in
          let same : x₃ ≡ x₂ = rw (f, t) at e₃ in
          let q' : q ≡ 14 = rw (f, t) at eq in
          let g : columns_even w H rows_done ≡ false = sym have ∙ t in
          record { answer = rw (q', even, g) refl; rows = λ u. absurd (false-true (sym (rw q' refl) ∙ u)); kept = rw same kept₂ }

      pub nine-made : LevelMadeBy nine_seven_filter (eqb q 0) from s W H Z y₀ x₃
      nine-made = done (columns_have w H x₂) refl
