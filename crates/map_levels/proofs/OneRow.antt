-- A level of one row forward by the 5/3, where it stands in halves: at an odd coordinate its columns are doubled, and the row is lifted. Assumes nothing.
use mathlib.Core.Path.{◌≡◌, refl, sym, ap, ◌∙◌}
use mathlib.Core.Logic.{◌≢◌}
use mathlib.Core.Bool.{Bool, true, false}
use Prim.Native.Nat.{ℕ, ◌+◌, ◌-◌, ◌*◌, ◌≤◌, ◌<◌}
use native.Mathlib.Decide.{dec_lt, ℕ_discrete}
use native.Mathlib.Omega.{arith}
use lib.IntN.{ℤ, pos, ◌*ℤ◌}
use Rattle.numbers.specs.Signal.{pick}
use Rattle.numbers.specs.Word.{wrap32}
use Rattle.lifting.specs.Line.{lo, hi}
use Rattle.lifting.specs.Grid.{Side, side, count, joined, line_forward, single_high}
use Rattle.lifting.specs.GridHalves.{halves_of, lifted_in_place}
use Rattle.lifting.proofs.GridLaws.{joined-place, high_one, halves-high, front-in, front-past}
use Rattle.lifting.proofs.SingleLaws.{single-high, lifted-none}
use Rattle.lifting.proofs.RowLaws.{row-order}
use Rattle.wavelet.specs.Bands.{Grid}
use Rattle.wavelet.specs.Plane.{cells, flat}
use Rattle.map_levels.specs.Rowwise.{doubled_in_place}
use Rattle.map_levels.specs.Passes.{Rows, within}
use Rattle.map_levels.specs.LevelPasses.{columns_lifted_in_place, level_lifted, row_lifted}
use Rattle.map_levels.proofs.GridSweep.{finish, put_other, put_in, put-wide, mapped_in, mapped-wide, within_in, within-past, within-wide}
use Rattle.map_levels.proofs.CellLaws.{by-within, mapped_out, column-out}
use Rattle.map_levels.proofs.RowwiseLaws.{window-cut}

column-in : (w : ℕ) (H : Side) (X : Grid) (r c : ℕ) → r < H.length → c < w → columns_lifted_in_place w H X r c ≡ lifted_in_place H (λ i. X i c) r
unfolding columns_lifted_in_place
column-in w H X r c rh cw = simp (within_in w H.length r c rh cw)

module _ (n s : ℕ) (W H : Side) (X : Grid) (R : Rows n s W.length H.length) where
  abbrev w : ℕ
  w = W.length

  abbrev h : ℕ
  h = H.length

  abbrev columns : Grid
  columns = columns_lifted_in_place w H X

  abbrev level : Grid
  level = level_lifted W H X

  -- row r, whose columns are lifted, lifted itself
  module _ (r : ℕ) (x x' : ℕ → ℤ) (is : x' ≡ row_lifted s W r x) where
    raised-other : (q c : ℕ) → c < s → q ≢ r → x' (q * s + c) ≡ x (q * s + c)
    raised-other q c cs d = ap (λ (u : ℕ → ℤ). u (q * s + c)) is ∙ put_other s w r _ x R.wide q c cs d

    raised-row : r < h → ((c : ℕ) → c < s → x (r * s + c) ≡ columns r c) → (c : ℕ) → c < s → x' (r * s + c) ≡ level r c
    unfolding level_lifted
    raised-row rh same c cs =
        let ws = R.wide in
        ap (λ (u : ℕ → ℤ). u (r * s + c)) is
        ∙ elim (dec_lt c w) [
          | yes cw ↦
              put_in s w r _ x ws c cw
              ∙ ap (λ (u : ℕ → ℤ). lifted_in_place W u c) (window-cut (r * s) w x (columns r) (λ j jw. same j (omega arith)))
              ∙ sym (mapped_in (lifted_in_place W) w h columns r c rh cw)
          | no cw ↦ put-wide s w r _ x ws c (omega arith) ∙ same c cs ∙ sym (mapped-wide (lifted_in_place W) w h columns r c (omega arith))
        ]

  level_out : (r c : ℕ) → within w h r c ≡ false → level r c ≡ X r c
  unfolding level_lifted
  level_out r c e = mapped_out w h columns r c e (lifted_in_place W) ∙ column-out w H X r c e

pub by-test : {P : Type 0} (t : Bool) → (t ≡ true → P) → (t ≡ false → P) → P
by-test true f g = f refl
by-test false f g = g refl

-- ---- a level of one row: at an odd coordinate its columns are doubled
single-column : (H : Side) (y : ℕ → ℤ) → single_high H ≡ true → lifted_in_place H y 0 ≡ wrap32 (pos 2 *ℤ y 0)
unfolding lifted_in_place halves_of
single-column H y e =
    let t = single-high H e in
    let p = halves_of H y in
    let k : count lo H + (0 - count lo H) ≡ 0 = omega arith in
    halves-high H (line_forward wrap32 H (joined H p)) y 0 (omega arith) (omega arith)
    ∙ high_one H (omega arith) wrap32 (joined H p) (0 - count lo H)
    ∙ ap (λ (v : ℤ). wrap32 (pos 2 *ℤ v)) (joined-place H p hi (0 - count lo H) ∙ ap y k)

module _ (s w : ℕ) (H : Side) (x x₁ : ℕ → ℤ) (some : 0 < s) (ws : w ≤ s) (one : H.length ≡ 1) where
  abbrev rows : Grid
  rows = cells s x

  single-doubled : single_high H ≡ true → x₁ ≡ doubled_in_place w x → (r c : ℕ) → c < s → x₁ (r * s + c) ≡ columns_lifted_in_place w H rows r c
  unfolding doubled_in_place cells
  single-doubled e is r c cs =
      ap (λ (u : ℕ → ℤ). u (r * s + c)) is
      ∙ elim (ℕ_discrete r 0) [
        | yes z ↦
            rw z
            (elim (dec_lt c w) [
              | yes cw ↦ front-in w _ x (0 * s + c) (omega arith) ∙ sym (column-in w H rows 0 c (omega arith) cw ∙ single-column H (λ i. rows i c) e)
              | no d ↦ front-past w _ x (0 * s + c) (omega arith) ∙ sym (column-out w H rows 0 c (within-wide w H.length 0 c (omega arith)))
            ])
        | no d ↦
            let far = row-order s 0 r (omega arith) in
            front-past w _ x (r * s + c) (omega arith) ∙ sym (column-out w H rows r c (within-past w H.length r c (omega arith)))
      ]

  single-kept : single_high H ≡ false → x₁ ≡ x → (r c : ℕ) → c < s → x₁ (r * s + c) ≡ columns_lifted_in_place w H rows r c
  unfolding cells
  single-kept e is r c cs =
      ap (λ (u : ℕ → ℤ). u (r * s + c)) is
      ∙ sym (by-within w H.length r c
      (λ rh cw. column-in w H rows r c rh cw ∙ ap (λ (u : ℕ → ℤ). u r) (lifted-none H (omega arith) e (λ i. rows i c)))
      (λ o. column-out w H rows r c o))

pub raise-one : (n s : ℕ) (W H : Side) (x x₁ x' : ℕ → ℤ) → Rows n s W.length H.length → H.length < 2 →
    x₁ ≡ pick (single_high (side H.start 1)) (doubled_in_place W.length x) x → x' ≡ row_lifted s W 0 x₁ → x' ≡ flat s (level_lifted W H (cells s x))
raise-one n s W H x x₁ x' R few e₁ is =
    let X = cells s x in
    let apart = R.apart in
    let some = R.some in
    let wide = R.wide in
    let one : H.length ≡ 1 = omega arith in
    let is-side : side H.start 1 ≡ H = ap (side H.start) (sym one) in
    let same : (r c : ℕ) → c < s → x₁ (r * s + c) ≡ columns_lifted_in_place W.length H X r c =
    by-test (single_high H)
    (λ e. single-doubled s W.length H x x₁ apart wide one e (rw (is-side, e) at e₁))
    (λ e. single-kept s W.length H x x₁ apart wide one e (rw (is-side, e) at e₁)) in
    finish apart
    (record {
      done = λ r c cs rh. let e : r ≡ 0 = omega arith in rw e (raised-row n s W H X R 0 x₁ x' is some (same 0) c cs);
      rest = λ r c cs hr.
          raised-other n s W H X R 0 x₁ x' is r c cs (omega arith) ∙ same r c cs ∙ column-out W.length H X r c (within-past W.length H.length r c hr);
    })
    (λ r c hr. level_out n s W H X R r c (within-past W.length H.length r c hr))
