-- The rows of a level's stretch on the way forward: slots, steps that change one slot alone, a row put, copied and lifted. Assumes nothing.
use mathlib.Core.Path.{◌≡◌, refl, sym, ap, ◌∙◌}
use mathlib.Core.Bool.{Bool, true, false}
use Prim.Native.Nat.{ℕ, ◌+◌, ◌-◌, ◌*◌, ◌/◌, ◌<◌}
use native.Mathlib.Decide.{dec_lt}
use native.Mathlib.Nat.{mod-add-div, mul_assoc}
use native.Mathlib.Omega.{arith}
use lib.IntN.{ℤ}
use Rattle.numbers.specs.Signal.{pick, stored}
use Rattle.numbers.specs.Word.{wrap32}
use Rattle.numbers.proofs.Parts.{splice-in}
use Rattle.numbers.proofs.Stores.{stored-off}
use Rattle.lifting.specs.Line.{Half}
use Rattle.lifting.specs.Grid.{Side, place, deinterleaved}
use Rattle.lifting.specs.GridHalves.{deinterleaved_into}
use Rattle.lifting.specs.Pairs.{first}
use Rattle.lifting.proofs.GridLaws.{place-in, in_place, by_place}
use Rattle.lifting.proofs.RowLaws.{row-order}
use Rattle.level.specs.Level.{Memory}
use Rattle.level.specs.Cells.{spot}
use Rattle.level.specs.Stretch.{slot, row_place, half_place, RowStands}
use Rattle.level.proofs.Spots.{spot_in, spot-place}
use Rattle.level.proofs.RowsIn.{apart, Only, row-end, half-inside, row-halves, in-halves, joined-reads, only-splice, only-by, only-unlifted, unlifted-by, by-is}
use Rattle.analysis.specs.Columns.{Columns, along_by}
use Rattle.analysis.specs.Sets.{row_put, row_copied, row_lifted}
use Rattle.analysis.proofs.ColumnLaws.{ColumnLaws}

-- an even and an odd number have no remainder by 4a in common
parity : (m a t q u i j : ℕ) → m ≡ 4 * a → u + m * t ≡ 2 * i → u + m * q ≡ 2 * j + 1 → ⊥
parity m a t q u i j k e d =
    let f = ap (λ (n : ℕ). n * t) k ∙ mul_assoc 4 a t in
    let g = ap (λ (n : ℕ). n * q) k ∙ mul_assoc 4 a q in
    omega arith

-- ---- steps that change the slot of row t alone
module _ {m w t : ℕ} where
  pub only_none : (x : Memory) → Only m w t x x
  only_none x = record { row = λ q i d h. refl; past = λ j h. refl }

  pub only_then : {x y z : Memory} → Only m w t x y → Only m w t y z → Only m w t x z
  only_then o u = record { row = λ q i d h. u.row q i d h ∙ o.row q i d h; past = λ j h. u.past j h ∙ o.past j h }

  pub only_if : {x y : Memory} (b : Bool) → Only m w t x y → Only m w t x (pick b y x)
  only_if true o = o
  only_if {x} false o = only_none x

module _ (C : Columns) (L : ColumnLaws C) where
  pub some : 0 < C.filter.rows
  some = omega (arith, L.looks, L.keeps)

  -- ---- slots: two rows less than 4a apart have two, and so have an even row and an odd one
  pub far : (t q : ℕ) → (t ≡ q → ⊥) → t < q + 4 * C.filter.ahead → q < t + 4 * C.filter.ahead → slot C.filter.rows t ≡ slot C.filter.rows q → ⊥
  far t q d u v = let k = L.keeps in apart C.filter.rows t q d (omega arith) (omega arith)

  pub even_odd : (i j : ℕ) → slot C.filter.rows (2 * i) ≡ slot C.filter.rows (2 * j + 1) → ⊥
  even_odd i j e =
      let m = C.filter.rows in
      parity m C.filter.ahead (2 * i / m) ((2 * j + 1) / m) (slot m (2 * i)) i j L.keeps (mod-add-div (2 * i) m)
      (ap (λ (u : ℕ). u + m * ((2 * j + 1) / m)) e ∙ mod-add-div (2 * j + 1) m)

  pub odd_even : (i j : ℕ) → slot C.filter.rows (2 * j + 1) ≡ slot C.filter.rows (2 * i) → ⊥
  odd_even i j e = even_odd i j (sym e)

  module _ (W : Side) (q : ℕ) (x : Memory) where
    abbrev m : ℕ
    m = C.filter.rows

    abbrev from : ℕ
    from = row_place C.filter.rows W.length q

    -- ---- a row by its columns
    pub whole_row : (y : ℕ → ℤ) → ((i : ℕ) → i < W.length → x (from + spot W i) ≡ y i) → RowStands m W x q (deinterleaved W y)
    unfolding deinterleaved
    whole_row y e h i b = ap (λ (k : ℕ). x (from + k)) (sym (spot-place h W i)) ∙ e (place W h i) (place-in W h i b)

    pub row-cells : (y : ℕ → ℤ) → RowStands m W x q (deinterleaved W y) → (i : ℕ) → i < W.length → x (from + spot W i) ≡ y i
    unfolding deinterleaved
    row-cells y s =
        by_place W (λ i. i < W.length → x (from + spot W i) ≡ y i)
        (λ h n b. ap (λ (k : ℕ). x (from + k)) (spot-place h W n) ∙ s h n (in_place W h n b))

    -- one number of it
    clash : (t i c : ℕ) → (slot m q ≡ slot m t → ⊥) → i < W.length → c < W.length → row_place m W.length t + i ≡ from + c → ⊥
    unfolding row_place
    clash t i c d h l e = elim (dec_lt (slot m t) (slot m q)) [
      | yes p ↦ let o = row-order W.length (slot m t) (slot m q) p in omega arith
      | no p ↦ let o = row-order W.length (slot m q) (slot m t) (omega (arith, d)) in omega arith
    ]

    pub only-stored : (c : ℕ) (v : ℤ) → c < W.length → Only m W.length q x (stored (from + spot W c) v x)
    only-stored c v l = record {
      row = λ t i d h. stored-off _ _ v x (clash t i (spot W c) d h (spot_in W c l));
      past = λ j h. stored-off _ j v x (λ e. omega (arith, row-end some W.length q, spot_in W c l));
    }

    -- ---- a whole row put
    pub only-put : (row : ℕ → ℤ) → Only m W.length q x (row_put C W q row x)
    unfolding row_put
    only-put row = only-splice some W.length q _ _ (omega arith) (omega arith) _ x

    pub put-row : (row : ℕ → ℤ) → RowStands m W (row_put C W q row x) q (deinterleaved W row)
    unfolding row_put deinterleaved_into
    put-row row h i b =
        let e : from + (half_place h W + i) - from ≡ half_place h W + i = omega arith in
        splice-in _ _ _ x _ (omega arith) (omega (arith, half-inside h W i b))
        ∙ ap (deinterleaved_into W row x) e
        ∙ in-halves W (deinterleaved W row) x h i b

    -- ---- a row copied to the slot of row t
    pub only-copied : (w t : ℕ) → Only m w t x (row_copied C w q t x)
    unfolding row_copied
    only-copied w t = only-by some w t first q q x

    pub copied-row : (t : ℕ) (c : Half → ℕ → ℤ) → RowStands m W x q c → RowStands m W (row_copied C W.length q t x) t c
    unfolding row_copied
    copied-row t c s = by-is some first W t q q x _ c c (λ h i b. refl) s s

    -- ---- a row lifted along the row
    pub only-lifted : Only m W.length q x (row_lifted C W q x)
    only-lifted = only-unlifted some (along_by C.filter) W q x

    pub lifted-row : (y : ℕ → ℤ) → RowStands m W x q (deinterleaved W y) → RowStands m W (row_lifted C W q x) q (C.filter.forward wrap32 W y)
    unfolding along_by
    lifted-row y s h i b =
        unlifted-by some (along_by C.filter) W q x _ refl h i b
        ∙ L.reads W _ y h i b (joined-reads W _ y (row-halves some W x q _ s))
