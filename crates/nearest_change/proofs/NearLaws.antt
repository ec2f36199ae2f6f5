-- A change that alters a cell changes one of the heights that it reads; and one of difference 4 always does. Assumes nothing.
use mathlib.Core.Path.{◌≡◌, refl, sym, ap, ◌∙◌}
use mathlib.Core.Bool.{Bool, true, false}
use Prim.Native.Nat.{ℕ, ◌+◌, ◌-◌, ◌*◌, ◌≤◌, ◌<◌}
use native.Mathlib.Decide.{dec_lt}
use native.Mathlib.Omega.{arith}
use lib.Dec.{eqb}
use borrow.Author.Tests.{eqb-true, eq-eqb}
use Rattle.numbers.specs.Signal.{pick}
use Rattle.numbers.proofs.Sweep.{both}
use Rattle.lifting.specs.Line.{lo}
use Rattle.lifting.specs.Grid.{side, count}
use Rattle.wavelet.specs.Limits.{max_sample}
use Rattle.nearest_change.specs.NearestChange.{Ground, changed, Alters, difference}
use Rattle.nearest_change.specs.declared.Change.{Change}
use Rattle.nearest_change.proofs.CellLaws.{cell-reads}
use Rattle.nearest_change.proofs.RiseLaws.{four-alters}

-- ---- the ground with one height changed
module _ (g : Ground) (d : Change) where
  abbrev test : ℕ → ℕ → Bool
  test i j = pick (eqb i d.row) (eqb j d.column) false

  by-test : (i j : ℕ) (b : Bool) → test i j ≡ b → changed d g i j ≡ pick b d.height (g i j)
  unfolding changed
  by-test i j b e = ap (λ (t : Bool). pick t d.height (g i j)) e

  pub changed-own : changed d g d.row d.column ≡ d.height
  changed-own = by-test d.row d.column true (simp (eq-eqb d.row d.row refl, eq-eqb d.column d.column refl))

  other-by : (i j : ℕ) → ((i ≡ d.row) × (j ≡ d.column) → g i j ≡ d.height) → (b : Bool) → test i j ≡ b → changed d g i j ≡ g i j
  other-by i j n true e =
      let l = both (eqb i d.row) (eqb j d.column) e in
      by-test i j true e ∙ sym (n (eqb-true i _ l.0, eqb-true j _ l.1))
  other-by i j n false e = by-test i j false e

  -- elsewhere it is as it was, and so it is where the height is the old one
  pub changed-other : (i j : ℕ) → ((i ≡ d.row) × (j ≡ d.column) → g i j ≡ d.height) → changed d g i j ≡ g i j
  changed-other i j n = other-by i j n (test i j) refl

-- ---- what alters a cell is one of the heights that it reads, and new
pub record Near (r c : ℕ) (g : Ground) (d : Change) : Type 0 where
  pub row_from : 2 * r ≤ d.row + 2
  pub row-to : d.row ≤ 2 * r + 2
  pub column-from : 2 * c ≤ d.column + 2
  pub column-to : d.column ≤ 2 * c + 2
  pub new : 1 ≤ difference g d

module _ (W H r c : ℕ) (g : Ground) (p : r < count lo (side 0 H)) (q : c < count lo (side 0 W)) (d : Change) (l : Alters W H g r c d) where
  reads : ((i j : ℕ) → 2 * r ≤ i + 2 → i ≤ 2 * r + 2 → 2 * c ≤ j + 2 → j ≤ 2 * c + 2 → (i ≡ d.row) × (j ≡ d.column) → g i j ≡ d.height) → ⊥
  reads n = l.alters (cell-reads W H (changed d g) g r c p q (λ i j _ _ a b e f. changed-other g d i j (n i j a b e f)))

  old-new : difference g d < 1 → g d.row d.column ≡ d.height
  unfolding difference
  old-new h = omega arith

  no_less : {m n : ℕ} → (m < n → ⊥) → n ≤ m
  no_less {m} {n} f = elim (dec_lt m n) [ yes h ↦ absurd (f h) | no h ↦ omega arith ]

  pub alters-near : Near r c g d
  alters-near =
      record {
        row_from = no_less (λ h. reads (λ i j a b e f s. absurd (let t = s.0 in omega arith)));
        row-to = no_less (λ h. reads (λ i j a b e f s. absurd (let t = s.0 in omega arith)));
        column-from = no_less (λ h. reads (λ i j a b e f s. absurd (let t = s.1 in omega arith)));
        column-to = no_less (λ h. reads (λ i j a b e f s. absurd (let t = s.1 in omega arith)));
        new = no_less (λ h. reads (λ i j a b e f s. (λ k. g (s.0 k) (s.1 k)) ∙ old-new h));
      }

-- ---- a difference of 4 is enough
sample-some : 8 ≤ max_sample
unfolding max_sample
sample-some = omega arith

module _ (W H r c : ℕ) (g : Ground) (p : r < count lo (side 0 H)) (q : c < count lo (side 0 W)) where
  own_row : 2 * r < H
  unfolding count
  own_row = omega arith

  own-column : 2 * c < W
  unfolding count
  own-column = omega arith

  abbrev own : ℕ → Change
  own v = record { row = 2 * r; column = 2 * c; height = v }

  elsewhere : (v i j : ℕ) → ((i ≡ 2 * r) × (j ≡ 2 * c) → ⊥) → g i j ≡ changed (own v) g i j
  elsewhere v i j n = sym (changed-other g (own v) i j (λ s. absurd (n s)))

  raise : g (2 * r) (2 * c) + 4 ≤ max_sample → Alters W H g r c (own (g (2 * r) (2 * c) + 4))
  raise h =
      record {
        row_in = own_row;
        column-in = own-column;
        height_in = h;
        alters = λ e.
            let k = changed-own g (own (g (2 * r) (2 * c) + 4)) in
            four-alters W H r c g (changed (own (g (2 * r) (2 * c) + 4)) g) p q (elsewhere _) (omega arith) (sym e);
      }

  lower : 4 ≤ g (2 * r) (2 * c) → g (2 * r) (2 * c) ≤ max_sample → Alters W H g r c (own (g (2 * r) (2 * c) - 4))
  lower l h =
      record {
        row_in = own_row;
        column-in = own-column;
        height_in = omega arith;
        alters = λ e.
            let k = changed-own g (own (g (2 * r) (2 * c) - 4)) in
            four-alters W H r c (changed (own (g (2 * r) (2 * c) - 4)) g) g p q (λ i j n. sym (elsewhere _ i j n)) (omega arith) e;
      }

  -- one of the two is a change that alters the cell
  pub four-enough : g (2 * r) (2 * c) ≤ max_sample → (d : Change) × Alters W H g r c d × (difference g d ≤ 4)
  unfolding difference
  four-enough h =
      elim (dec_lt max_sample (g (2 * r) (2 * c) + 4)) [
        | yes m ↦ let s = sample-some in (own (g (2 * r) (2 * c) - 4), lower (omega arith) h, omega arith)
        | no m ↦ (own (g (2 * r) (2 * c) + 4), raise (omega arith), omega arith)
      ]
