-- A cell by the natural numbers of its window, on the ground and in the window's list, and with one height changed. Assumes nothing.
use mathlib.Core.Path.{◌≡◌, refl, sym, ap, ap₂, ◌∙◌}
use mathlib.Core.Bool.{Bool, true, false}
use mathlib.Core.List.{List}
use Prim.Native.Nat.{ℕ, zero, suc, ◌+◌, ◌*◌, ◌≤◌, ◌<◌}
use native.Mathlib.Omega.{arith}
use lib.IntN.{ℤ, pos, ◌+ℤ◌}
use lib.ListN.{get_or}
use lib.Dec.{eqb}
use borrow.Author.Tests.{eqb-true}
use Rattle.numbers.specs.Signal.{pick, both}
use Rattle.lifting.specs.Line.{lo}
use Rattle.lifting.specs.Grid.{side, count}
use Rattle.wavelet.specs.Limits.{max_sample}
use Rattle.wavelet.proofs.LimitLaws.{sample-small}
use Rattle.nearest_change.specs.NearestChange.{Ground, cell_of, changed}
use Rattle.nearest_change.specs.Trials.{Small, mirrored, places_of, bias, lifted_of, number_of, replaced_of, IsWindow, column_in, lows_in}
use Rattle.nearest_change.specs.declared.Change.{Change}
use Rattle.nearest_change.specs.declared.five.Five.{Five}
use Rattle.nearest_change.proofs.FiveLaws.{five-eq, number-last}
use Rattle.nearest_change.proofs.LineLaws.{line_low, biased, biased-twice, lifted-small}
use Rattle.nearest_change.proofs.CellLaws.{low_at, cell-is}

both_left : (a b : Bool) → b ≡ true → both a b ≡ a
both_left true b e = e
both_left false b e = refl

both-none : (a b : Bool) → b ≡ false → both a b ≡ false
both-none true b e = e
both-none false b e = refl

-- ---- the places of a low value
pub mirror-there : (n q : ℕ) → 1 ≤ n → mirrored n q < n
unfolding mirrored
mirror-there n q h = omega arith

pub places-there : (n k i : ℕ) → 1 ≤ n → number_of (places_of n k) i < n
unfolding number_of
places-there n k zero h = mirror-there n _ h
places-there n k (suc zero) h = mirror-there n _ h
places-there n k (suc (suc zero)) h = mirror-there n _ h
places-there n k (suc (suc (suc zero))) h = mirror-there n _ h
places-there n k (suc (suc (suc (suc i)))) h = rw (sym (number-last (places_of n k) (suc (suc (suc (suc i)))) (omega arith))) (mirror-there n _ h)

pub places-number : (n k i : ℕ) → i < 5 → number_of (places_of n k) i ≡ mirrored n (2 * k + i)
unfolding number_of
places-number n k zero h = ap (mirrored n) (omega arith)
places-number n k (suc zero) h = refl
places-number n k (suc (suc zero)) h = refl
places-number n k (suc (suc (suc zero))) h = refl
places-number n k (suc (suc (suc (suc zero)))) h = refl
places-number n k (suc (suc (suc (suc (suc i))))) h = absurd (omega arith)

-- ---- a window on the ground
abbrev pub column_at : Ground → Five → ℕ → Five
column_at g rows c = record { a = g rows.a c; b = g rows.b c; c = g rows.c c; d = g rows.d c; e = g rows.e c }

abbrev pub lows_at : Ground → Five → Five → Five
lows_at g rows columns =
    record {
      a = lifted_of (column_at g rows columns.a);
      b = lifted_of (column_at g rows columns.b);
      c = lifted_of (column_at g rows columns.c);
      d = lifted_of (column_at g rows columns.d);
      e = lifted_of (column_at g rows columns.e);
    }

-- the heights of a map are heights
abbrev pub Heights : ℕ → ℕ → Ground → Type 0
Heights W H g = (i j : ℕ) → i < H → j < W → g i j ≤ max_sample

module _ (W H : ℕ) (g : Ground) (heights : Heights W H g) (r c : ℕ) (p : r < count lo (side 0 H)) (q : c < count lo (side 0 W)) where
  some-rows : 1 ≤ H
  unfolding count
  some-rows = omega arith

  some-columns : 1 ≤ W
  unfolding count
  some-columns = omega arith

  small : (i j : ℕ) → g (mirrored H i) (mirrored W j) ≤ 65535
  small i j = omega (arith, sample-small, heights _ _ (mirror-there H i some-rows) (mirror-there W j some-columns))

  column-small : (j : ℕ) → Small 65535 (column_at g (places_of H r) (mirrored W j))
  column-small j = (small _ j, small _ j, small _ j, small _ j, small _ j)

  column-lifted : (j : ℕ) → low_at H g r (mirrored W j) +ℤ pos bias ≡ pos (lifted_of (column_at g (places_of H r) (mirrored W j)))
  column-lifted j =
      let s = column-small j in
      ap (λ (v : ℤ). v +ℤ pos bias) (line_low H (λ i. pos (g i (mirrored W j))) r p)
      ∙ biased (column_at g (places_of H r) (mirrored W j)) (omega arith, omega arith, omega arith, omega arith, omega arith)

  pub cell-lifted : cell_of W H g r c +ℤ pos bias +ℤ pos bias ≡ pos (lifted_of (lows_at g (places_of H r) (places_of W c)))
  cell-lifted =
      ap (λ (v : ℤ). v +ℤ pos bias +ℤ pos bias) (cell-is W H g r c ∙ line_low W (low_at H g r) c q)
      ∙ biased-twice (lows_at g (places_of H r) (places_of W c)) _ _ _ _ _ (
        lifted-small _ (column-small _),
        lifted-small _ (column-small _),
        lifted-small _ (column-small _),
        lifted-small _ (column-small _),
        lifted-small _
            (column-small _),
      )
      (column-lifted _) (column-lifted _) (column-lifted _) (column-lifted _) (column-lifted _)

-- ---- one height changed
module _ (g : Ground) (d : Change) where
  changed-there : (r c : ℕ) → eqb c d.column ≡ true → changed d g r c ≡ pick (eqb r d.row) d.height (g r c)
  unfolding changed
  changed-there r c e = ap (λ (b : Bool). pick b d.height (g r c)) (both_left (eqb r d.row) (eqb c d.column) e)

  changed-not : (r c : ℕ) → eqb c d.column ≡ false → changed d g r c ≡ g r c
  unfolding changed
  changed-not r c e = ap (λ (b : Bool). pick b d.height (g r c)) (both-none (eqb r d.row) (eqb c d.column) e)

  -- the low value of the changed column
  abbrev new_low : Five → ℕ
  new_low rows = lifted_of (replaced_of (column_at g rows d.column) rows d.row d.height)

  low-by : (rows : Five) (c : ℕ) (b : Bool) → eqb c d.column ≡ b
      → lifted_of (column_at (changed d g) rows c) ≡ pick b (new_low rows) (lifted_of (column_at g rows c))
  low-by rows c true e =
      ap lifted_of
      (five-eq (changed-there _ c e) (changed-there _ c e) (changed-there _ c e) (changed-there _ c e) (changed-there _ c e)
      ∙ ap (λ (j : ℕ). replaced_of (column_at g rows j) rows d.row d.height) (eqb-true c d.column e))
  low-by rows c false e =
      ap lifted_of (five-eq (changed-not _ c e) (changed-not _ c e) (changed-not _ c e) (changed-not _ c e) (changed-not _ c e))

  pub lows-changed : (rows columns : Five) → lows_at (changed d g) rows columns ≡ replaced_of (lows_at g rows columns) columns d.column (new_low rows)
  lows-changed rows columns = five-eq (low-by rows _ _ refl) (low-by rows _ _ refl) (low-by rows _ _ refl) (low-by rows _ _ refl) (low-by rows _ _ refl)

-- ---- the window's list
module _ (g : Ground) (rows columns : Five) (w : List ℕ) (is : IsWindow g rows columns w) where
  pub height_in : (i k : ℕ) → i < 5 → k < 5 → get_or w (5 * k + i) 0 ≡ g (number_of rows i) (number_of columns k)
  height_in i k p q =
      is (5 * k + i) (omega arith)
      ∙ ap₂ (λ (a b : ℕ). g (number_of rows a) (number_of columns b)) (omega arith) (omega arith)

  pub column-in : (k : ℕ) → k < 5 → column_in w k ≡ column_at g rows (number_of columns k)
  unfolding number_of
  column-in k q =
      five-eq (ap (λ (j : ℕ). get_or w j 0) (omega arith) ∙ height_in 0 k (omega arith) q) (height_in 1 k (omega arith) q) (height_in 2 k (omega arith) q)
      (height_in 3 k (omega arith) q) (height_in 4 k (omega arith) q)

  pub lows-in : lows_in w ≡ lows_at g rows columns
  unfolding number_of
  lows-in =
      five-eq (ap lifted_of (column-in 0 (omega arith))) (ap lifted_of (column-in 1 (omega arith))) (ap lifted_of (column-in 2 (omega arith)))
      (ap lifted_of (column-in 3 (omega arith))) (ap lifted_of (column-in 4 (omega arith)))
