-- The lines of a sweep: one column more is the step at its place, and no other column of either line changes. Assumes nothing.
use mathlib.Core.Path.{◌≡◌, refl, sym, ap, ◌∙◌}
use mathlib.Core.Logic.{◌≢◌}
use mathlib.Core.Bool.{Bool, true, false}
use mathlib.Core.List.{List}
use Prim.Native.Nat.{ℕ, ◌+◌, ◌*◌, ◌/◌, ◌%◌, ◌≤◌, ◌<◌}
use native.Mathlib.Decide.{ℕ_discrete}
use native.Mathlib.Omega.{arith}
use lib.IntN.{ℤ}
use lib.ListN.{length, set, length-set}
use Rattle.numbers.specs.Signal.{at, pick, stored}
use Rattle.numbers.proofs.Stores.{stored_at, stored-off, at_stored}
use Rattle.wavelet.specs.Limits.{max_width}
use Rattle.wavelet.specs.Plane.{cells}
use Rattle.map_levels.specs.Sweep.{short_predicted, short_updated, line_half, line_at, place_lifted, place_ended, ColumnsMade, source_grid}

-- where column i of a line stands, from its begin on
abbrev pub column_place : ℕ → ℕ
column_place i = i % 2 * line_half + i / 2

pub place-below : (i : ℕ) → i < 2 * line_half → column_place i < 2 * line_half
unfolding line_half max_width
place-below i b = omega arith

-- two columns have two places
pub place_same : (i m : ℕ) → i < 2 * line_half → m < 2 * line_half → column_place i ≡ column_place m → i ≡ m
unfolding line_half max_width
place_same i m a b e = omega arith

-- the columns of a pair
pub even_place : (k : ℕ) → column_place (2 * k) ≡ k
unfolding line_half max_width
even_place k = omega arith

pub odd_place : (k : ℕ) → column_place (2 * k + 1) ≡ line_half + k
unfolding line_half max_width
odd_place k = omega arith

-- ---- what the steps store into the list l: v' and u' are v and u read back
pub stored-by : (l : List ℤ) (p : ℕ) (v' v : ℤ) → p < length l → v' ≡ v → at (set l p v') ≡ stored p v (at l)
stored-by l p v' v a e = at_stored l p v' a ∙ ap (λ (z : ℤ). stored p z (at l)) e

pub stored-two : (l : List ℤ) (p q : ℕ) (u' u v' v : ℤ) → p < length l → q < length l → u' ≡ u → v' ≡ v →
    at (set (set l p u') q v') ≡ stored q v (stored p u (at l))
stored-two l p q u' u v' v a b eu ev =
    let n = length-set l p u' in
    stored-by (set l p u') q v' v (omega arith) ev ∙ ap (stored q v) (stored-by l p u' u a eu)

-- the high line begins at place 0
pub line-zero : (y : ℕ → ℤ) (i : ℕ) → line_at 0 y i ≡ y (column_place i)
unfolding line_at
line-zero y i = ap y (omega arith)

-- ---- a column more
module _ (m : ℕ) (e b c y₀ y y' : ℕ → ℤ) (mb : m < 2 * line_half) where
  abbrev P : ℕ
  P = column_place m

  abbrev D : ℤ
  D = short_predicted (b m) (e m) (c m)

  module _ (is : y' ≡ place_lifted P (e m) (b m) (c m) y) where
    abbrev S : ℤ
    S = short_updated (e m) (y P) D

    made : (j : ℕ) → y' j ≡ stored P D (stored (2 * line_half + P) S y) j
    made j = ap (λ (f : ℕ → ℤ). f j) is

    high-new : line_at 0 y' m ≡ D
    high-new = line-zero y' m ∙ made P ∙ stored_at P P D _ refl

    high-old : (i : ℕ) → i < 2 * line_half → i ≢ m → line_at 0 y' i ≡ line_at 0 y i
    high-old i ib d =
        let pb = place-below i ib in
        line-zero y' i
        ∙ made (column_place i)
        ∙ stored-off P (column_place i) D _ (λ s. d (place_same i m ib mb s))
        ∙ stored-off (2 * line_half + P) (column_place i) S y (λ s. absurd (omega arith))
        ∙ sym (line-zero y i)

    low-new : line_at (2 * line_half) y' m ≡ S
    unfolding line_at
    low-new =
        let pb = place-below m mb in
        made (2 * line_half + P) ∙ stored-off P (2 * line_half + P) D _ (λ s. absurd (omega arith)) ∙ stored_at (2 * line_half + P) (2 * line_half + P) S y refl

    low-old : (i : ℕ) → i < 2 * line_half → i ≢ m → line_at (2 * line_half) y' i ≡ line_at (2 * line_half) y i
    unfolding line_at
    low-old i ib d =
        let pb = place-below m mb in
        made (2 * line_half + column_place i)
        ∙ stored-off P (2 * line_half + column_place i) D _ (λ s. absurd (omega arith))
        ∙ stored-off (2 * line_half + P) (2 * line_half + column_place i) S y (λ s. d (place_same i m ib mb (omega arith)))

    pub made_more : ColumnsMade false m e b c y₀ y → ColumnsMade false (m + 1) e b c y₀ y'
    unfolding line_at
    made_more M =
        let here : y P ≡ line_at 0 y₀ m = sym (line-zero y m) ∙ M.left m (omega arith) mb in
        record {
          high = λ i ib. elim (ℕ_discrete i m) [
            | yes q ↦ rw q high-new
            | no d ↦ high-old i (omega (arith, d)) d ∙ M.high i (omega (arith, d))
          ];
          low = λ i ib. elim (ℕ_discrete i m) [
            | yes q ↦ rw q (low-new ∙ ap (λ (h : ℤ). short_updated (e m) h D) here)
            | no d ↦ low-old i (omega (arith, d)) d ∙ M.low i (omega (arith, d))
          ];
          left = λ i a ib. high-old i ib (λ q. absurd (omega arith)) ∙ M.left i (omega arith) ib;
        }

  module _ (is : y' ≡ place_ended P (e m) y) where
    ended : (j : ℕ) → y' j ≡ stored (2 * line_half + P) (short_updated (e m) (y P) (y P)) y j
    ended j = ap (λ (f : ℕ → ℤ). f j) is

    high-kept : (i : ℕ) → i < 2 * line_half → line_at 0 y' i ≡ line_at 0 y i
    high-kept i ib =
        let pb = place-below i ib in
        line-zero y' i
        ∙ ended (column_place i)
        ∙ stored-off (2 * line_half + P) (column_place i) _ y (λ s. absurd (omega arith))
        ∙ sym (line-zero y i)

    pub ended-more : ColumnsMade true m e b c y₀ y → ColumnsMade true (m + 1) e b c y₀ y'
    unfolding line_at
    ended-more M =
        let here : y P ≡ line_at 0 y₀ m = sym (line-zero y m) ∙ M.left m (omega arith) mb in
        record {
          high = λ i ib. elim (ℕ_discrete i m) [
            | yes q ↦ rw q (high-kept m mb ∙ line-zero y m ∙ here)
            | no d ↦ high-kept i (omega (arith, d)) ∙ M.high i (omega (arith, d))
          ];
          low = λ i ib. elim (ℕ_discrete i m) [
            | yes q ↦ rw q
                (ended (2 * line_half + P) ∙ stored_at (2 * line_half + P) (2 * line_half + P) _ y refl ∙ ap (λ (h : ℤ). short_updated (e m) h h) here)
            | no d ↦
                ended (2 * line_half + column_place i)
                ∙ stored-off (2 * line_half + P) (2 * line_half + column_place i) _ y (λ s. d (place_same i m (omega (arith, d)) mb (omega arith)))
                ∙ M.low i (omega (arith, d))
          ];
          left = λ i a ib. high-kept i ib ∙ M.left i (omega arith) ib;
        }

pub made_none : (last : Bool) (e b c y : ℕ → ℤ) → ColumnsMade last 0 e b c y y
made_none last e b c y =
    record { high = λ i ib. absurd (omega arith); low = λ i ib. absurd (omega arith); left = λ i a ib. refl }

-- a pair of columns, and the last one of an odd number
module _ (e b c y₀ : ℕ → ℤ) (k : ℕ) where
  abbrev Columns : ℕ → (ℕ → ℤ) → Type 0
  Columns m y = ColumnsMade false m e b c y₀ y

  pub one-made : (y y' : ℕ → ℤ) → 2 * k < 2 * line_half → y' ≡ place_lifted k (e (2 * k)) (b (2 * k)) (c (2 * k)) y → Columns (2 * k) y → Columns (2 * k + 1) y'
  one-made y y' r is M = made_more (2 * k) e b c y₀ y y' r (rw (even_place k) is) M

  pub pair-made : (y y₁ y₂ : ℕ → ℤ) → 2 * k + 1 < 2 * line_half → y₁ ≡ place_lifted k (e (2 * k)) (b (2 * k)) (c (2 * k)) y →
      y₂ ≡ place_lifted (line_half + k) (e (2 * k + 1)) (b (2 * k + 1)) (c (2 * k + 1)) y₁ → Columns (2 * k) y → Columns (2 * (k + 1)) y₂
  pair-made y y₁ y₂ r is₁ is₂ M =
      let t : 2 * (k + 1) ≡ 2 * k + 1 + 1 = omega arith in
      rw t (made_more (2 * k + 1) e b c y₀ y₁ y₂ r (rw (odd_place k) is₂) (one-made y y₁ (omega arith) is₁ M))

  pub pairs-made : (w : ℕ) (y : ℕ → ℤ) → 2 * k ≡ w → Columns (2 * k) y → Columns w y
  pairs-made w y t M = rw t at M

-- ---- rows of heights, or of the work area
module _ (first : Bool) (n m k : ℕ) (b : n ≤ pick first m k) where
  pub from_first : first ≡ true → n ≤ m
  from_first e = rw e at b

  pub from-work : first ≡ false → n ≤ k
  from-work e = rw e at b

module _ (first last : Bool) (w a : ℕ) (g x p q y₀ y : ℕ → ℤ) where
  pub row_first : first ≡ true → ColumnsMade last w (λ i. g (a * w + i)) p q y₀ y → ColumnsMade last w (source_grid first w g x a) p q y₀ y
  unfolding cells
  row_first e M = rw e M

  pub row-work : first ≡ false → ColumnsMade last w (λ i. x (a * w + i)) p q y₀ y → ColumnsMade last w (source_grid first w g x a) p q y₀ y
  unfolding cells
  row-work e M = rw e M

module _ (first last : Bool) (w a b c : ℕ) (g x y₀ y : ℕ → ℤ) where
  abbrev G : ℕ → ℕ → ℤ
  G = source_grid first w g x

  pub rows-first : first ≡ true → ColumnsMade last w (λ i. g (a * w + i)) (λ i. g (b * w + i)) (λ i. g (c * w + i)) y₀ y →
      ColumnsMade last w (G a) (G b) (G c) y₀ y
  unfolding cells
  rows-first e M = rw e M

  pub rows-work : first ≡ false → ColumnsMade last w (λ i. x (a * w + i)) (λ i. x (b * w + i)) (λ i. x (c * w + i)) y₀ y →
      ColumnsMade last w (G a) (G b) (G c) y₀ y
  unfolding cells
  rows-work e M = rw e M
