-- Levels with cells and without: an empty level has no band row, and no level after it has one. A set with a high row asks for a row. Assumes nothing.
use mathlib.Core.Bool.{Bool, true, false}
use mathlib.Core.Path.{◌≡◌, refl, sym, subst, ◌∙◌}
use mathlib.Core.List.{List, [], ◌∷◌, ◌++◌}
use Prim.Native.Nat.{ℕ, zero, suc, ◌+◌, ◌-◌, ◌/◌, ◌%◌, ◌≤◌, ◌<◌}
use native.Mathlib.Decide.{ℕ_discrete, dec_lt}
use native.Mathlib.Omega.{arith}
use lib.Dec.{T, ltb, leb}
use borrow.Author.Tests.{ltb-true, leb-true, lt-ltb, le-ltb, lt-leb, le-leb}
use Rattle.numbers.specs.Signal.{pick, both}
use Rattle.numbers.proofs.Sweep.{both as halves}
use Rattle.lifting.specs.Line.{Half, lo, hi}
use Rattle.lifting.specs.Grid.{Side, count}
use Rattle.wavelet.specs.Bands.{Band, LH, HH, code, across, down}
use Rattle.wavelet.specs.Order.{in_turn, first_set, last_set, set_row, set_has, rows_of, set_rows}
use Rattle.wavelet.specs.Steps.{Step, feed_all, set_steps, row_steps}
use Rattle.wavelet.specs.Levels.{next, side_at}
use Rattle.reader_steps.specs.Sets.{ahead}
use Rattle.reader_steps.specs.Asked.{kept_at, asked, bands_from, those, look, first_code, next_band}
use Rattle.reader_steps.specs.Places.{has_cells}
use Rattle.reader_steps.proofs.Looks.{code_lt, first-le}

both-no : (a b : Bool) → b ≡ false → both a b ≡ false
both-no true b e = e
both-no false b e = refl

count_long : (h : Half) (S : Side) → 0 < count h S → 0 < S.length
unfolding count
count_long lo S p = omega arith
count_long hi S p = omega arith

count_none : (h : Half) (S : Side) → S.length ≡ 0 → count h S ≡ 0
unfolding count
count_none lo S p = omega arith
count_none hi S p = omega arith

-- ---- cells
pub cells-yes : (W H : Side) → 0 < W.length → 0 < H.length → has_cells W H ≡ true
unfolding has_cells
cells-yes W H p q = rw (lt-ltb 0 W.length p, lt-ltb 0 H.length q) refl

pub cells_are : (W H : Side) → has_cells W H ≡ true → (0 < W.length) × (0 < H.length)
unfolding has_cells
cells_are W H e = let a = halves (ltb 0 W.length) _ e in (ltb-true 0 W.length a.0, ltb-true 0 H.length a.1)

-- one of the sides is empty
pub data Empty (W H : Side) : Type 0 where
  wide : W.length ≡ 0 → Empty W H
  high : H.length ≡ 0 → Empty W H

pub cells-not : (W H : Side) → has_cells W H ≡ false → Empty W H
cells-not W H e = elim (dec_lt 0 W.length) [
  | no p ↦ wide (omega (arith, p))
  | yes p ↦ elim (dec_lt 0 H.length) [
    | no q ↦ high (omega (arith, q))
    | yes q ↦ absurd (differ (sym (cells-yes W H p q) ∙ e))
  ]
]
  where
    differ : true ≡ false → ⊥
    differ z = subst T z tt

pub empty-not : (W H : Side) → Empty W H → has_cells W H ≡ false
unfolding has_cells
empty-not W H (wide e) = rw (le-ltb 0 W.length (omega arith)) refl
empty-not W H (high e) = both-no (ltb 0 W.length) _ (le-ltb 0 H.length (omega arith))

pub empty-next : (W H : Side) → Empty W H → Empty (next W) (next H)
unfolding next
empty-next W H (wide e) = wide (count_none lo W e)
empty-next W H (high e) = high (count_none lo H e)

-- what a level has, those before it have
pub cells-before : (W H : Side) (k j : ℕ) → k ≤ j → has_cells (side_at j W) (side_at j H) ≡ true → has_cells (side_at k W) (side_at k H) ≡ true
unfolding side_at next
cells-before W H k zero h e = let z : k ≡ 0 = omega arith in rw z e
cells-before W H k (suc j) h e = elim (ℕ_discrete k (suc j)) [
  | yes z ↦ rw z e
  | no z ↦
      let a = cells_are (side_at (suc j) W) (side_at (suc j) H) e in
      cells-before W H k j (omega (arith, z)) (cells-yes (side_at j W) (side_at j H) (count_long lo (side_at j W) a.0) (count_long lo (side_at j H) a.1))
]

-- ---- a band row is a row of cells
pub record HasRow (W H : Side) (b : Band) (n : ℕ) : Type 0 where
  pub columns : 0 < count (across b) W
  pub first : first_set H (down b) ≤ n
  pub row : set_row H b n < count (down b) H

pub has-row : (W H : Side) (b : Band) (n : ℕ) → set_has W H b n ≡ true → HasRow W H b n
unfolding set_has
has-row W H b n e =
    let a = halves (ltb 0 (count (across b) W)) _ e in
    let c = halves (leb (first_set H (down b)) n) _ a.1 in
    record { columns = ltb-true _ _ a.0; first = leb-true _ _ c.0; row = ltb-true _ _ c.1 }

pub row_has : (W H : Side) (b : Band) (n : ℕ) → HasRow W H b n → set_has W H b n ≡ true
unfolding set_has
row_has W H b n a =
    rw (lt-ltb 0 (count (across b) W) a.columns, le-leb (first_set H (down b)) n a.first, lt-ltb (set_row H b n) (count (down b) H) a.row) refl

pub asked-has : (t : Bool) (W H : Side) (n : ℕ) (b : Band) → asked t W H n b ≡ true → (kept_at t b ≡ true) × (set_has W H b n ≡ true)
unfolding asked
asked-has t W H n b e = halves (kept_at t b) _ e

pub empty-has : (W H : Side) (b : Band) (n : ℕ) → Empty W H → set_has W H b n ≡ false
unfolding set_has
empty-has W H b n (wide e) = let z = count_none (across b) W e in rw (le-ltb 0 (count (across b) W) (omega arith)) refl
empty-has W H b n (high e) =
    let z = count_none (down b) H e in
    both-no (ltb 0 (count (across b) W)) _ (both-no (leb (first_set H (down b)) n) _ (le-ltb (set_row H b n) (count (down b) H) (omega arith)))

-- ---- an empty level has no steps
empty-rows : (k n : ℕ) (W H : Side) (bs : List Band) → Empty W H → rows_of k W H n bs ≡ []
unfolding rows_of
empty-rows k n W H [] e = refl
empty-rows k n W H (b ∷ bs) e = rw (empty-has W H b n e) (empty-rows k n W H bs e)

turn-none : (n : ℕ) (f : ℕ → List Step) → ((i : ℕ) → f i ≡ []) → in_turn n f ≡ []
unfolding in_turn
turn-none zero f e = refl
turn-none (suc n) f e = rw (turn-none n f e, e n) refl

pub empty-row : (f : ℕ) (H : Side) (set : ℕ → List Step) (r : ℕ) → ((n : ℕ) → set n ≡ []) → row_steps (ahead f) H set r ≡ []
unfolding row_steps
empty-row f H set r e = turn-none _ _ (λ i. e _)

pub empty-set : (f l k : ℕ) (W H : Side) (n : ℕ) → Empty W H → set_steps (ahead f) l k W H n ≡ []
unfolding set_steps set_rows feed_all
empty-set f zero k W H n e = rw (empty-rows k n W H _ e) refl
empty-set f (suc l) k W H n e =
    rw (
      empty-rows k n W H _ e,
      empty-row f (next H) (set_steps (ahead f) l (suc k) (next W) (next H)) (n - first_set H lo)
          (λ m. empty-set f l (suc k) (next W) (next H) m (empty-next W H e)),
    ) (same (leb (first_set H lo) n))
  where
    same : (t : Bool) → ◌≡◌ {A = List Step} (pick t [] [] ++ []) []
    same true = refl
    same false = refl

-- ---- a set without a low row
pub no-low : (W H : Side) (n : ℕ) → n < first_set H lo → (b : Band) → down b ≡ lo → set_has W H b n ≡ false
unfolding set_has
no-low W H n h b e = both-no (ltb 0 (count (across b) W)) _ (rw e (rw (lt-leb (first_set H lo) n h) refl))

-- ---- a set with a high row asks for a row, whichever of its bands may be next
module _ (W H : Side) (n : ℕ) (high : n < count hi H) where
  high-first : (b : Band) → down b ≡ hi → first_set H (down b) ≤ n
  unfolding first_set
  high-first b d = rw d (omega arith)

  high-row : (b : Band) → down b ≡ hi → set_row H b n < count (down b) H
  unfolding set_row first_set
  high-row b d = rw d (omega (arith, high))

  asks : (t : Bool) (b : Band) → kept_at t b ≡ true → down b ≡ hi → 0 < count (across b) W → asked t W H n b ≡ true
  unfolding asked
  asks t b k d p = rw (k, row_has W H b n (record { columns = p; first = high-first b d; row = high-row b d })) refl

  by : (t : Bool) (i : ℕ) (b : Band) → kept_at t b ≡ true → down b ≡ hi → i ≤ code b → 0 < count (across b) W
      → first_code (those (asked t W H n) (bands_from i)) < 4
  by t i b k d h p = omega (arith, first-le (asked t W H n) i b (asks t b k d p) h, code_lt b)

  one-half : 0 < W.length → (0 < count lo W → ⊥) → 0 < count hi W
  unfolding count
  one-half p z = omega (arith, z)

  pub high-asks : (t : Bool) (i : ℕ) → i ≤ 1 → has_cells W H ≡ true → next_band t W H n i < 4
  unfolding next_band look kept_at down across code
  high-asks t i h e = go (dec_lt 0 (count lo W))
    where
      go : Dec (0 < count lo W) → first_code (those (asked t W H n) (bands_from i)) < 4
      go (yes p) = by t i LH refl refl (omega arith) p
      go (no p) = by t i HH refl refl (omega arith) (one-half (cells_are W H e).0 p)

high_is : (H : Side) → count hi H ≡ (H.length + H.start % 2) / 2
unfolding count
high_is H = omega arith

end_is : (H : Side) → last_set H ≡ (H.start % 2 + (H.length - 1)) / 2
unfolding last_set
end_is H = refl

-- so a set of a level that asks for nothing is its last
pub last-asks : (t : Bool) (W H : Side) (n i : ℕ) → i ≤ 1 → has_cells W H ≡ true → n ≤ last_set H → next_band t W H n i ≡ 4 → n ≡ last_set H
last-asks t W H n i h cells there e = elim (dec_lt n (count hi H)) [
  | yes p ↦ absurd (omega (arith, e, high-asks W H n p t i h cells))
  | no p ↦ omega (arith, p, there, (cells_are W H cells).1, high_is H, end_is H)
]
