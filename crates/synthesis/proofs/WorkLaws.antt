-- Working out a set, step by step: what each call comes to, whatever the filter. Assumes nothing.
use mathlib.Core.Path.{◌≡◌, refl, sym, ap, subst, ◌∙◌}
use mathlib.Core.Bool.{Bool, true, false}
use Prim.Native.Nat.{ℕ, zero, suc, ◌+◌, ◌-◌, ◌*◌, ◌%◌, ◌≤◌, ◌<◌}
use native.Mathlib.Decide.{ℕ_discrete}
use native.Mathlib.Omega.{arith}
use lib.IntN.{ℤ}
use lib.Dec.{T}
use borrow.Author.Tests.{eq-eqb, lt-ltb, le-ltb, lt-leb, le-leb}
use Rattle.lifting.specs.Grid.{Side, single_high}
use Rattle.lifting.proofs.SingleLaws.{single-odd}
use Rattle.filters.specs.Filters.{filter_of}
use Rattle.level.specs.Tried.{Tried, failed, passed, outcome, bind}
use Rattle.level.specs.Stretch as stretch
use Rattle.level.specs.Stretch.{end_of}
use Rattle.level.proofs.WorkLaws.{told-no, told-yes, bind-failed, bind-passed, told}
use Rattle.synthesis.specs.Columns.{Columns, columns_of}
use Rattle.synthesis.specs.Work.{set_unlifted, even_done, row_fits, admitted, pair_made, own_even}
use Rattle.synthesis.specs.Work.{first_made, pair_of, pair_before, pairs_made, earlier_made, most_made}
use Rattle.synthesis.specs.Work.{own_made, single_made, last_made, rest_made, rows_made, set_made, set_worked}

-- an odd row that is the last but not an only one has others
pub others : (H : Side) (n : ℕ) → 2 * n + 1 < H.start % 2 + H.length → single_high H ≡ false → 1 < H.length
others H n b f = elim (ℕ_discrete (H.start % 2) 1) [
  | yes o ↦ elim (ℕ_discrete H.length 1) [
    | yes m ↦ absurd (true-false (sym (eq-eqb H.length 1 m) ∙ sym (single-odd H o) ∙ f))
    | no m ↦ omega (arith, m)
  ]
  | no o ↦ omega (arith, o)
]
  where
    true-false : true ≡ false → ⊥
    true-false e = subst T e tt

module _ (C : Columns) where
  -- ---- rows tested
  module _ (k w : ℕ) (H : Side) (i : ℕ) (x z : ℕ → ℤ) (ez : z ≡ C.odd k w H (2 * i + 1) x) where
    pub pair-failed : (ok : Bool) → ok ≡ row_fits C k w (2 * i + 1) z → ok ≡ false → failed ≡ pair_made C k w H i x
    unfolding pair_made
    pair-failed ok eo bad = bind-failed _ _ (told-no ok z _ (told C.filter.rows C.fits k w (2 * i + 1) ok z _ ez eo) bad)

    pub pair-made : (ok more : Bool) → ok ≡ row_fits C k w (2 * i + 1) z → ok ≡ true → more ≡ row_fits C k w (2 * i + 2) z → outcome more z ≡ pair_made C k w H i x
    unfolding pair_made
    pair-made ok more eo good em =
        told C.filter.rows C.fits k w (2 * i + 2) more z z refl em
        ∙ bind-passed _ (admitted C k w (2 * i + 2)) z (told-yes ok z _ (told C.filter.rows C.fits k w (2 * i + 1) ok z _ ez eo) good)

  -- ---- the rows of a set
  module _ (k w : ℕ) (H : Side) (n : ℕ) (x : ℕ → ℤ) where
    pub first-none : (t : Bool) → t ≡ own_even H n → t ≡ false → passed x ≡ first_made C k w H n x
    unfolding first_made
    first-none t e b = rw (sym e ∙ b) refl

    pub first-made : (t ok : Bool) → t ≡ own_even H n → t ≡ true → ok ≡ row_fits C k w (2 * n) x → outcome ok x ≡ first_made C k w H n x
    unfolding first_made
    first-made t ok e b eo = rw (sym e ∙ b) (told C.filter.rows C.fits k w (2 * n) ok x x refl eo)

    pub before-none : (j : ℕ) → n < j → passed x ≡ pair_before C j k w H n x
    unfolding pair_before
    before-none j b = rw (lt-ltb n j b) refl

    pub before-pair : (i j : ℕ) → i ≡ pair_of n j → j ≤ n → pair_made C k w H i x ≡ pair_before C j k w H n x
    unfolding pair_before
    before-pair i j e b = rw (le-ltb n j b, e) refl

    pub most-failed : failed ≡ first_made C k w H n x → failed ≡ most_made C k w H n x
    unfolding most_made
    most-failed e = bind-failed _ _ e

    pub most-passed : passed x ≡ first_made C k w H n x → earlier_made C k w H n x ≡ most_made C k w H n x
    unfolding most_made
    most-passed e = bind-passed _ (earlier_made C k w H n) x e

    pub last_none : H.start % 2 + H.length ≤ 2 * n + 1 → passed x ≡ last_made C k w H n x
    unfolding last_made end_of
    last_none b = rw (le-ltb (2 * n + 1) (H.start % 2 + H.length) b) refl

    pub last-single : 2 * n + 1 < H.start % 2 + H.length → single_high H ≡ true → single_made C k w (2 * n + 1) x ≡ last_made C k w H n x
    unfolding last_made end_of
    last-single b f = rw (lt-ltb (2 * n + 1) (H.start % 2 + H.length) b, f) refl

    pub last-made : (ok : Bool) (z : ℕ → ℤ) → 2 * n + 1 < H.start % 2 + H.length → single_high H ≡ false → z ≡ C.odd k w H (2 * n + 1) x →
        ok ≡ row_fits C k w (2 * n + 1) z → outcome ok z ≡ last_made C k w H n x
    unfolding last_made end_of
    last-made ok z b f ez eo =
        rw (lt-ltb (2 * n + 1) (H.start % 2 + H.length) b, f) (told C.filter.rows C.fits k w (2 * n + 1) ok z _ ez eo)

    pub rest-none : 2 * n + 2 < H.start % 2 + H.length → passed x ≡ rest_made C k w H n x
    unfolding rest_made end_of
    rest-none b = rw (lt-leb (H.start % 2 + H.length) (2 * n + 2) b) refl

    pub rest-failed : H.start % 2 + H.length ≤ 2 * n + 2 → failed ≡ own_made C k w H n x → failed ≡ rest_made C k w H n x
    unfolding rest_made end_of
    rest-failed b e = rw (le-leb (H.start % 2 + H.length) (2 * n + 2) b) (bind-failed _ _ e)

    pub rest-last : (y : ℕ → ℤ) → H.start % 2 + H.length ≤ 2 * n + 2 → passed y ≡ own_made C k w H n x → last_made C k w H n y ≡ rest_made C k w H n x
    unfolding rest_made end_of
    rest-last y b e = rw (le-leb (H.start % 2 + H.length) (2 * n + 2) b) (bind-passed _ (last_made C k w H n) y e)

    pub rows-failed : failed ≡ most_made C k w H n x → failed ≡ rows_made C k w H n x
    unfolding rows_made
    rows-failed e = bind-failed _ _ e

    pub rows-passed : (y : ℕ → ℤ) → passed y ≡ most_made C k w H n x → rest_made C k w H n y ≡ rows_made C k w H n x
    unfolding rows_made
    rows-passed y e = bind-passed _ (rest_made C k w H n) y e

  -- ---- the whole set
  module _ (k : ℕ) (W H : Side) (n : ℕ) (x : ℕ → ℤ) where
    pub set-failed : failed ≡ set_unlifted C W H n x → failed ≡ set_made C k W H n x
    unfolding set_made
    set-failed e = bind-failed _ _ e

    pub set-passed : (y : ℕ → ℤ) → passed y ≡ set_unlifted C W H n x → rows_made C k W.length H n (even_done C k W.length H n y) ≡ set_made C k W H n x
    unfolding set_made
    set-passed y e = bind-passed _ (λ u. rows_made C k W.length H n (even_done C k W.length H n u)) y e

    pub worked : (last : Bool) (y : ℕ → ℤ) → y ≡ stretch.low_taken C.filter.rows last W H n x → set_made C k W H n y ≡ set_worked C last k W H n x
    unfolding set_worked
    worked last y e = ap (set_made C k W H n) e

-- ---- the pairs nearer than the look-ahead: the 5/3 has none, the 9/7 one
module _ (k w : ℕ) (H : Side) (n : ℕ) (x : ℕ → ℤ) where
  pub own-none : (f : ℕ) → f ≡ 0 → passed x ≡ own_made (columns_of f) k w H n x
  unfolding filter_of pairs_made
  own-none zero e = refl
  own-none (suc f) e = absurd (omega arith)

  pub own-one : (f : ℕ) → (f ≡ 0 → ⊥) → pair_before (columns_of f) 1 k w H n x ≡ own_made (columns_of f) k w H n x
  unfolding filter_of pairs_made bind
  own-one zero d = absurd (d refl)
  own-one (suc f) d = then-none (pair_before (columns_of (suc f)) 1 k w H n x)
    where
      then-none : (t : Tried) → t ≡ bind t (pairs_made (columns_of (suc f)) 0 k w H n)
      then-none failed = refl
      then-none (passed y) = refl
