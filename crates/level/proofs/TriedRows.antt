-- Rows tried in a level's stretch of m rows: what trying comes to, and a row tested. Assumes nothing.
use mathlib.Core.Path.{◌≡◌, refl, sym, subst, ◌∙◌}
use mathlib.Core.Bool.{Bool, true, false}
use Prim.Native.Nat.{ℕ, ◌+◌, ◌<◌}
use lib.IntN.{ℤ}
use lib.Dec.{T}
use Rattle.numbers.specs.Signal.{pick}
use Rattle.numbers.proofs.TestLaws.{every-each, each-every}
use Rattle.lifting.specs.Line.{Half}
use Rattle.lifting.specs.Grid.{Side, place, count, deinterleaved}
use Rattle.lifting.proofs.GridLaws.{place-in, in_place, by_place}
use Rattle.level.specs.Tried.{Tried, failed, passed, bind}
use Rattle.level.specs.Stretch.{row_place, half_place, row_fits, admitted, RowStands}
use Rattle.level.proofs.RowsIn.{half-inside, by-halves}

-- ---- what trying comes to: a memory with a property, or a value that does not fit where N says that all do
pub data Outcome (N : Type 0) (P : (ℕ → ℤ) → Type 0) : Tried → Type 0 where
  stops : (N → ⊥) → Outcome N P failed
  goes : (y : ℕ → ℤ) → P y → Outcome N P (passed y)

pub bind-outcome : {N : Type 0} {P Q : (ℕ → ℤ) → Type 0} (t : Tried) (f : (ℕ → ℤ) → Tried) → Outcome N P t → ((y : ℕ → ℤ) → P y → Outcome N Q (f y)) →
    Outcome N Q (bind t f)
unfolding bind
bind-outcome _ f (stops n) g = stops n
bind-outcome _ f (goes y p) g = g y p

pub not-false : (t : Bool) → t ≡ true → t ≡ false → ⊥
not-false t e f = subst T (sym e ∙ f) tt

-- ---- a test of every number of a row, of those that stand there
module _ (m : ℕ) (W : Side) (P : ℤ → Bool) (q : ℕ) (x row : ℕ → ℤ) (s : RowStands m W x q (deinterleaved W row)) where
  fits-deinterleaved : ((a : Half) (i : ℕ) → i < count a W → P (deinterleaved W row a i) ≡ true) → (c : ℕ) → c < W.length → P (row c) ≡ true
  unfolding deinterleaved
  fits-deinterleaved f = by_place W (λ c. c < W.length → P (row c) ≡ true) (λ a i b. f a i (in_place W a i b))

  pub each_stands : ((i : ℕ) → i < W.length → P (x (row_place m W.length q + i)) ≡ true) → (c : ℕ) → c < W.length → P (row c) ≡ true
  each_stands f = fits-deinterleaved (λ a i b. subst (λ v. P v ≡ true) (s a i b) (f (half_place a W + i) (half-inside a W i b)))

  pub stands-each : ((c : ℕ) → c < W.length → P (row c) ≡ true) → (i : ℕ) → i < W.length → P (x (row_place m W.length q + i)) ≡ true
  unfolding deinterleaved
  stands-each f =
      by-halves W (λ j. P (x (row_place m W.length q + j)) ≡ true)
      (λ a i b. subst (λ v. P v ≡ true) (sym (s a i b)) (f (place W a i) (place-in W a i b)))

-- ---- the test of a row, by which nothing goes on if a value does not pass and N says that all do
pub admit : (test : ℕ → ℤ → Bool) (m k : ℕ) (W : Side) (N : Type 0) (P : (ℕ → ℤ) → Type 0) (q : ℕ) (row x : ℕ → ℤ) →
    (N → (c : ℕ) → c < W.length → test k (row c) ≡ true) → RowStands m W x q (deinterleaved W row) →
    (((c : ℕ) → c < W.length → test k (row c) ≡ true) → P x) → Outcome N P (admitted m test k W.length q x)
unfolding admitted row_fits
admit test m k W N P q row x all s f = go (row_fits m test k W.length q x) refl
  where
    go : (t : Bool) → row_fits m test k W.length q x ≡ t → Outcome N P (pick t (passed x) failed)
    go true e = goes x (f (each_stands m W (test k) q x row s (every-each W.length _ e)))
    go false e = stops (λ n. not-false (row_fits m test k W.length q x)
        (each-every W.length _ (stands-each m W (test k) q x row s (all n))) e)
