-- The figures of a filter are the plain numbers of documents 01 and 02 (wavelet's Asks): its number, its levels, its line store and its range. Assumes nothing.
use mathlib.Core.Path.{◌≡◌, refl}
use mathlib.Core.Bool.{true}
use mathlib.Core.Logic.{◌↔◌}
use Prim.Native.Nat.{ℕ, zero, suc, ◌≤◌}
use native.Mathlib.Omega.{arith}
use lib.Dec.{leb}
use borrow.Author.Tests.{leb-true, le-leb}
use Rattle.lifting.specs.Grid.{Side}
use Rattle.wavelet.specs.Limits.{max_sample, range}
use Rattle.wavelet.specs.Questions.{within}
use Rattle.wavelet.specs.Store.{store_length}
use Rattle.wavelet.specs.Asks.{Known, by_filter, Levels, needed, largest}
use Rattle.wavelet.proofs.QuestionLaws.{within-true, within-yes}
use Rattle.filters.specs.Filters.{filter_of, is_filter}
use Rattle.filters.specs.Figures.{store_by}

-- question 18
pub known-exactly : (f : ℕ) → is_filter f ≡ true ↔ Known f
unfolding is_filter
known-exactly f = (λ e. omega (arith, leb-true, e), λ h. le-leb f _ (omega arith))

-- question 4
levels-are : (f : ℕ) → (filter_of f).levels ≡ by_filter f 5 4
unfolding filter_of
levels-are zero = omega arith
levels-are (suc f) = omega arith

pub levels-exactly : (f L : ℕ) → within 1 (filter_of f).levels L ≡ true ↔ Levels f L
levels-exactly f L = (
  λ e. let p = within-true 1 (filter_of f).levels L e in (p.0, omega (arith, p.1, levels-are f)),
  λ h. within-yes 1 (filter_of f).levels L h.0 (omega (arith, h.1, levels-are f)),
)

-- question 5 of a line store
pub needed-is : (f : ℕ) (W : Side) (L : ℕ) → store_by f W L ≡ needed f W L
unfolding filter_of store_length
needed-is zero W L = refl
needed-is (suc f) W L = refl

pub store-exactly : (f : ℕ) (W : Side) (L n : ℕ) → leb (store_by f W L) n ≡ true ↔ needed f W L ≤ n
store-exactly f W L n = (
  λ e. omega (arith, leb-true (store_by f W L) n e, needed-is f W L),
  λ h. le-leb (store_by f W L) n (omega (arith, h, needed-is f W L)),
)

-- question 7: 65,535 × 4^k, or 6^k
pub range-is : (f k : ℕ) → range (filter_of f) k ≡ largest f k
unfolding filter_of range max_sample
range-is zero k = refl
range-is (suc f) k = refl
