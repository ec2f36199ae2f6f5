-- What the levels above a line ask of a filter (specs/Filter): each field is a law of lines. The 5/3 meets them all (FiveThreeFilter), and so does the 9/7 of
-- crate nine_seven. What is proved over these laws alone holds for both. Assumes nothing.
use mathlib.Core.Path.{◌≡◌}
use mathlib.Core.Bool.{true}
use Prim.Native.Nat.{ℕ, ◌+◌, ◌*◌, ◌^◌, ◌≤◌, ◌<◌}
use native.Mathlib.Omega.{arith}
use lib.IntN.{ℤ, pos, nat_abs, ◌*ℤ◌}
use Rattle.numbers.specs.Word.{wrap32, whole}
use Rattle.lifting.specs.Line.{Half, lo}
use Rattle.lifting.specs.Grid.{Side, side, place, count, single_high, has_line}
use Rattle.lifting.specs.Filter.{Filter, line_back_by}
pub use Rattle.lifting.proofs.Keeping.{Keeping, words, wholes}

pub record FilterLaws (F : Filter) : Type 1 where
  -- what is stored is good,
  pub forward-good : {keep : ℤ → ℤ} (K : Keeping keep) (S : Side) (x : ℕ → ℤ) → ((i : ℕ) → i < S.length → K.Good (x i))
      → (h : Half) (n : ℕ) → n < count h S → K.Good (F.forward keep S x h n)
  pub back-good : {keep : ℤ → ℤ} (K : Keeping keep) (S : Side) (c : Half → ℕ → ℤ) → ((h : Half) (n : ℕ) → n < count h S → K.Good (c h n))
      → (i : ℕ) → i < S.length → K.Good (line_back_by F keep S c i)
  -- and the two ways are inverse. A single sample at an odd coordinate comes back if its double is good,
  pub line-back-forward : {keep : ℤ → ℤ} (K : Keeping keep) (S : Side) (x : ℕ → ℤ) → ((i : ℕ) → i < S.length → K.Good (x i))
      → (single_high S ≡ true → K.Good (pos 2 *ℤ x 0)) → (i : ℕ) → i < S.length → line_back_by F keep S (F.forward keep S x) i ≡ x i
  -- and values go there again if they are a line's; those of a line are
  pub line-forward-back : {keep : ℤ → ℤ} (K : Keeping keep) (S : Side) (c : Half → ℕ → ℤ) → ((h : Half) (n : ℕ) → n < count h S → K.Good (c h n))
      → has_line S c ≡ true → (h : Half) (n : ℕ) → n < count h S → F.forward keep S (line_back_by F keep S c) h n ≡ c h n
  pub forward-has : (S : Side) (x : ℕ → ℤ) → has_line S (F.forward wrap32 S x) ≡ true
  -- number n reads no place after that of low number n + ahead, the way back the values that are there,
  pub ahead-some : 1 ≤ F.ahead
  pub forward-reads : (keep : ℤ → ℤ) (S : Side) (x y : ℕ → ℤ) (h : Half) (n : ℕ) → n < count h S
      → ((i : ℕ) → i < S.length → i ≤ place S lo (n + F.ahead) → x i ≡ y i) → F.forward keep S x h n ≡ F.forward keep S y h n
  pub back-reads : (keep : ℤ → ℤ) (S : Side) (c c' : Half → ℕ → ℤ) → ((h : Half) (n : ℕ) → n < count h S → c h n ≡ c' h n)
      → (i : ℕ) → i < S.length → line_back_by F keep S c i ≡ line_back_by F keep S c' i
  -- and where that place is there, not the length
  pub forward-inner : (keep : ℤ → ℤ) (s N N' : ℕ) (x : ℕ → ℤ) (h : Half) (n : ℕ) → place (side s N) lo (n + F.ahead) < N
      → place (side s N') lo (n + F.ahead) < N' → F.forward keep (side s N) x h n ≡ F.forward keep (side s N') x h n
  -- samples within ±M give values within ±gain M, and where that is a 32-bit number nothing wraps; a level lifts both ways,
  pub gain : ℕ → ℕ
  pub forward-range : (M : ℕ) (S : Side) (x : ℕ → ℤ) → ((i : ℕ) → i < S.length → nat_abs (x i) ≤ M)
      → (h : Half) (n : ℕ) → n < count h S → nat_abs (F.forward whole S x h n) ≤ gain M
  pub forward-exact : (M : ℕ) (S : Side) → gain M < 2 ^ 31 → (x : ℕ → ℤ) → ((i : ℕ) → i < S.length → nat_abs (x i) ≤ M)
      → (h : Half) (n : ℕ) → n < count h S → F.forward wrap32 S x h n ≡ F.forward whole S x h n
  pub gain-double : (M : ℕ) → 2 * M ≤ gain M
  pub gain-twice : (M : ℕ) → gain (gain M) ≤ F.growth * M
  -- and the values of 16-bit samples are 32-bit numbers at every level that the filter has
  pub words-enough : 2 ^ 16 * F.growth ^ F.levels ≤ 2 ^ 31

module _ (F : Filter) (laws : FilterLaws F) where
  open laws use {gain, gain-double, gain-twice}

  -- one way stays below both
  pub gain-below : (M : ℕ) → 2 * gain M ≤ F.growth * M
  gain-below M = omega (arith, gain-double (gain M), gain-twice M)

  pub growth-some : 1 ≤ F.growth
  growth-some = omega (arith, gain-double 1, gain-below 1)
