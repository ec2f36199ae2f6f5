-- A patch copied row by row, and which places of a plane are in the patch of what is in reach of one band. Assumes nothing.
use mathlib.Core.Path.{◌≡◌, refl, sym, ap₂, ◌∙◌}
use mathlib.Core.Bool.{Bool, true, false}
use Prim.Native.Nat.{ℕ, ◌+◌, ◌-◌, ◌*◌, ◌≤◌, ◌<◌}
use native.Mathlib.Omega.{arith}
use lib.IntN.{ℤ}
use borrow.Author.Tests.{lt-ltb, le-ltb, le-leb, lt-leb, leb-true, ltb-true}
use Rattle.numbers.proofs.Sweep.{both as both_yes}
use Rattle.numbers.specs.Signal.{both, spliced}
use Rattle.wavelet.specs.Bands.{Grid}
use Rattle.wavelet.specs.Plane.{cells}
use Rattle.map_levels.proofs.GridSweep.{RowSwept}
use Rattle.map_levels.proofs.LevelCalls.{copy-turn}
use Rattle.strokes.specs.Local.{among, patch, patch_copied}
use Rattle.strokes.specs.declared.patch.Patch.{Patch}

module _ (a n i : ℕ) where
  pub among_in : a ≤ i → i < a + n → among a n i ≡ true
  unfolding among
  among_in p q = simp (le-leb a i p, lt-ltb i (a + n) q)

  pub among_below : i < a → among a n i ≡ false
  unfolding among
  among_below p = simp (lt-leb a i p)

  pub among-past : a + n ≤ i → among a n i ≡ false
  unfolding among
  among-past q = simp (le-leb a i (omega arith), le-ltb i (a + n) q)

pub among-yes : (a n i : ℕ) → among a n i ≡ true → (a ≤ i) × (i < a + n)
unfolding among
among-yes a n i e = let k = both_yes _ _ e in (leb-true a i k.0, ltb-true i (a + n) k.1)

-- a second test that fails
pub second-no : (b : Bool) → both b false ≡ false
second-no true = refl
second-no false = refl

module _ (p : Patch) (g P : Grid) (r c : ℕ) where
  pub patch-in : p.row ≤ r → r < p.row + p.rows → p.column ≤ c → c < p.column + p.columns → patch_copied p g P r c ≡ g (r - p.row) (c - p.column)
  unfolding patch_copied
  patch-in a b d e = simp (among_in p.column p.columns c d e, among_in p.row p.rows r a b)

  pub patch-above : r < p.row → patch_copied p g P r c ≡ P r c
  unfolding patch_copied
  patch-above a = simp (among_below p.row p.rows r a, second-no (among p.column p.columns c))

  pub patch-below : p.row + p.rows ≤ r → patch_copied p g P r c ≡ P r c
  unfolding patch_copied
  patch-below a = simp (among-past p.row p.rows r a, second-no (among p.column p.columns c))

  pub patch-left : c < p.column → patch_copied p g P r c ≡ P r c
  unfolding patch_copied
  patch-left a = simp (among_below p.column p.columns c a)

  pub patch-right : p.column + p.columns ≤ c → patch_copied p g P r c ≡ P r c
  unfolding patch_copied
  patch-right a = simp (among-past p.column p.columns c a)

-- row i of the patch copied
pub patch-turn : (A R C H W i : ℕ) (g : Grid) (z x x' : ℕ → ℤ) → C + W ≤ A → i < H → x' ≡ spliced ((R + i) * A + C) W (g i) x →
    RowSwept A (patch_copied (patch R C H W) g (cells A z)) (cells A z) (R + i) x →
    RowSwept A (patch_copied (patch R C H W) g (cells A z)) (cells A z) (R + (i + 1)) x'
patch-turn A R C H W i g z x x' wide ih is sw =
    let k : R + i + 1 ≡ R + (i + 1) = omega arith in
    rw k at (copy-turn A (C + W) C W (R + i) ((R + i) * A + C) _ _ (g i) x x' wide refl refl is
    (λ c cw.
    let r : R + i - R ≡ i = omega arith in
    let s : C + c - C ≡ c = omega arith in
    sym (patch-in (patch R C H W) g (cells A z) (R + i) (C + c) (omega arith) (omega arith) (omega arith) (omega arith) ∙ ap₂ g r s))
    (λ c b. patch-left (patch R C H W) g (cells A z) (R + i) c b)
    (λ c b. patch-right (patch R C H W) g (cells A z) (R + i) c b) sw)
