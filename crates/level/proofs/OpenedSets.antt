-- The laws of the sets of a level: which rows need a set that no row before them needs, at the look-ahead a. Assumes nothing.
use mathlib.Core.Bool.{true, false}
use mathlib.Core.Path.{◌≡◌}
use Prim.Native.Nat.{ℕ, suc, ◌+◌, ◌≤◌}
use native.Mathlib.Omega.{arith}
use borrow.Author.Tests.{lt-ltb, ltb-false}
use Rattle.lifting.specs.Grid.{Side}
use Rattle.wavelet.specs.Steps.{set_of, sets_before}
use Rattle.wavelet.proofs.StepLaws.{set-rises}
use Rattle.level.specs.Sets.{opens}

-- the first row needs a set, and a row that needs no more is of the set of the one before
pub opens-first : (a : ℕ) (H : Side) → opens a H 0 ≡ true
unfolding opens sets_before
opens-first a H = lt-ltb 0 (set_of a H 0 + 1) (omega arith)

pub same_set : (a : ℕ) (H : Side) (r : ℕ) → opens a H (suc r) ≡ false → set_of a H (suc r) ≡ set_of a H r
unfolding opens sets_before
same_set a H r e = let q : set_of a H (suc r) + 1 ≤ set_of a H r + 1 = ltb-false _ _ e in omega (arith, set-rises a H r)
