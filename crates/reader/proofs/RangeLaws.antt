-- The test of 7 as a test of two bounds. Assumes nothing.
use mathlib.Core.Path.{◌≡◌}
use Prim.Native.Nat.{ℕ}
use lib.IntN.{ℤ, pos, ◌-ℤ◌}
use Rattle.numbers.specs.Tests.{every}
use Rattle.numbers.proofs.TestLaws.{every-same}
use Rattle.wavelet.specs.Limits.{range}
use Rattle.areas.specs.Areas.{between}
use Rattle.filters.specs.Filters.{filter_of}
use Rattle.reader.specs.Questions.{run_fits}
use Rattle.level.proofs.AdmitLaws.{abs-between}

pub run_is : (f k n : ℕ) (v : ℕ → ℤ) (low high : ℤ) → low ≡ pos 0 -ℤ pos (range (filter_of f) k) → high ≡ pos (range (filter_of f) k)
    → every n (λ i. between low high (v i)) ≡ run_fits f k n v
unfolding run_fits
run_is f k n v low high el eh = every-same n _ _ (λ i h. cc (el, eh, abs-between (range (filter_of f) k) (v i)))
