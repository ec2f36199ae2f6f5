-- The four factors: each is the 32-bit float nearest to the decimal that document 02 gives. Assumes nothing.
use mathlib.Core.Path.{◌≡◌, refl}
use mathlib.Core.Logic.{◌≢◌}
use mathlib.Core.Bool.{Bool, true, false}
use Prim.Native.Nat.{ℕ, ◌+◌, ◌-◌, ◌*◌, ◌^◌, ◌<◌}
use native.Mathlib.Omega.{arith}
use lib.Ieee.{Float, binary32, of_bits, odd, round}
use Rattle.profile.specs.Profile.{alpha, beta, gamma, delta}

-- how far two numbers are apart
abbrev apart : ℕ → ℕ → ℕ
apart a b = (a - b) + (b - a)

-- c is the 32-bit float nearest to num / 10^9, negative where s is true: it is what the language's rounding makes of that fraction.
-- And in plain numbers: c is m / 2^k, with m of 24 digits, so that its neighbours among the 32-bit floats are (m − 1) / 2^k and
-- (m + 1) / 2^k, and no other q / 2^k is as near to num / 10^9.
pub record NearestTo (s : Bool) (num k m : ℕ) (c : Float) : Type 0 where
  pub rounded : c ≡ round binary32 s num 1000000000
  pub value : c ≡ odd 24 s m 0 k
  pub digits : (2 ^ 23 < m) × (m + 1 < 2 ^ 24)
  pub nearer : (q : ℕ) → q ≢ m → apart (m * 1000000000) (num * 2 ^ k) < apart (q * 1000000000) (num * 2 ^ k)

pub alpha-nearest : NearestTo true 1586134342 23 13305459 alpha
unfolding alpha of_bits round odd
alpha-nearest = record { rounded = refl; value = refl; digits = (omega arith, omega arith); nearer = λ q h. omega arith }

pub beta-nearest : NearestTo true 52980118 28 14221742 beta
unfolding beta of_bits round odd
beta-nearest = record { rounded = refl; value = refl; digits = (omega arith, omega arith); nearer = λ q h. omega arith }

pub gamma-nearest : NearestTo false 882911075 24 14812790 gamma
unfolding gamma of_bits round odd
gamma-nearest = record { rounded = refl; value = refl; digits = (omega arith, omega arith); nearer = λ q h. omega arith }

pub delta-nearest : NearestTo false 443506852 25 14881621 delta
unfolding delta of_bits round odd
delta-nearest = record { rounded = refl; value = refl; digits = (omega arith, omega arith); nearer = λ q h. omega arith }
