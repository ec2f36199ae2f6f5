-- A number read from memory and stored there: its place in bytes, and what a step makes of numbers read back. Assumes nothing.
use mathlib.Core.Path.{◌≡◌}
use mathlib.Core.List.{List}
use Prim.Native.Nat.{ℕ, ◌*◌, ◌^◌, ◌<◌}
use native.Mathlib.Omega.{arith}
use lib.IntN.{ℤ}
use lib.ListN.{length, set, length-set}
use mir.Syntax.{w64}
use mir.Val.{Fits}

pub bytes : (p n : ℕ) → p < n → n * 4 < 2 ^ 63 → Fits w64 (p * 4)
bytes p n h small = omega arith

-- an x' is x read back
pub step-read : (f : ℤ → ℤ → ℤ → ℤ) (r r' x x' a a' b b' : ℤ) → r' ≡ r → r ≡ f x' a' b' → x' ≡ x → a' ≡ a → b' ≡ b → r' ≡ f x a b
step-read f r r' x x' a a' b b' er is ex ea eb = cc

-- a store leaves every place
pub in-set : (l : List ℤ) (p q : ℕ) (v : ℤ) → q < length l → q < length (set l p v)
in-set l p q v h = rw (length-set l p v) h
