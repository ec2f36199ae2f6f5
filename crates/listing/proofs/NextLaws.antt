-- What a test says of numbers, over plain variables: in a function's own proof `omega` would read all of its places. Assumes nothing.
use mathlib.Core.Path.{◌≡◌}
use Prim.Native.Nat.{ℕ, ◌+◌, ◌-◌, ◌≤◌, ◌<◌, min}
use native.Mathlib.Omega.{arith}

pub is_some : {n : ℕ} → (n ≡ 0 → ⊥) → 0 < n
is_some h = omega arith

-- the room m after place b
pub room_after : (b m n : ℕ) → b < n → m ≤ n - b → b + m ≤ n
room_after b m n h g = omega arith

-- e is the least of two
pub least_first : {e : ℕ} (a b : ℕ) → e ≡ min a b → e ≤ a
least_first a b h = omega arith

pub least-second : {e : ℕ} (a b : ℕ) → e ≡ min a b → e ≤ b
least-second a b h = omega arith

pub below-least : {v e : ℕ} (a b : ℕ) → e ≡ min a b → v < a → v < b → v < e
below-least a b h f g = omega arith

pub up-to : {a b c : ℕ} → a ≤ b → b ≤ c → a ≤ c
up-to f g = omega arith

pub then_less : {a b : ℕ} → a < b → a ≤ b
then_less f = omega arith

pub begins : (b m n : ℕ) → b + m ≤ n → b ≤ n
begins b m n h = omega arith
