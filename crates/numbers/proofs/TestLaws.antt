-- The laws of a test of every number. Assumes nothing.
use mathlib.Core.Path.{◌≡◌, refl}
use mathlib.Core.Bool.{Bool, true}
use Prim.Native.Nat.{ℕ, zero, suc, ◌<◌}
use native.Mathlib.Decide.{ℕ_discrete}
use native.Mathlib.Omega.{arith}
use Rattle.numbers.specs.Tests.{every}
use Rattle.numbers.proofs.Sweep.{both}

pub every-each : (n : ℕ) (p : ℕ → Bool) → every n p ≡ true → (i : ℕ) → i < n → p i ≡ true
unfolding every
every-each zero p e i h = absurd (omega arith)
every-each (suc n) p e i h =
    let a = both (every n p) (p n) e in
    elim (ℕ_discrete i n) [ yes q ↦ rw q a.1 | no d ↦ every-each n p a.0 i (omega arith) ]

pub each-every : (n : ℕ) (p : ℕ → Bool) → ((i : ℕ) → i < n → p i ≡ true) → every n p ≡ true
unfolding every
each-every zero p f = refl
each-every (suc n) p f = simp (each-every n p (λ i h. f i (omega arith)), f n (omega arith))

-- tests that agree below n
pub every-same : (n : ℕ) (p q : ℕ → Bool) → ((i : ℕ) → i < n → p i ≡ q i) → every n p ≡ every n q
unfolding every
every-same zero p q e = refl
every-same (suc n) p q e = rw (every-same n p q (λ i h. e i (omega arith)), e n (omega arith))
