-- What the calls read and wrote, one after the other. Assumes nothing.
use mathlib.Core.Path.{◌≡◌, subst}
use mathlib.Core.List.{List}
use Prim.Native.Nat.{ℕ}
use Rattle.text.proofs.MoveLaws as moves
use Rattle.listing.specs.States.{State}
use Rattle.listing.specs.Moves.{Went}

-- store and row area of the second call are as long as those of the first
pub went_on : {n k n' k' : ℕ} {s s₁ s₂ : State} {p o o₁ o₂ : List ℕ} {a a₁ a₂ b b₁ b₂ : ℕ} → n' ≡ n → k' ≡ k
    → Went n k s p a a₁ o o₁ b b₁ s₁ → Went n' k' s₁ p a₁ a₂ o₁ o₂ b₁ b₂ s₂ → Went n k s p a a₂ o o₂ b b₂ s₂
went_on {n} {k} {n'} {k'} {s} {s₁} {s₂} {p} {o₁ = o₁} {o₂} {a₁ = a₁} {a₂} {b₁ = b₁} {b₂} en ek v w =
    moves.went_on v (subst (λ y. Went n y s₁ p a₁ a₂ o₁ o₂ b₁ b₂ s₂) ek (subst (λ y. Went y k' s₁ p a₁ a₂ o₁ o₂ b₁ b₂ s₂) en w))
