-- Demand 1, of one call: q is the number that it answers; `before` and `after` are what stood and what stands in something that it was lent.
use Rattle.std.specs.Prelude.{◌≡◌, ℕ, ◌≤◌, ◌<◌, ℤ, pos}

-- document 01: "The first no gives its number, and nothing changes."
abbrev pub Kept : {A : Type 0} → ℕ → A → A → Type 0
Kept q before after = (q ≡ 0 → ⊥) → after ≡ before

-- of what 14 changes: "Here a no zeroes the needed line store and ends the reader, in a feed or a draw, with the output untouched; in the whole-map engine it
-- zeroes heights and work area."
abbrev pub KeptBut14 : {A : Type 0} → ℕ → A → A → Type 0
KeptBut14 q before after = (q ≡ 0 → ⊥) → (q ≡ 14 → ⊥) → after ≡ before

-- the first n numbers are zero and the others as before: "the surplus is untouched"
pub record Zeroed (n : ℕ) (before after : ℕ → ℤ) : Type 0 where
  pub front : (j : ℕ) → j < n → after j ≡ pos 0
  pub surplus : (j : ℕ) → n ≤ j → after j ≡ before j

-- past the first n numbers nothing changed
abbrev pub Surplus : {A : Type 0} → ℕ → (ℕ → A) → (ℕ → A) → Type 0
Surplus n before after = (j : ℕ) → n ≤ j → after j ≡ before j
