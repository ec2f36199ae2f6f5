-- Text in a lent area.
use Rattle.std.specs.Prelude.{◌≡◌, List, ◌++◌, ℕ, ◌+◌, ◌≤◌, ◌<◌, length, take, drop}

-- the bytes s stand right before place `at`, from place r on, and all else is as it was
pub record Put (s : List ℕ) (at r : ℕ) (before after : List ℕ) : Type 0 where
  pub place : r + length s ≡ at
  pub room : at ≤ length before
  pub text : after ≡ take r before ++ (s ++ drop at before)

-- the bytes s stand from place a on, up to place r, and all else is as it was
pub record Wrote (s : List ℕ) (a r : ℕ) (before after : List ℕ) : Type 0 where
  pub place : r ≡ a + length s
  pub room : r ≤ length before
  pub text : after ≡ take a before ++ (s ++ drop r before)

-- the bytes s are written from place a on where they fit, and r is the place after them; where they do not fit nothing is written, and r is a
pub record Puts (s : List ℕ) (a r : ℕ) (before after : List ℕ) : Type 0 where
  pub whole : a + length s ≤ length before → Wrote s a r before after
  pub none : length before < a + length s → (r ≡ a) × (after ≡ before)
