-- What the rounds know of a program.
use Rattle.std.specs.Prelude.{List, ℕ}

pub record Machine (S : Type 0) : Type 1 where
  -- from a state to another: the bytes read, and the text written (text/specs/Moves)
  pub Move : S → List ℕ → List ℕ → S → Type 0
  -- 0 where nothing is being written
  pub busy : S → ℕ
  -- the phase of its input: from 4 on it reads no more (pgm/specs/InputSteps)
  pub phase : S → ℕ
