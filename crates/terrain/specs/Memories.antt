-- The caller's memory between two calls: the state array and the line store.
use Rattle.std.specs.Prelude.{List, ℕ, ℤ}

pub record Memories : Type 0 where
  pub state : List ℕ
  pub store : ℕ → ℤ
