-- Demand 1 of the rounding and of its figure (document 02, Q-10); the C calls answer and leave the same. W columns, H rows, L levels, the step s; x is the
-- plane's area, and b the number that the figure goes to; q is the answer.
use Rattle.std.specs.Prelude.{ℕ, ◌*◌, eqb}
use Rattle.numbers.specs.Signal.{pick}
use Rattle.map_questions.specs.Calls.{passed}
use Rattle.level.specs.Level.{Memory}
use Rattle.rounding.specs.Rounding.{rounded_plane}
use Rattle.rounding.specs.Figure.{error_bound}
use Rattle.rounding.specs.Calls.{round_question, bound_question}
use Rattle.rounding.specs.Plain.{RoundAsks, BoundAsks}
use Rattle.demand_1.specs.Words.{Kept, Surplus}

abbrev pub rounded_after : ℕ → ℕ → ℕ → ℕ → ℕ → Memory → Memory
rounded_after L W H s q x = passed q (W * H) (rounded_plane L W H s x) x

pub record Round (L W H s : ℕ) (x : Memory) (q : ℕ) : Type 0 where
  pub plane : Kept q x (rounded_after L W H s q x)
  pub surplus : Surplus (W * H) x (rounded_after L W H s q x)

-- for every argument and every area: which number is answered, and what that says of what was lent
pub record RoundCalls : Type 0 where
  pub round_asks : (W H L s n : ℕ) → RoundAsks W H L s n (round_question W H L s n)
  pub round : (L W H s : ℕ) (x : Memory) (q : ℕ) → Round L W H s x q
  pub bound_asks : (L s : ℕ) → BoundAsks L s (bound_question L s)
  pub bound : (L s b q : ℕ) → Kept q b (pick (eqb q 0) (error_bound L s) b)
