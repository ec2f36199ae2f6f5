-- A tolerant reader (Q-10), as one that takes turns: of W columns and H rows at L levels, on a store in which x stood; its feeds are lent n numbers of it.
use Rattle.std.specs.Prelude.{ℕ, ℤ}
use Rattle.lifting.specs.Grid.{side}
use Rattle.rounding_error.specs.Tolerant.{tolerant_world}
use Rattle.fair_turns.specs.Reading.{Reading}
use Rattle.fair_turns.specs.Standing.{reading}

abbrev pub tolerantly : ℕ → ℕ → ℕ → ℕ → (ℕ → ℤ) → Reading
tolerantly W H L n x = reading 0 0 (side 0 W) (side 0 H) L n (tolerant_world W H L x)
