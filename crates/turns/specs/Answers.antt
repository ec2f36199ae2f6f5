-- The answers of the turn-giver's calls in document 02's terms: what a call gives, or the number of the question that turned it away.
use Rattle.std.specs.Prelude.{ℕ, Option, Some, None, Result, Ok, Err}
use Rattle.refusal.specs.declared.Refusal.{Refusal}
use Rattle.refusal.specs.Numbers.{number}
use Rattle.calls.specs.Lists.{Reply, gives, refused}
use Rattle.turns.specs.declared.Turns.{Turns}

-- the reader that is served and the turn-giver then, or Nothing
pub data Given : Type 0 where
  a_reader : ℕ → Turns → Given
  nothing : Given

abbrev pub of_changed : Result Turns Refusal → Reply Turns
of_changed (Ok t) = gives t
of_changed (Err r) = refused (number r)

abbrev pub of_turn : Result (Option (ℕ × Turns)) Refusal → Reply Given
of_turn (Ok (Some d)) = gives (a_reader d.0 d.1)
of_turn (Ok None) = gives nothing
of_turn (Err r) = refused (number r)
