-- What the C calls on a turn-giver answer: what `turns` says of the call on the turn-giver that the array s holds, and 1 where it holds none.
use Rattle.std.specs.Prelude.{List, ℕ}
use Rattle.numbers.specs.Signal.{pick}
use Rattle.calls.specs.Lists.{Reply, refused}
use Rattle.turns.specs.declared.Turns.{Turns}
use Rattle.turns.specs.Answers.{Given}
use Rattle.turns.specs.Calls.{mark_reply, clear_reply, turn_reply}
use Rattle.states.specs.TurnsState.{is_turns, turns_of}

abbrev pub marking : List ℕ → ℕ → Reply Turns
marking s n = pick (is_turns s) (mark_reply (turns_of s) n) (refused 1)

abbrev pub clearing : List ℕ → ℕ → Reply Turns
clearing s n = pick (is_turns s) (clear_reply (turns_of s) n) (refused 1)

abbrev pub giving : List ℕ → Reply Given
giving s = pick (is_turns s) (turn_reply (turns_of s)) (refused 1)
