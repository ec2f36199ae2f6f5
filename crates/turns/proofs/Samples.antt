-- Sixteen turns are needed at times: with all sixteen readers marked the turns go round from reader 0 on, and reader 15 is served by the last of them.
-- Assumes nothing.
use mathlib.Core.Path.{◌≡◌, refl}
use mathlib.Core.List.{List, [], ◌∷◌}
use Rattle.wavelet.specs.Order.{in_turn}
use Rattle.calls.specs.Lists.{gives}
use Rattle.calls.specs.Lists as lists
use Rattle.turns.specs.Marks.{readers, marked, with_mark}
use Rattle.turns.specs.Order.{reader, first_from, next_after}
use Rattle.turns.specs.Calls.{fresh, in_range, change_question, turn_question, mark_reply, turn_reply}
use Rattle.turns.specs.Lists.{Call, mark, turn, turns, event, next, events, final}

pub marks-all : List Call
marks-all = in_turn readers (λ n. mark n ∷ [])

pub sixteen : List Call
sixteen = in_turn readers (λ _. turn ∷ [])

pub sixteenth : events sixteen (final marks-all fresh) ≡ in_turn readers (λ n. turns (gives (reader n)) ∷ [])
unfolding marks-all sixteen in_turn lists.events lists.final event next mark_reply turn_reply in_range change_question turn_question marked with_mark first_from
    next_after
sixteenth = refl
