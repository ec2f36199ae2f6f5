-- What each call of the turn-giver answers. t is the turn-giver, a state by value: no call changes anything else.
use Rattle.std.specs.Prelude.{Bool, ℕ, leb}
use Rattle.numbers.specs.Signal.{both}
use Rattle.wavelet.specs.Questions.{ask}
use Rattle.calls.specs.Lists.{Reply, unless}
use Rattle.turns.specs.declared.Turns.{Turns}
use Rattle.turns.specs.Marks.{last_reader, all_marked, marked, with_mark, without_mark}
use Rattle.turns.specs.Order.{Served, reader, nobody, next_after}
use Rattle.turns.specs.Answers.{Given, a_reader, nothing}

-- ---- set-up asks nothing: nobody wants, and "the first turn looks from reader 0 on", as after reader 15
abbrev pub fresh : Turns
fresh = record { marks = 0; last = last_reader }

-- ---- "Question 1 is asked of the turn-giver's state first. Refused: 21, if a reader number is not 0 to 15."
unfoldable pub in_range : Turns → Bool
in_range t = both (leb t.marks all_marked) (leb t.last last_reader)

unfoldable pub change_question : Turns → ℕ → ℕ
change_question t n = ask (in_range t) 1 (ask (leb n last_reader) 21 0)

unfoldable pub turn_question : Turns → ℕ
turn_question t = ask (in_range t) 1 0

-- ---- a want is marked and cleared: the order stays
unfoldable pub mark_reply : Turns → ℕ → Reply Turns
mark_reply t n = unless (change_question t n) (record { marks = with_mark t.marks n; last = t.last })

unfoldable pub clear_reply : Turns → ℕ → Reply Turns
clear_reply t n = unless (change_question t n) (record { marks = without_mark t.marks n; last = t.last })

-- ---- a turn: the marks stay, and with Nothing the order too
abbrev pub lent : Turns → Served → Given
lent t (reader n) = a_reader n (record { marks = t.marks; last = n })
lent t nobody = nothing

unfoldable pub turn_reply : Turns → Reply Given
turn_reply t = unless (turn_question t) (lent t (next_after (marked t.marks) t.last))
