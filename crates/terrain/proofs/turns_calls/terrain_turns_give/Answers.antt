-- `terrain_turns_give` meets its contract: what the turn of the unpacked turn-giver answers, and 1 where the array is none. Assumes nothing.
use mathlib.Core.Path.{◌≡◌, sym, ap, ◌∙◌}
use Rattle.calls.specs.Lists.{Reply, refused}
use Rattle.turns.specs.declared.Turns.{Turns}
use Rattle.turns.specs.Answers.{Given}
use Rattle.turns.specs.Calls.{turn_reply}
use Rattle.states.specs.WriterAnswers.{number}
use Rattle.states.specs.TurnsState.{is_turns, turns_of, turn_words, reader_of}
use Rattle.terrain.specs.TurnsCalls.{giving}
use Rattle.terrain.proofs.CallLaws.{turned, went}
use Rattle.terrain.proofs.turns_calls.terrain_turns_give.Goals as goal

pub returns-then-not-is_turns : goal.returns-then-not-is_turns
returns-then-not-is_turns c =
    let a = c.args in
    let e : giving a.turns.now ≡ refused 1 = turned (is_turns a.turns.now) c.is_turns.result c.is_turns.ensures _ _ c.if-not-is_turns.true-raw in
    record { value = sym (ap number e); turns_after = sym (ap (λ (q : Reply Given). turn_words q a.turns.now) e); reader_after = sym (ap (λ (q : Reply Given). reader_of q a.reader.now) e) }

pub returns : goal.returns
returns c =
    let a = c.args in
    let e =
    went (is_turns a.turns.now) c.is_turns.result c.is_turns.ensures turn_reply (turns_of a.turns.now) c.unpack_turns-t.result (refused 1) _
    c.if-not-is_turns.false-raw c.unpack_turns-t.ensures c.give.ensures in
    record { value = c.pack_turn.ensures.value ∙ sym (ap number e); turns_after = c.pack_turn.ensures.s_after ∙ sym (ap (λ (q : Reply Given). turn_words q a.turns.now) e); reader_after = c.pack_turn.ensures.reader_after ∙ sym (ap (λ (q : Reply Given). reader_of q a.reader.now) e) }
