-- `terrain_turns_mark` meets its contract: what the call on the unpacked turn-giver answers, and 1 where the array is none. Assumes nothing.
use mathlib.Core.Path.{◌≡◌, sym, ap, ◌∙◌}
use Rattle.calls.specs.Lists.{Reply, refused}
use Rattle.turns.specs.declared.Turns.{Turns}
use Rattle.turns.specs.Calls.{mark_reply}
use Rattle.states.specs.WriterAnswers.{number}
use Rattle.states.specs.TurnsState.{is_turns, turns_of, changed_words}
use Rattle.terrain.specs.TurnsCalls.{marking}
use Rattle.terrain.proofs.CallLaws.{turned, went}
use Rattle.terrain.proofs.turns_calls.terrain_turns_mark.Goals as goal

pub returns-then-not-is_turns : goal.returns-then-not-is_turns
returns-then-not-is_turns c =
    let a = c.args in
    let e : marking a.turns.now a.reader ≡ refused 1 =
    turned (is_turns a.turns.now) c.is_turns.result c.is_turns.ensures _ _ c.if-not-is_turns.true-raw in
    record { value = sym (ap number e); turns_after = sym (ap (λ (q : Reply Turns). changed_words q a.turns.now) e) }

pub returns : goal.returns
returns c =
    let a = c.args in
    let e =
    went (is_turns a.turns.now) c.is_turns.result c.is_turns.ensures (λ (t : Turns). mark_reply t a.reader) (turns_of a.turns.now)
    c.unpack_turns-t.result (refused 1) _ c.if-not-is_turns.false-raw c.unpack_turns-t.ensures c.mark.ensures in
    record { value = c.pack_changed.ensures.value ∙ sym (ap number e); turns_after = c.pack_changed.ensures.s_after ∙ sym (ap (λ (q : Reply Turns). changed_words q a.turns.now) e) }
