-- `terrain_tolerant_set_up` meets its contract: what the set-up answers, in its two cases. Assumes nothing.
use mathlib.Core.Path.{◌≡◌, sym, ap, ◌∙◌}
use lib.ListN.{length}
use borrow.Author.Rules.{rules}
use Rattle.reader.specs.declared.Reader.{Reader}
use Rattle.reader.specs.Answers.{Reply, number, of_set_up}
use Rattle.terrain.specs.ReaderCalls.{state_of, tolerating}
use Rattle.terrain.proofs.reader_calls.terrain_tolerant_set_up.Goals as goal

pub returns-in-Ok : goal.returns-in-Ok
returns-in-Ok c =
    let a = c.args in
    let e : tolerating a.width a.height a.levels (length a.store.now) ≡ _ =
    sym c.set_up_tolerant.ensures.answer ∙ ap of_set_up c.in-Ok.is in
    record { value = sym (ap number e); state_after = c.pack_reader.ensures ∙ sym (ap (λ (q : Reply Reader). state_of q a.state.now) e); store_after = c.set_up_tolerant.ensures.kept }

pub returns-in-Err : goal.returns-in-Err
returns-in-Err c =
    let a = c.args in
    let e : tolerating a.width a.height a.levels (length a.store.now) ≡ _ =
    sym c.set_up_tolerant.ensures.answer ∙ ap of_set_up c.in-Err.is in
    record { value = c.number.ensures ∙ sym (ap number e); state_after = sym (ap (λ (q : Reply Reader). state_of q a.state.now) e); store_after = c.set_up_tolerant.ensures.kept }
