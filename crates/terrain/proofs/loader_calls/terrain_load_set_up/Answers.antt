-- `terrain_load_set_up` meets its contract: what the set-up answers, in its two cases. Assumes nothing.
use mathlib.Core.Path.{◌≡◌, sym, ap, ◌∙◌}
use lib.ListN.{length}
use borrow.Author.Rules.{rules}
use Rattle.ground_loader.specs.declared.loader.Loader.{Loader}
use Rattle.ground_loader.specs.LoaderAnswers.{Reply, of_begun}
use Rattle.terrain.specs.LoaderCalls.{number, loading, state_of}
use Rattle.terrain.proofs.loader_calls.terrain_load_set_up.Goals as goal

pub returns-in-Ok : goal.returns-in-Ok
returns-in-Ok c =
    let a = c.args in
    let e : loading a.shape a.step (length a.store.now) ≡ _ =
    sym c.set_up.ensures.result_value ∙ ap of_begun c.in-Ok.is in
    record { value = sym (ap number e); state_after = c.pack_loader.ensures ∙ sym (ap (λ (q : Reply Loader). state_of q a.state.now) e); store_after = c.set_up.ensures.store_after }

pub returns-in-Err : goal.returns-in-Err
returns-in-Err c =
    let a = c.args in
    let e : loading a.shape a.step (length a.store.now) ≡ _ =
    sym c.set_up.ensures.result_value ∙ ap of_begun c.in-Err.is in
    record { value = c.number.ensures ∙ sym (ap number e); state_after = sym (ap (λ (q : Reply Loader). state_of q a.state.now) e); store_after = c.set_up.ensures.store_after }
