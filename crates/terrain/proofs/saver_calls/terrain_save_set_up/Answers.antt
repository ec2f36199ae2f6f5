-- `terrain_save_set_up` meets its contract: the fresh saver where the question says 0. Assumes nothing.
use mathlib.Core.Path.{sym, ap, ◌∙◌}
use Rattle.refusal.proofs.Laws.{number-some}
use Rattle.states.specs.SaverState.{saver_words}
use Rattle.states.proofs.StateLaws.{saved-no}
use Rattle.terrain.proofs.saver_calls.terrain_save_set_up.Goals as goal

pub returns-in-Err : goal.returns-in-Err
returns-in-Err c =
    record { value = c.number.ensures ∙ c.in-Err.ensures; state_after = saved-no _ _ _ (λ z. number-some _ (sym c.number.ensures ∙ z)) }

pub returns : goal.returns
returns c = record { value = c.in_default.ensures; state_after = c.pack_saver.ensures ∙ ap saver_words c.begin.ensures }
