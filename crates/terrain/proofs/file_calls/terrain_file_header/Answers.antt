-- `terrain_file_header` meets its contract: the numbers where the questions say 0. Assumes nothing.
use mathlib.Core.Path.{sym, ap₂, ◌∙◌}
use Rattle.refusal.proofs.Laws.{number-some}
use Rattle.ground_file.specs.Header.{header_words}
use Rattle.states.proofs.StateLaws.{saved-no}
use Rattle.terrain.proofs.file_calls.terrain_file_header.Goals as goal

pub returns-in-Ok : goal.returns-in-Ok
returns-in-Ok c =
    let h = c.in-Ok.ensures in
    record { value = h.value; header_after = c.put.ensures ∙ ap₂ header_words h.header.0 h.header.1 }

pub returns-in-Err : goal.returns-in-Err
returns-in-Err c =
    record { value = c.number.ensures ∙ c.in-Err.ensures.value; header_after = saved-no _ _ _ (λ z. number-some _ (sym c.number.ensures ∙ z)) }
