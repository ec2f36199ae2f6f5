-- `steps::due_by` meets its contract: case by case. Assumes nothing.
use Rattle.std.proofs.Common.{sym, ap, ◌∙◌, Result, Ok}
use Rattle.refusal.specs.declared.Refusal.{Refusal}
use Rattle.reader.specs.declared.Wanted.{Wanted}
use Rattle.reader.specs.Answers.{of_wanted}
use Rattle.ground_loader.specs.Local.{due_after}
use Rattle.ground_loader.specs.Loader.{want_in}
use Rattle.ground_loader.proofs.steps.due_by.Goals as goal

pub returns-in-Ok-Row : goal.returns-in-Ok-Row
unfolding due_after
returns-in-Ok-Row c = sym (ap (λ (o : Result Wanted Refusal). due_after c.args.tail (want_in (of_wanted o))) (c.in-Ok-Row.is ∙ ap Ok (rw c.in-Ok-Row.is at c.in-Ok-Row.field-0-is)))

pub returns-in-Ok-Draw : goal.returns-in-Ok-Draw
unfolding due_after
returns-in-Ok-Draw c = c.plain.ensures ∙ sym (ap (λ (o : Result Wanted Refusal). due_after c.args.tail (want_in (of_wanted o))) (c.in-Ok-Draw.is ∙ ap Ok (rw c.in-Ok-Draw.is at c.in-Ok-Draw.field-0-is)))

pub returns-in-Ok-Done : goal.returns-in-Ok-Done
unfolding due_after
returns-in-Ok-Done c = c.at_end.ensures ∙ sym (ap (λ (o : Result Wanted Refusal). due_after c.args.tail (want_in (of_wanted o))) (c.in-Ok-Done.is ∙ ap Ok (rw c.in-Ok-Done.is at c.in-Ok-Done.field-0-is)))

pub returns-in-Ok-Ended : goal.returns-in-Ok-Ended
unfolding due_after
returns-in-Ok-Ended c = c.plain-in-Ok-Ended.ensures ∙ sym (ap (λ (o : Result Wanted Refusal). due_after c.args.tail (want_in (of_wanted o))) (c.in-Ok-Ended.is ∙ ap Ok (rw c.in-Ok-Ended.is at c.in-Ok-Ended.field-0-is)))

pub returns-in-Err : goal.returns-in-Err
unfolding due_after
returns-in-Err c = c.plain-in-Err.ensures ∙ sym (ap (λ (o : Result Wanted Refusal). due_after c.args.tail (want_in (of_wanted o))) c.in-Err.is)
