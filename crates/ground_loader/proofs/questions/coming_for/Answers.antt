-- `questions::coming_for` meets its contract: by what is wanted. Assumes nothing.
use Rattle.std.proofs.Common.{sym, ap, ◌∙◌, Result, Ok}
use Rattle.refusal.specs.declared.Refusal.{Refusal}
use Rattle.reader.specs.declared.Wanted.{Wanted}
use Rattle.reader.specs.Answers.{of_wanted}
use Rattle.ground_loader.specs.Loader.{want_in, coming_after}
use Rattle.ground_loader.proofs.questions.coming_for.Goals as goal

pub returns-in-Ok-Row : goal.returns-in-Ok-Row
unfolding coming_after
returns-in-Ok-Row c = c.stands.ensures ∙ sym (ap (λ (o : Result Wanted Refusal). coming_after c.args.c (want_in (of_wanted o))) (c.in-Ok-Row.is ∙ ap Ok (rw c.in-Ok-Row.is at c.in-Ok-Row.field-0-is)))

pub returns-in-Ok-Draw : goal.returns-in-Ok-Draw
unfolding coming_after
returns-in-Ok-Draw c = c.is_none.ensures ∙ sym (ap (λ (o : Result Wanted Refusal). coming_after c.args.c (want_in (of_wanted o))) (c.in-Ok-Draw.is ∙ ap Ok (rw c.in-Ok-Draw.is at c.in-Ok-Draw.field-0-is)))

pub returns-in-Ok-Done : goal.returns-in-Ok-Done
unfolding coming_after
returns-in-Ok-Done c = c.is_none-in-Ok-Done.ensures ∙ sym (ap (λ (o : Result Wanted Refusal). coming_after c.args.c (want_in (of_wanted o))) (c.in-Ok-Done.is ∙ ap Ok (rw c.in-Ok-Done.is at c.in-Ok-Done.field-0-is)))

pub returns-in-Ok-Ended : goal.returns-in-Ok-Ended
unfolding coming_after
returns-in-Ok-Ended c = c.is_none-in-Ok-Ended.ensures ∙ sym (ap (λ (o : Result Wanted Refusal). coming_after c.args.c (want_in (of_wanted o))) (c.in-Ok-Ended.is ∙ ap Ok (rw c.in-Ok-Ended.is at c.in-Ok-Ended.field-0-is)))

pub returns-in-Err : goal.returns-in-Err
unfolding coming_after
returns-in-Err c = c.is_none-in-Err.ensures ∙ sym (ap (λ (o : Result Wanted Refusal). coming_after c.args.c (want_in (of_wanted o))) c.in-Err.is)
