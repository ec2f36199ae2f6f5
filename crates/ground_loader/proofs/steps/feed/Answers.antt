-- `steps::feed` meets its contract: by what the reader answers. Assumes nothing.
use mathlib.Core.Path.{refl, sym, ap, ◌∙◌}
use Rattle.std.proofs.Common.{Ok, Err}
use Rattle.reader.specs.Answers.{of_fed}
use Rattle.ground_loader.specs.Local.{of_step}
use Rattle.ground_loader.proofs.StepLaws.{fed-on, fed-over}
use Rattle.ground_loader.proofs.steps.feed.Goals as goal

pub returns-in-Ok : goal.returns-in-Ok
returns-in-Ok c =
    let r = fed-on c.args.l c.args.d c.args.byte c.requires.0 c.requires.1 _ _ _ _ _ _ _ c.feed.ensures.answer (ap of_fed c.in-Ok.is)
    c.sum_on.ensures c.before_group.ensures refl (ap (λ n. of_step c.args.l c.args.d (Ok n)) c.taken.ensures) in
    record { fed_step = r.0; onward = r.1; store_after = c.feed.ensures.kept }

pub returns-in-Err-Impossible : goal.returns-in-Err-Impossible
returns-in-Err-Impossible c =
    let r = fed-over c.args.l c.args.d c.args.byte c.requires.0 c.requires.1 _ _ _ _ _ _ c.feed.ensures.answer
    (ap of_fed (c.in-Err-Impossible.is ∙ ap Err c.in-Err-Impossible.field-0-is)) c.before_group-in-Err-Impossible.ensures refl refl in
    record { fed_step = r.0; onward = r.1; store_after = c.feed.ensures.kept }

pub unreachable-requires : goal.unreachable-requires
unreachable-requires c =
    c.requires.2 _ (sym c.feed.ensures.answer ∙ ap of_fed (c.in-Err-Refused.is ∙ ap Err c.in-Err-Refused.field-0-is))
