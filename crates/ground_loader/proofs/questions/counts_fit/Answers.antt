-- `questions::counts_fit` meets its contract: the definition's tests together. Assumes nothing.
use mathlib.Core.Path.{ap, ◌∙◌}
use lib.Dec.{ltb}
use Rattle.numbers.specs.Signal.{pick}
use Rattle.ground_loader.specs.Loader.{want_in, is_none, coming_after}
use Rattle.ground_loader.specs.Local.{is_given}
use Rattle.ground_loader.proofs.AskLaws.{loader-is, ok-given}
use Rattle.ground_loader.proofs.questions.counts_fit.Goals as goal

pub returns : goal.returns
returns c =
    let a = c.args.l in
    let w = c.want-want in
    loader-is a c.is_ok.result c.is_within.result
    c.coming_fits.result c.admission_of.result
    (c.is_ok.ensures.value ∙ ok-given w.result ∙ ap is_given w.ensures.answer)
    c.is_within.ensures c.admission_of.ensures
    (c.coming_fits.ensures ∙ ap (λ v. pick (ltb a.header 24) (is_none a.coming) (coming_after a.coming (want_in v))) w.ensures.answer)
