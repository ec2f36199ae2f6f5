-- `saver::question` meets its contract: 1, then 5. Assumes nothing.
use mathlib.Core.Path.{sym, ◌∙◌}
use borrow.Author.Tests.{not-true, not-false}
use Rattle.ground_file.proofs.SaverAsks.{save-one, save-five, save-none, area_small}
use Rattle.ground_file.proofs.saver.question.Goals as goal

pub returns-then-not-counts_fit : goal.returns-then-not-counts_fit
returns-then-not-counts_fit c =
    let a = c.args in
    save-one a.s a.n (sym c.counts_fit.ensures ∙ not-true _ c.if-not-counts_fit.true-raw)

pub overflow_mul-s : goal.overflow_mul-s
overflow_mul-s c =
    let a = c.args in
    record { fits = area_small a.s (sym c.counts_fit.ensures ∙ not-false _ c.if-not-counts_fit.false-raw) }

pub returns-then-n-s : goal.returns-then-n-s
returns-then-n-s c =
    let a = c.args in
    save-five a.s a.n (sym c.counts_fit.ensures ∙ not-false _ c.if-not-counts_fit.false-raw) c.if-n-s.true

pub returns : goal.returns
returns c =
    let a = c.args in
    save-none a.s a.n (sym c.counts_fit.ensures ∙ not-false _ c.if-not-counts_fit.false-raw) c.if-n-s.false
