-- `run::run_all`: the rounds, and those after the end, as the definition has them. Assumes nothing.
use mathlib.Core.Path.{sym, ◌∙◌}
use borrow.Author.Tests.{not-true, not-false}
use Rattle.rounds.proofs.RoundLaws.{run-before, run-after}
use Rattle.rounds.proofs.run.run_all.Goals as goal

pub returns-then-not-ends : goal.returns-then-not-ends
returns-then-not-ends g c = run-before c.all_rounds-last.ensures (sym c.ends.ensures ∙ not-true _ c.if-not-ends.true-raw)

pub returns : goal.returns
returns g c =
    run-after c.all_rounds-last.auto.out c.all_rounds-last.ensures (sym c.ends.ensures ∙ not-false _ c.if-not-ends.false-raw) c.end.ensures
    c.all_rounds.ensures
