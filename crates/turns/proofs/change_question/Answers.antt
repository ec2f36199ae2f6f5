-- `change_question` meets its contract: 1, then 21. Assumes nothing.
use mathlib.Core.Path.{sym, ◌∙◌}
use borrow.Author.Tests.{not-true, not-false}
use Rattle.turns.proofs.CallLaws.{one-no, number-no, change-yes}
use Rattle.turns.proofs.change_question.Goals as goal

pub returns-then-not-in_range : goal.returns-then-not-in_range
returns-then-not-in_range c = one-no _ _ (sym c.in_range.ensures ∙ not-true _ c.if-not-in_range.true-raw)

pub returns-then-reader-gt-LAST : goal.returns-then-reader-gt-LAST
returns-then-reader-gt-LAST c = number-no _ _ (sym c.in_range.ensures ∙ not-false _ c.if-not-in_range.false-raw) c.if-reader-gt-LAST.true

pub returns : goal.returns
returns c = change-yes _ _ (sym c.in_range.ensures ∙ not-false _ c.if-not-in_range.false-raw) c.if-reader-gt-LAST.false
