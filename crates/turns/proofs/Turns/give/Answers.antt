-- `give` meets its contract: by the search. Assumes nothing.
use Rattle.std.proofs.Common.{sym, ◌∙◌, arith}
use borrow.Author.Tests.{not-true, not-false}
use Rattle.turns.proofs.CallLaws.{ranges, turn-no, turn-nothing, turn-reader}
use Rattle.turns.proofs.Turns.give.Goals as goal

pub returns-then-not-in_range : goal.returns-then-not-in_range
returns-then-not-in_range c = turn-no _ (sym c.in_range.ensures ∙ not-true _ c.if-not-in_range.true-raw)

pub first_marked-requires : goal.first_marked-requires
first_marked-requires c = omega (arith, (ranges _ (sym c.in_range.ensures ∙ not-false _ c.if-not-in_range.false-raw)).1)

pub returns-in-None : goal.returns-in-None
returns-in-None c =
    turn-nothing _ (sym c.in_range.ensures ∙ not-false _ c.if-not-in_range.false-raw) c.in-None.ensures

pub returns-in-Some : goal.returns-in-Some
returns-in-Some c =
    turn-reader _ (sym c.in_range.ensures ∙ not-false _ c.if-not-in_range.false-raw) _ c.in-Some.ensures
