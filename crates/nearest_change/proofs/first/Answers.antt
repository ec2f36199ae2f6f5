use Rattle.std.proofs.Common.{sym, ◌∙◌, arith}
use borrow.Author.Count.{below_more}
use Rattle.nearest_change.proofs.first.Goals as goal

pub loop-t-init : goal.loop-t-init
loop-t-init c = λ s h. absurd (omega arith)

pub returns-then-works : goal.returns-then-works
returns-then-works c =
    record { few = omega arith; none = c.loop-t.invariant; works = λ _. sym c.works.ensures ∙ c.if-works.true }

pub loop-t-preserved : goal.loop-t-preserved
loop-t-preserved c = below_more _ _ c.loop-t.invariant (sym c.works.ensures ∙ c.if-works.false)

pub returns : goal.returns
returns c = record { few = omega arith; none = λ s h. c.loop-t.invariant s (omega arith); works = λ h. absurd (omega arith) }
