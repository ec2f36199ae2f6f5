use Rattle.std.proofs.Common.{◌≡◌, ◌+◌, sym, ap, ◌∙◌, arith}
use Rattle.turns.specs.Marks.{marked}
use Rattle.turns.specs.Order.{first_from, next_after}
use Rattle.turns.proofs.OrderLaws.{loop-found, loop-on, loop-over}
use Rattle.turns.proofs.order.first_marked.Goals as goal

pub loop-i-init : goal.loop-i-init
unfolding next_after
loop-i-init c =
    let s : c.args.last + 1 + 0 ≡ c.args.last + 1 = omega arith in
    (c.requires, ap (first_from (marked c.args.marks) 16) s)

pub returns-then-is_marked : goal.returns-then-is_marked
returns-then-is_marked c =
    sym (loop-found (marked c.args.marks) c.args.last c.loop-i.i (omega arith) (sym c.is_marked.ensures ∙ c.if-is_marked.true))
    ∙ c.loop-i.invariant.1

pub loop-i-preserved : goal.loop-i-preserved
loop-i-preserved c = (
  c.loop-i.invariant.0,
  sym (loop-on (marked c.args.marks) c.args.last c.loop-i.i (omega arith) (sym c.is_marked.ensures ∙ c.if-is_marked.false))
      ∙ c.loop-i.invariant.1,
)

pub returns : goal.returns
returns c = sym (loop-over (marked c.args.marks) c.args.last c.loop-i.i (omega arith)) ∙ c.loop-i.invariant.1
