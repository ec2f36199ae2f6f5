use mathlib.Core.Path.{refl, ap, ◌∙◌}
use native.Mathlib.Omega.{arith}
use Rattle.reader_steps.specs.Places.{spot}
use Rattle.reader_order.specs.Order.{at, seek}
use Rattle.reader_order.proofs.WalkLaws.{spot_of}
use Rattle.reader_order.proofs.OrderLaws.{seek-over, seek_found, seek-drawn, nowhere-is}
use Rattle.reader_order.proofs.seek_row.Goals as goal

pub loop-drawn-init : goal.loop-drawn-init
loop-drawn-init c = (c.requires, refl)

pub next_up-n-requires : goal.next_up-n-requires
next_up-n-requires c = c.loop-drawn.invariant.0

pub returns-then-n-gt0 : goal.returns-then-n-gt0
returns-then-n-gt0 c =
    let l = c.loop-drawn in
    let a = c.args in
    let e = spot_of _ _ c.next_up-n.ensures in
    ap (at l.drawn) e
    ∙ seek_found a.s l.drawn (spot l.q.level l.q.set l.q.band) c.loop-drawn-test.true
    (omega (arith, c.if-n-gt0.true, c.next_up-n.ensures.level))
    ∙ l.invariant.1

pub loop-drawn-preserved : goal.loop-drawn-preserved
loop-drawn-preserved c =
    let l = c.loop-drawn in
    let a = c.args in
    let b = c.begin_row-q.ensures in (
      b.1,
      ap (seek a.s _ _) (spot_of _ _ b.0)
          ∙ seek-drawn a.s l.drawn (spot l.q.level l.q.set l.q.band) c.loop-drawn-test.true
          (omega (arith, c.if-n-gt0.false, c.next_up-n.ensures.level))
          ∙ l.invariant.1,
    )

pub returns : goal.returns
returns c =
    let l = c.loop-drawn in
    let a = c.args in
    nowhere-is _ c.nowhere.ensures ∙ seek-over a.s l.drawn (spot l.q.level l.q.set l.q.band) (omega arith) ∙ l.invariant.1
