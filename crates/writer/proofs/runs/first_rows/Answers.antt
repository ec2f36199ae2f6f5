use mathlib.Core.Path.{◌∙◌}
use borrow.Author.Tests.{not-true, not-false}
use Rattle.writer.proofs.RunSets.{Putting, put-start, put-less, put-waits, put-room, put-stops, put-more}
use Rattle.writer.proofs.runs.first_rows.Goals as goal

pub loop-next-init : goal.loop-next-init
loop-next-init c = let p = c.requires in
    put-start _ _ _ _ _ _ _ _ p.0 p.1 p.2 c.minus.ensures c.next_band-next.ensures

pub waiting-spot-requires : goal.waiting-spot-requires
waiting-spot-requires c = put-waits _ _ _ _ _ _ _ _ _ _ _ c.loop-next.invariant _ c.with_left.ensures

pub put_row-requires : goal.put_row-requires
put_row-requires c = put-room _ _ _ _ _ _ _ _ _ _ _ c.loop-next.invariant _
    c.with_left.ensures _ c.waiting-spot.ensures

pub shape_of-out-then-not-put_row : goal.shape_of-out-then-not-put_row
shape_of-out-then-not-put_row c = c.put_row.auto.out ∙ c.loop-next.invariant.size

pub shape_of-names-then-not-put_row : goal.shape_of-names-then-not-put_row
shape_of-names-then-not-put_row c = c.put_row.auto.names ∙ c.loop-next.invariant.names-size

pub returns-then-not-put_row : goal.returns-then-not-put_row
returns-then-not-put_row c = put-stops _ _ _ _ _ _ _ _ _ _ _ c.loop-next.invariant _
    c.with_left.ensures _ c.waiting-spot.ensures _ c.put_row.ensures.value
    c.put_row.new.out c.put_row.new.names c.put_row.ensures.out_after
    c.put_row.ensures.names_after (not-true _ c.if-not-put_row.true-raw)

pub one_more-d-requires : goal.one_more-d-requires
one_more-d-requires c = c.put_row.ensures.rows_bound (not-false _ c.if-not-put_row.false-raw)

pub loop-next-smaller : goal.loop-next-smaller
loop-next-smaller c = put-less _ _ _ _ _ _ c.loop-next-test.true c.minus-in-loop-next.ensures c.next_band-next-in-loop-next.ensures

pub loop-next-preserved : goal.loop-next-preserved
loop-next-preserved c = put-more _ _ _ _ _ _ _ _ _ _ _ c.loop-next.invariant _ c.with_left.ensures _ c.waiting-spot.ensures _ c.put_row.ensures.value
    c.put_row.new.out c.put_row.new.names c.put_row.ensures.out_after
    c.put_row.ensures.names_after (not-false _ c.if-not-put_row.false-raw)
    c.loop-next-test.true _
    c.one_more-d.ensures _ _ c.minus-in-loop-next.ensures
    c.next_band-next-in-loop-next.ensures c.put_row.auto.out c.put_row.auto.names

pub shape_of-out : goal.shape_of-out
shape_of-out c = c.loop-next.invariant.size

pub shape_of-names : goal.shape_of-names
shape_of-names c = c.loop-next.invariant.names-size

pub returns : goal.returns
returns c = c.loop-next.invariant.draws
