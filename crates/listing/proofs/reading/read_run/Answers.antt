-- `reading::read_run` meets its contract: the heights are offered together, or the next byte is read where there are none or the writer turns them
-- away. Assumes nothing.
use mathlib.Core.Path.{sym, ap, ◌∙◌}
use native.Mathlib.Omega.{arith}
use lib.ListN.{length}
use lib.Seq.{length-take-le}
use Rattle.numbers.specs.Signal.{at}
use Rattle.writer.specs.Answers.{of_offered}
use Rattle.listing.specs.States.{state_of}
use Rattle.listing.proofs.ReadingMoves.{run-read, back-size, back-room, taken-room, heights-on, offer-kept, still-there}
use Rattle.listing.proofs.reading.read_run.Goals as goal

pub slice_bounds-read-end-2 : goal.slice_bounds-read-end-2
slice_bounds-read-end-2 c =
    sym (length-take-le _ _ (omega (arith, c.least-most.ensures)))

pub shape_of-store-then-n-eq0 : goal.shape_of-store-then-n-eq0
shape_of-store-then-n-eq0 c = c.read_byte.auto.store

pub shape_of-row-then-n-eq0 : goal.shape_of-row-then-n-eq0
shape_of-row-then-n-eq0 c = c.read_byte.auto.row

pub shape_of-run-then-n-eq0 : goal.shape_of-run-then-n-eq0
shape_of-run-then-n-eq0 c =
    back-size c.args.run.now c.read-n.new.run c.least-most.result c.read-n.result
    (omega (arith, c.least-most.ensures)) c.read-n.auto.run

pub returns-then-n-eq0 : goal.returns-then-n-eq0
returns-then-n-eq0 c = c.read_byte.ensures

pub slice_bounds-offer-end : goal.slice_bounds-offer-end
slice_bounds-offer-end c =
    back-room c.args.run.now c.read-n.new.run c.least-most.result c.read-n.result
    (omega (arith, c.least-most.ensures)) c.read-n.auto.run (omega (arith, c.read-n.ensures.value))

pub slice_bounds-offer-end-2 : goal.slice_bounds-offer-end-2
slice_bounds-offer-end-2 c =
    sym (length-take-le _ _ (back-room c.args.run.now c.read-n.new.run c.least-most.result
    c.read-n.result (omega (arith, c.least-most.ensures)) c.read-n.auto.run (omega (arith, c.read-n.ensures.value))))

pub overflow_mul-result : goal.overflow_mul-result
overflow_mul-result c =
    let a = c.args in
    let s = state_of a.listing (at a.store.now) (at a.row.now) in
    let run =
    run-read s a.piece.now a.run.now c.read-n.new.run a.used c.least-most.result c.read-n.result c.least-most.ensures c.if-n-eq0.false
    c.requires.4 c.read-n.ensures.value c.read-n.ensures.run_after in
    let reply = sym (ap of_offered c.in-Ok.is) ∙ c.offer.ensures.result_value in
    rw c.size.ensures (omega (arith, taken-room (length a.store.now) (length a.row.now) s _ _ _ _ _ run reply))

pub overflow_add-result : goal.overflow_add-result
overflow_add-result c =
    let a = c.args in
    let s = state_of a.listing (at a.store.now) (at a.row.now) in
    let run =
    run-read s a.piece.now a.run.now c.read-n.new.run a.used c.least-most.result c.read-n.result c.least-most.ensures c.if-n-eq0.false
    c.requires.4 c.read-n.ensures.value c.read-n.ensures.run_after in
    let reply = sym (ap of_offered c.in-Ok.is) ∙ c.offer.ensures.result_value in
    rw c.size.ensures (omega (arith, taken-room (length a.store.now) (length a.row.now) s _ _ _ _ _ run reply))

pub shape_of-store-in-Ok : goal.shape_of-store-in-Ok
shape_of-store-in-Ok c =
    c.draw.auto.store ∙ c.offer.auto.store

pub shape_of-row-in-Ok : goal.shape_of-row-in-Ok
shape_of-row-in-Ok c = c.draw.auto.row

pub shape_of-run-in-Ok : goal.shape_of-run-in-Ok
shape_of-run-in-Ok c =
    back-size c.args.run.now c.read-n.new.run c.least-most.result c.read-n.result
    (omega (arith, c.least-most.ensures)) c.read-n.auto.run

pub returns-in-Ok : goal.returns-in-Ok
returns-in-Ok c =
    let a = c.args in
    let s = state_of a.listing (at a.store.now) (at a.row.now) in
    let run =
    run-read s a.piece.now a.run.now c.read-n.new.run a.used c.least-most.result c.read-n.result c.least-most.ensures c.if-n-eq0.false
    c.requires.4 c.read-n.ensures.value c.read-n.ensures.run_after in
    let reply = sym (ap of_offered c.in-Ok.is) ∙ c.offer.ensures.result_value in
    rw c.size.ensures (heights-on (length a.store.now) (length a.row.now) s _ _ _ _ _ run reply _ _ _ _ c.requires.0 c.requires.1 c.requires.2
    c.requires.6 c.offer.auto.store c.took.ensures c.offer.ensures.store_after c.draw.ensures)

pub shape_of-store-in-Err : goal.shape_of-store-in-Err
shape_of-store-in-Err c =
    c.read_byte-in-Err.auto.store ∙ c.offer.auto.store

pub shape_of-row-in-Err : goal.shape_of-row-in-Err
shape_of-row-in-Err c = c.read_byte-in-Err.auto.row

pub shape_of-run-in-Err : goal.shape_of-run-in-Err
shape_of-run-in-Err c =
    back-size c.args.run.now c.read-n.new.run c.least-most.result c.read-n.result
    (omega (arith, c.least-most.ensures)) c.read-n.auto.run

pub returns-in-Err : goal.returns-in-Err
returns-in-Err c =
    still-there c.offer.auto.store (c.offer.ensures.store_after ∙ offer-kept _ _ _ _ _ (sym (ap of_offered c.in-Err.is) ∙ c.offer.ensures.result_value))
    c.read_byte-in-Err.ensures
