use mathlib.Core.Path.{◌∙◌, sym, refl}
use Prim.Native.Nat.{◌+◌, ◌-◌, ◌*◌, ◌≤◌}
use native.Mathlib.Omega.{arith}
use lib.ListN.{length}
use borrow.Author.Tests.{not-true, not-false}
use Rattle.lifting.specs.Grid.{side}
use Rattle.wavelet.specs.Limits.{max_sample}
use Rattle.map_levels.proofs.GridSweep.{pass-room, row-length}
use Rattle.map_levels.proofs.HeightRows.{swept-room, swept-length, swept-size, row-heights, finish-start, finish-no, finish-turn, finish-yes}
use Rattle.map_levels.proofs.heights.finish_rows.Goals as goal

pub loop-r-init : goal.loop-r-init
loop-r-init c = finish-start _ _ _ _ c.requires.0 c.requires.1

pub overflow_mul-a : goal.overflow_mul-a
overflow_mul-a c =
    let room : (c.loop-r.r * c.args.width + c.args.width ≤ length
    c.loop-r.work) × (c.loop-r.r * c.args.width + c.args.width ≤ length
    c.loop-r.heights) = (pass-room c.loop-r.invariant.rows c.loop-r-test.true, swept-room c.loop-r.heights c.loop-r.invariant.heights c.loop-r-test.true) in
    omega (arith, room)

pub overflow_add-e : goal.overflow_add-e
overflow_add-e c =
    let room : (c.loop-r.r * c.args.width + c.args.width ≤ length
    c.loop-r.work) × (c.loop-r.r * c.args.width + c.args.width ≤ length
    c.loop-r.heights) = (pass-room c.loop-r.invariant.rows c.loop-r-test.true, swept-room c.loop-r.heights c.loop-r.invariant.heights c.loop-r-test.true) in
    omega (arith, room)

pub offset_bounds-work-a : goal.offset_bounds-work-a
offset_bounds-work-a c =
    let room : (c.loop-r.r * c.args.width + c.args.width ≤ length
    c.loop-r.work) × (c.loop-r.r * c.args.width + c.args.width ≤ length
    c.loop-r.heights) = (pass-room c.loop-r.invariant.rows c.loop-r-test.true, swept-room c.loop-r.heights c.loop-r.invariant.heights c.loop-r-test.true) in
    omega (arith, room)

pub slice_bounds-all_heights-end : goal.slice_bounds-all_heights-end
slice_bounds-all_heights-end c =
    let room : (c.loop-r.r * c.args.width + c.args.width ≤ length
    c.loop-r.work) × (c.loop-r.r * c.args.width + c.args.width ≤ length
    c.loop-r.heights) = (pass-room c.loop-r.invariant.rows c.loop-r-test.true, swept-room c.loop-r.heights c.loop-r.invariant.heights c.loop-r-test.true) in
    omega (arith, room)

pub shape_of-work-then-not-all_heights : goal.shape_of-work-then-not-all_heights
shape_of-work-then-not-all_heights c = c.loop-r.invariant.rows.size

pub shape_of-heights-then-not-all_heights : goal.shape_of-heights-then-not-all_heights
shape_of-heights-then-not-all_heights c =
    swept-size c.loop-r.heights c.loop-r.invariant.heights c.args.heights.now refl

pub returns-then-not-all_heights : goal.returns-then-not-all_heights
unfolding max_sample
returns-then-not-all_heights c =
    let args = c.args in
    let w = args.width in
    let a = c.loop-r.r * w in
    finish-no (side args.x w) _ _ _ _ _ c.loop-r.heights c.loop-r.invariant (a + w - a) (omega arith) c.loop-r-test.true _
    c.all_heights.ensures (not-true _ c.if-not-all_heights.true-raw)

pub offset_bounds-work-a-in-loop-r : goal.offset_bounds-work-a-in-loop-r
offset_bounds-work-a-in-loop-r c =
    let room : (c.loop-r.r * c.args.width + c.args.width ≤ length
    c.loop-r.work) × (c.loop-r.r * c.args.width + c.args.width ≤ length
    c.loop-r.heights) = (pass-room c.loop-r.invariant.rows c.loop-r-test.true, swept-room c.loop-r.heights c.loop-r.invariant.heights c.loop-r-test.true) in
    omega (arith, room)

pub slice_bounds-finish_row-end : goal.slice_bounds-finish_row-end
slice_bounds-finish_row-end c =
    let room : (c.loop-r.r * c.args.width + c.args.width ≤ length
    c.loop-r.work) × (c.loop-r.r * c.args.width + c.args.width ≤ length
    c.loop-r.heights) = (pass-room c.loop-r.invariant.rows c.loop-r-test.true, swept-room c.loop-r.heights c.loop-r.invariant.heights c.loop-r-test.true) in
    omega (arith, room)

pub offset_bounds-heights-a : goal.offset_bounds-heights-a
offset_bounds-heights-a c =
    let room : (c.loop-r.r * c.args.width + c.args.width ≤ length
    c.loop-r.work) × (c.loop-r.r * c.args.width + c.args.width ≤ length
    c.loop-r.heights) = (pass-room c.loop-r.invariant.rows c.loop-r-test.true, swept-room c.loop-r.heights c.loop-r.invariant.heights c.loop-r-test.true) in
    omega (arith, room)

pub slice_bounds-finish_row-end-in-loop-r : goal.slice_bounds-finish_row-end-in-loop-r
slice_bounds-finish_row-end-in-loop-r c =
    let room : (c.loop-r.r * c.args.width + c.args.width ≤ length
    c.loop-r.work) × (c.loop-r.r * c.args.width + c.args.width ≤ length
    c.loop-r.heights) = (pass-room c.loop-r.invariant.rows c.loop-r-test.true, swept-room c.loop-r.heights c.loop-r.invariant.heights c.loop-r-test.true) in
    omega (arith, room)

pub finish_row-requires : goal.finish_row-requires
unfolding max_sample
finish_row-requires c =
    let args = c.args in
    let w = args.width in
    let i = c.loop-r.r in
    let a = i * w in
    let inv = c.loop-r.invariant in (
      row-length w w args.height _ _ i (a + w - a) _ (omega arith) c.loop-r-test.true inv.rows
          ∙ sym (swept-length c.loop-r.heights inv.heights (a + w - a) (omega arith) c.loop-r-test.true),
      row-heights _ _ (sym c.all_heights.ensures ∙ not-false _ c.if-not-all_heights.false-raw),
    )

pub loop-r-preserved : goal.loop-r-preserved
unfolding max_sample
loop-r-preserved c =
    let args = c.args in
    let w = args.width in
    let a = c.loop-r.r * w in
    finish-turn (side args.x w) _ _ _ _ _ c.loop-r.heights c.loop-r.invariant (a + w - a) (omega arith) c.loop-r-test.true _
    c.all_heights.ensures c.finish_row.new.row c.finish_row.new.heights (not-false _ c.if-not-all_heights.false-raw)
    c.finish_row.auto.row c.finish_row.auto.heights c.finish_row.ensures.heights_after c.finish_row.ensures.row_after

pub shape_of-work : goal.shape_of-work
shape_of-work c = c.loop-r.invariant.rows.size

pub shape_of-heights : goal.shape_of-heights
shape_of-heights c = swept-size c.loop-r.heights c.loop-r.invariant.heights c.args.heights.now refl

pub returns : goal.returns
returns c = finish-yes _ _ _ _ _ _ c.loop-r.heights c.loop-r.invariant c.loop-r-test.false
