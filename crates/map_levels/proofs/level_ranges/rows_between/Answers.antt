use mathlib.Core.Path.{◌≡◌, refl, sym, ◌∙◌}
use Prim.Native.Nat.{◌+◌, ◌-◌, ◌*◌, ◌≤◌}
use native.Mathlib.Omega.{arith}
use lib.ListN.{length}
use mir.Syntax.{w32}
use mir.Val.{to_z, of_z}
use mir.ValLaws.{to_z-of_z}
use borrow.Author.Tests.{not-true, not-false}
use Rattle.map_levels.proofs.GridSweep.{row_room}
use Rattle.map_levels.proofs.LevelSteps.{between-by}
use Rattle.map_levels.proofs.LevelCalls.{row-test, tested-start, tested-turn, tested-no, tested-yes}
use Rattle.map_levels.proofs.level_ranges.rows_between.Goals as goal

-- a parameter is its bits read back
module _ (start : goal.Start) where
  low-is : to_z w32 (of_z w32 start.args.low) ≡ start.args.low
  low-is = to_z-of_z w32 _ start.ranges.low

  high_is : to_z w32 (of_z w32 start.args.high) ≡ start.args.high
  high_is = to_z-of_z w32 _ start.ranges.high

pub loop-r-init : goal.loop-r-init
loop-r-init c = (c.requires.0, c.requires.2, tested-start _ _ _ _ _ _ _ _ c.requires.1)

pub overflow_mul-a : goal.overflow_mul-a
overflow_mul-a c =
    let room : c.loop-r.r * c.args.stride + c.args.to ≤ length
    c.args.area.now = row_room _ _ _ _ _ c.loop-r.invariant.0 c.loop-r-test.true in
    omega (arith, room)

pub overflow_add-a : goal.overflow_add-a
overflow_add-a c =
    let room : c.loop-r.r * c.args.stride + c.args.to ≤ length
    c.args.area.now = row_room _ _ _ _ _ c.loop-r.invariant.0 c.loop-r-test.true in
    omega (arith, room)

pub overflow_mul-e : goal.overflow_mul-e
overflow_mul-e c =
    let room : c.loop-r.r * c.args.stride + c.args.to ≤ length
    c.args.area.now = row_room _ _ _ _ _ c.loop-r.invariant.0 c.loop-r-test.true in
    omega (arith, room)

pub overflow_add-e : goal.overflow_add-e
overflow_add-e c =
    let room : c.loop-r.r * c.args.stride + c.args.to ≤ length
    c.args.area.now = row_room _ _ _ _ _ c.loop-r.invariant.0 c.loop-r-test.true in
    omega (arith, room)

pub offset_bounds-area-a : goal.offset_bounds-area-a
offset_bounds-area-a c =
    let room : c.loop-r.r * c.args.stride + c.args.to ≤ length
    c.args.area.now = row_room _ _ _ _ _ c.loop-r.invariant.0 c.loop-r-test.true in
    omega (arith, room)

pub slice_bounds-all_between-count : goal.slice_bounds-all_between-count
slice_bounds-all_between-count c =
    let room : c.loop-r.r * c.args.stride + c.args.to ≤ length
    c.args.area.now = row_room _ _ _ _ _ c.loop-r.invariant.0 c.loop-r-test.true in
    omega (arith, room)

pub slice_bounds-all_between-start : goal.slice_bounds-all_between-start
slice_bounds-all_between-start c =
    let room : c.loop-r.r * c.args.stride + c.args.to ≤ length
    c.args.area.now = row_room _ _ _ _ _ c.loop-r.invariant.0 c.loop-r-test.true in
    omega (arith, room)

pub slice_bounds-all_between-end : goal.slice_bounds-all_between-end
slice_bounds-all_between-end c =
    let room : c.loop-r.r * c.args.stride + c.args.to ≤ length
    c.args.area.now = row_room _ _ _ _ _ c.loop-r.invariant.0 c.loop-r-test.true in
    omega (arith, room)

pub returns-then-not-all_between : goal.returns-then-not-all_between
returns-then-not-all_between c =
    let room : c.loop-r.r * c.args.stride + c.args.to ≤ length
    c.args.area.now = row_room _ _ _ _ _ c.loop-r.invariant.0 c.loop-r-test.true in
    let a = c.args in
    let inv = c.loop-r.invariant in
    let p = c.loop-r.r * a.stride + a.from in
    let n = c.loop-r.r * a.stride + a.to - p in
    tested-no a.stride a.first a.last a.from a.to _ _ a.area.now c.loop-r.r c.loop-r-test.true inv.2
    (sym (row-test a.stride a.first a.last a.from a.to _ _ a.area.now c.loop-r.r p n c.all_between.result inv.2.some
    refl (omega (arith, room)) (omega (arith, room)) c.all_between.ensures) ∙ not-true _ c.if-not-all_between.true-raw)
    ∙ between-by a.first a.last a.from a.to _ (low-is c.before.before.before.before.before) (high_is c.before.before.before.before.before)

pub loop-r-preserved : goal.loop-r-preserved
loop-r-preserved c =
    let room : c.loop-r.r * c.args.stride + c.args.to ≤ length
    c.args.area.now = row_room _ _ _ _ _ c.loop-r.invariant.0 c.loop-r-test.true in
    let a = c.args in
    let inv = c.loop-r.invariant in
    let p = c.loop-r.r * a.stride + a.from in
    let n = c.loop-r.r * a.stride + a.to - p in (
      inv.0,
      inv.1,
      tested-turn a.stride a.first a.last a.from a.to _ _ a.area.now c.loop-r.r c.loop-r-test.true
          (sym (row-test a.stride a.first a.last a.from a.to _ _ a.area.now c.loop-r.r p n c.all_between.result
          inv.2.some refl (omega (arith, room)) (omega (arith, room)) c.all_between.ensures) ∙ not-false _ c.if-not-all_between.false-raw)
          inv.2,
    )

pub returns : goal.returns
returns c =
    let a = c.args in
    tested-yes a.stride a.first a.last a.from a.to _ _ a.area.now c.loop-r.r c.loop-r-test.false c.loop-r.invariant.2
    ∙ between-by a.first a.last a.from a.to _ (low-is c.before.before) (high_is c.before.before)
