use mathlib.Core.Path.{◌≡◌, refl, sym, ◌∙◌}
use Prim.Native.Nat.{◌+◌, ◌-◌, ◌*◌, ◌≤◌}
use native.Mathlib.Omega.{arith}
use lib.ListN.{length}
use mir.Syntax.{w32}
use mir.ValLaws.{to_z-of_z}
use Rattle.numbers.specs.Signal.{at}
use Rattle.lifting.specs.Grid.{side}
use Rattle.wavelet.specs.Limits.{max_width}
use Rattle.map_levels.specs.Rowwise.{interleaved_in_place}
use Rattle.wavelet.specs.Plane.{cells}
use Rattle.map_levels.proofs.GridSweep.{pass-start, pass-room, pass-end, row-length, lent_row, mapped-past, map-turn}
use Rattle.areas.proofs.AreaLaws.{between_start}
use Rattle.map_levels.proofs.RowwiseLaws.{gather-turn}
use Rattle.map_levels.proofs.TestLaws.{row-between, all-rows}
use Rattle.map_levels.proofs.LevelSteps.{between-by}
use Rattle.map_levels.proofs.passes.interleave_rows.Goals as goal

pub loop-r-init : goal.loop-r-init
unfolding max_width
loop-r-init c = (refl, between_start _, pass-start _ _ _ _ _ 0 c.requires.0 (λ r k lt. absurd (omega arith)))

pub overflow_mul-a : goal.overflow_mul-a
overflow_mul-a c =
    let room : c.loop-r.r * c.args.stride + c.args.width ≤ length
    c.loop-r.area = pass-room c.loop-r.invariant.2 c.loop-r-test.true in
    omega (arith, room)

pub overflow_add-e : goal.overflow_add-e
overflow_add-e c =
    let room : c.loop-r.r * c.args.stride + c.args.width ≤ length
    c.loop-r.area = pass-room c.loop-r.invariant.2 c.loop-r-test.true in
    omega (arith, room)

pub offset_bounds-area-a : goal.offset_bounds-area-a
offset_bounds-area-a c =
    let room : c.loop-r.r * c.args.stride + c.args.width ≤ length
    c.loop-r.area = pass-room c.loop-r.invariant.2 c.loop-r-test.true in
    omega (arith, room)

pub slice_bounds-interleave-end : goal.slice_bounds-interleave-end
slice_bounds-interleave-end c =
    let room : c.loop-r.r * c.args.stride + c.args.width ≤ length
    c.loop-r.area = pass-room c.loop-r.invariant.2 c.loop-r-test.true in
    omega (arith, room)

pub slice_bounds-interleave-end-in-loop-r : goal.slice_bounds-interleave-end-in-loop-r
unfolding max_width
slice_bounds-interleave-end-in-loop-r c = sym c.loop-r.invariant.0

pub interleave-ok-requires : goal.interleave-ok-requires
interleave-ok-requires c =
    let a = c.loop-r.r * c.args.stride in
    let few = c.requires.1 in
    omega (
      arith,
      row-length _ _ _ _ _ _ (a + c.args.width - a) _ (omega arith) c.loop-r-test.true
          c.loop-r.invariant.2,
      c.loop-r.invariant.0,
    )

pub loop-r-preserved : goal.loop-r-preserved
loop-r-preserved c =
    let part = c.interleave-ok in
    let args = c.args in
    let a = c.loop-r.r * args.stride in (
      part.auto.line ∙ c.loop-r.invariant.0,
      gather-turn _ _ c.loop-r.r _ c.loop-r.invariant.1
          (part.ensures.value
          ∙ row-between _ _ args.width c.loop-r.r _ (cells args.stride (at args.area.now)) _
          (row-length _ _ _ _ _ _ (a + args.width - a) _ (omega arith) c.loop-r-test.true c.loop-r.invariant.2)
          (lent_row _ _ _ _ _ _ (a + args.width - a) _ (omega arith) c.loop-r.invariant.2)),
      map-turn (λ n. interleaved_in_place (side args.x n)) _ _ _ _ _ (a + args.width - a) _ part.new.row (omega arith) c.loop-r-test.true
          part.auto.row
          part.ensures.row_after c.loop-r.invariant.2,
    )

pub shape_of-area : goal.shape_of-area
shape_of-area c = c.loop-r.invariant.2.size

pub returns : goal.returns
returns c =
    let a = c.args in
    let fits = c.ranges in
    let e : c.loop-r.r ≡ a.height = omega arith in
    record {
      value = (rw e at c.loop-r.invariant.1)
          ∙ all-rows _ _ a.width a.height (cells a.stride (at a.area.now))
          ∙ between-by 0 a.height 0 a.width _ (to_z-of_z w32 _ fits.low) (to_z-of_z w32 _ fits.high);
      area_after = pass-end c.loop-r.invariant.2 (λ r k le. mapped-past _ _ _ _ r k (omega arith));
    }
