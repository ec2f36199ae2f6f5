-- `lift_by` meets its contract: it is one of two calls. Assumes nothing.
use mathlib.Core.Path.{refl}
use native.Mathlib.Omega.{arith}
use Rattle.numbers.specs.Signal.{at}
use Rattle.map_levels.proofs.ByFilterLaws.{five-levels, plane-five-three, plane-nine-seven}
use Rattle.map_levels.proofs.CallLaws.{map-rows}
use Rattle.map_levels.proofs.SweepLevels.{heights-grow}
use Rattle.map_levels.proofs.lift_by.Goals as goal

pub sweep_levels-requires : goal.sweep_levels-requires
sweep_levels-requires c =
    let s = c.requires.0 in (
      record {
        source = map-rows _ _ _ _ s c.requires.1;
        plane = map-rows _ _ _ _ s c.requires.2;
        work = map-rows _ _ _ _ s c.requires.3;
        narrow = s.width.1;
      },
      (λ e. refl),
      s.levels.0,
      heights-grow _ _ _ c.args.heights.now (at c.args.work.now) (five-levels _ _ c.if-filter-eq0.true c.requires.4)
          (λ i. omega (arith, c.shared_slice_known-1.given i)),
    )

pub shape_of-plane-then-filter-eq0 : goal.shape_of-plane-then-filter-eq0
shape_of-plane-then-filter-eq0 c = c.sweep_levels.auto.plane

pub shape_of-work-then-filter-eq0 : goal.shape_of-work-then-filter-eq0
shape_of-work-then-filter-eq0 c = c.sweep_levels.auto.work

pub returns-then-filter-eq0 : goal.returns-then-filter-eq0
returns-then-filter-eq0 c =
    record { plane_after = plane-five-three _ _ _ _ _ _ _ _ c.if-filter-eq0.true c.sweep_levels.ensures.plane_after; kept_from = c.sweep_levels.ensures.kept_from }

pub lift_in_place-requires : goal.lift_in_place-requires
lift_in_place-requires c = let p = c.requires in (p.0, p.1, p.2, p.3)

pub shape_of-plane : goal.shape_of-plane
shape_of-plane c = c.lift_in_place.auto.plane

pub shape_of-work : goal.shape_of-work
shape_of-work c = c.lift_in_place.auto.work

pub returns : goal.returns
returns c =
    record { plane_after = plane-nine-seven _ _ _ _ _ _ _ _ c.if-filter-eq0.false c.lift_in_place.ensures.plane_after; kept_from = c.lift_in_place.ensures.kept_from }
