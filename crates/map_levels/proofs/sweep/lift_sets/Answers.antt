use mathlib.Core.Path.{refl, sym, ◌∙◌}
use native.Mathlib.Omega.{arith}
use Rattle.numbers.specs.Signal.{at}
use Rattle.lifting.specs.Grid.{side}
use Rattle.wavelet.specs.Limits.{max_width}
use Rattle.map_levels.specs.Sweep.{line_half}
use Rattle.map_levels.proofs.SweepSets.{lines-enough, area-kept, sets_end}
use Rattle.map_levels.proofs.sweep.lift_sets.Goals as goal

pub slice_bounds-first_high-end : goal.slice_bounds-first_high-end
slice_bounds-first_high-end c = refl

pub first_high-requires : goal.first_high-requires
unfolding line_half max_width
first_high-requires c =
    (record { area = c.requires.0; more = c.requires.1; lines = omega arith; halves = lines-enough _ c.requires.0.narrow }, c.requires.2)

pub loop-n-init : goal.loop-n-init
unfolding line_half max_width
loop-n-init c = (c.first_high.auto.lines, refl, refl, λ z₀ x₀ S. S)

pub slice_bounds-lift_set-end : goal.slice_bounds-lift_set-end
unfolding line_half max_width
slice_bounds-lift_set-end c = sym c.loop-n.invariant.0

pub lift_set-requires : goal.lift_set-requires
unfolding line_half max_width
lift_set-requires c =
    let inv = c.loop-n.invariant in (
      record {
        area = area-kept (inv.1 ∙ c.first_high.auto.plane) inv.2 c.requires.0;
        more = c.requires.1;
        lines = omega (arith, inv.0);
        halves = lines-enough _ c.requires.0.narrow;
      },
      omega (arith, c.low_count-low.ensures, c.loop-n-test.true),
    )

pub loop-n-preserved : goal.loop-n-preserved
loop-n-preserved c =
    let set = c.lift_set in
    let inv = c.loop-n.invariant in (
      set.auto.lines ∙ inv.0,
      set.auto.plane ∙ inv.1,
      set.auto.work ∙ inv.2,
      λ z₀ x₀ S. set.ensures z₀ x₀ (inv.3 z₀ x₀ S),
    )

pub shape_of-plane : goal.shape_of-plane
shape_of-plane c = c.loop-n.invariant.1 ∙ c.first_high.auto.plane

pub shape_of-work : goal.shape_of-work
shape_of-work c = c.loop-n.invariant.2

pub returns : goal.returns
returns c =
    let a = c.args in
    let low = c.low_count-low.ensures in
    sets_end a.first a.across (side a.sides.x a.sides.width) (side a.sides.y a.sides.height) _ (at a.plane.now) (at a.work.now) _ _ _ c.loop-n.n
    (omega (arith, low, c.loop-n-test.false)) (c.loop-n.invariant.3 (at a.plane.now) (at a.work.now) c.first_high.ensures)
