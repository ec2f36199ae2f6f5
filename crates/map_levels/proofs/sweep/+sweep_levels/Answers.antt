use mathlib.Core.Path.{sym, ◌∙◌}
use native.Mathlib.Omega.{arith}
use Rattle.numbers.specs.Signal.{at}
use Rattle.lifting.specs.Grid.{side}
use Rattle.areas.specs.Areas.{heights_at}
use Rattle.map_levels.proofs.TestLaws.{false-true}
use Rattle.map_levels.proofs.LevelSteps.{next-side}
use Rattle.map_levels.proofs.ForwardSteps.{has-next}
use Rattle.map_levels.proofs.SweepLevels.{growing-small, growing-next, sweep-last, sweep-more, area-next}
use Rattle.map_levels.proofs.sweep.+sweep_levels.Goals as goal

pub lift_level-requires : goal.lift_level-requires
lift_level-requires t c =
    let a = c.args in
    let W = side a.sides.x a.sides.width in
    let H = side a.sides.y a.sides.height in
    (c.requires.0, c.requires.1, growing-small a.first a.levels W H (heights_at a.heights.now) (at a.work.now) c.requires.3)

pub returns-then-not-has_next : goal.returns-then-not-has_next
returns-then-not-has_next t c =
    let a = c.args in
    let W = side a.sides.x a.sides.width in
    let H = side a.sides.y a.sides.height in
    let R = c.requires.0 in
    let both = sweep-last a.first a.across W H _ _ _ _ _ R.plane.wide R.plane.apart c.lift_level.ensures a.levels _ _ c.requires.2
    R.plane.some c.low-low.ensures.width c.low-low.ensures.height (sym c.has_next.ensures ∙ c.if-not-has_next.true) in
    record { plane_after = both.0; kept_from = both.1 }

pub sweep_levels-requires : goal.sweep_levels-requires
sweep_levels-requires t c =
    let a = c.args in
    let W = side a.sides.x a.sides.width in
    let H = side a.sides.y a.sides.height in
    let R = c.requires.0 in
    let on = has-next _ _ _ (sym c.has_next.ensures ∙ c.if-not-has_next.false) in (
      omega arith,
      (
        area-next a.first _ _ _ _ _ _ W H _ _ _ _ R c.lift_level.auto.plane c.lift_level.auto.work c.low-low.ensures.width
            c.low-low.ensures.height on.1 on.2,
        (λ e. absurd (false-true e)),
        omega arith,
        growing-next a.first a.across W H _ _ _ _ _ R.plane.wide R.plane.apart c.lift_level.ensures _ _
            c.low-low.ensures.columns c.low-low.ensures.rows
            a.levels on.0 c.requires.3,
      ),
    )

pub returns : goal.returns
returns t c =
    let a = c.args in
    let W = side a.sides.x a.sides.width in
    let H = side a.sides.y a.sides.height in
    let R = c.requires.0 in
    let on = has-next _ _ _ (sym c.has_next.ensures ∙ c.if-not-has_next.false) in
    let both = sweep-more a.first a.across W H _ _ _ _ _ R.plane.wide R.plane.apart c.lift_level.ensures _ _
    c.low-low.ensures.columns c.low-low.ensures.rows _ _
    a.levels on.0 R.plane.some c.sweep_levels.ensures.plane_after c.sweep_levels.ensures.kept_from in
    record { plane_after = both.0; kept_from = both.1 }
