use mathlib.Core.Path.{refl, sym, ◌∙◌}
use native.Mathlib.Omega.{arith}
use Rattle.lifting.specs.Grid.{side}
use Rattle.nine_seven.specs.NineSevenFilter.{nine_seven_filter}
use Rattle.nine_seven.proofs.NineSevenFilter.{nine-seven-laws}
use Rattle.map_levels.proofs.LevelSteps.{next-side, rows-corner}
use Rattle.map_levels.proofs.ForwardSteps.{has-next, own-rows, forward-end, forward-step}
use Rattle.map_levels.proofs.nine_seven_levels.+forward_levels.Goals as goal

pub returns-then-not-has_next : goal.returns-then-not-has_next
returns-then-not-has_next t c =
    let a = c.args in
    let R = c.requires.0 in
    let W = side a.sides.x a.sides.width in
    let H = side a.sides.y a.sides.height in
    record {
      plane_after = forward-end nine_seven_filter nine-seven-laws _ W H _ _ R.wide R.apart c.lift_nine_seven.ensures _ _ _ c.requires.2
          c.low-low.ensures.width c.low-low.ensures.height (sym c.has_next.ensures ∙ c.if-not-has_next.true);
      kept_from = record { kept = λ j b. refl };
    }

pub save-requires : goal.save-requires
save-requires t c =
    let a = c.args in
    let on = has-next _ _ _ (sym c.has_next.ensures ∙ c.if-not-has_next.false) in
    let W = side a.sides.x a.sides.width in
    let H = side a.sides.y a.sides.height in (
      rows-corner _ _ _ W H _ _ c.low-low.ensures.width c.low-low.ensures.height on.2 c.requires.0 c.lift_nine_seven.auto.area,
      own-rows _ _ W H _ _ refl c.low-low.ensures.width c.low-low.ensures.height on.1 on.2 c.requires.1,
    )

pub spread-requires : goal.spread-requires
spread-requires t c =
    let a = c.args in
    let on = has-next _ _ _ (sym c.has_next.ensures ∙ c.if-not-has_next.false) in
    let W = side a.sides.x a.sides.width in
    let H = side a.sides.y a.sides.height in (
      own-rows _ _ W H _ _ c.save.auto.work c.low-low.ensures.width c.low-low.ensures.height on.1 on.2 c.requires.1,
      rows-corner _ _ _ W H _ _ c.low-low.ensures.width c.low-low.ensures.height on.2 c.requires.0 c.lift_nine_seven.auto.area,
    )

pub forward_levels-requires : goal.forward_levels-requires
forward_levels-requires t c =
    let a = c.args in
    let on = has-next _ _ _ (sym c.has_next.ensures ∙ c.if-not-has_next.false) in
    let W = side a.sides.x a.sides.width in
    let H = side a.sides.y a.sides.height in (
      omega arith,
      (
        rows-corner _ _ _ W H _ _ c.low-low.ensures.width c.low-low.ensures.height on.2 c.requires.0
            (c.spread.auto.plane ∙ c.lift_nine_seven.auto.area),
        own-rows _ _ W H _ _ c.save.auto.work c.low-low.ensures.width c.low-low.ensures.height on.1 on.2 c.requires.1,
        omega arith,
      ),
    )

pub returns : goal.returns
returns t c =
    let a = c.args in
    let on = has-next _ _ _ (sym c.has_next.ensures ∙ c.if-not-has_next.false) in
    let W = side a.sides.x a.sides.width in
    let H = side a.sides.y a.sides.height in
    let R = c.requires.0 in
    let both = forward-step nine_seven_filter nine-seven-laws _ W H _ _ R.wide R.apart c.lift_nine_seven.ensures _ _ _ _ _ _ _ _ _ c.requires.1 on.0
    c.low-low.ensures.columns c.low-low.ensures.rows
    on.1 on.2 c.save.ensures c.spread.ensures c.forward_levels.ensures.plane_after c.forward_levels.ensures.kept_from in
    record { plane_after = both.0; kept_from = both.1 }
