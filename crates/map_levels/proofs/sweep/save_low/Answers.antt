-- `sweep::save_low` meets its contract, by cases. Assumes nothing.
use mathlib.Core.Path.{refl, sym, ◌∙◌}
use borrow.Author.Tests.{not-true, not-false}
use Rattle.lifting.specs.Grid.{side}
use Rattle.map_levels.proofs.LevelSteps.{rows-corner}
use Rattle.map_levels.proofs.ForwardSteps.{has-next}
use Rattle.map_levels.proofs.SweepLevels.{low-rows, low-saved, low-none}
use Rattle.map_levels.proofs.sweep.save_low.Goals as goal

pub returns-then-not-has_next : goal.returns-then-not-has_next
returns-then-not-has_next c =
    let a = c.args in
    low-none a.across (side a.sides.x a.sides.width) (side a.sides.y a.sides.height) _ _ _ _ c.low-low.ensures.width c.low-low.ensures.height
    (sym c.has_next.ensures ∙ not-true _ c.if-not-has_next.true-raw)

pub save-requires : goal.save-requires
save-requires c =
    let a = c.args in
    let W = side a.sides.x a.sides.width in
    let H = side a.sides.y a.sides.height in
    let on = has-next _ _ _ (sym c.has_next.ensures ∙ not-false _ c.if-not-has_next.false-raw) in (
      rows-corner _ _ _ W H _ _ c.low-low.ensures.width c.low-low.ensures.height on.2 c.requires.0 refl,
      low-rows _ W H _ _ c.low-low.ensures.width c.low-low.ensures.height on.1 on.2 c.requires.1,
    )

pub shape_of-work : goal.shape_of-work
shape_of-work c = c.save.auto.work

pub returns : goal.returns
returns c =
    let a = c.args in
    let W = side a.sides.x a.sides.width in
    let H = side a.sides.y a.sides.height in
    let on = has-next _ _ _ (sym c.has_next.ensures ∙ not-false _ c.if-not-has_next.false-raw) in
    low-saved a.across W H _ _ _ _ c.low-low.ensures.width c.low-low.ensures.height _ _ on.1 on.2
    (low-rows _ W H _ _ c.low-low.ensures.width c.low-low.ensures.height on.1 on.2 c.requires.1) c.save.ensures
