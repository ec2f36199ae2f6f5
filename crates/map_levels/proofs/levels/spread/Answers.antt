use mathlib.Core.Path.{refl, ◌∙◌}
use native.Mathlib.Omega.{arith}
use Rattle.map_levels.proofs.GridSweep.{row_room, start, finish}
use Rattle.map_levels.proofs.CellLaws.{halved-out, outside-rows}
use Rattle.map_levels.proofs.ForwardCalls.{halved-turn}
use Rattle.map_levels.proofs.levels.spread.Goals as goal

pub loop-r-init : goal.loop-r-init
loop-r-init c = (refl, c.requires.0, c.requires.1, start _ _ 0 _ (λ r k lt. absurd (omega arith)))

pub overflow_mul-a : goal.overflow_mul-a
overflow_mul-a c = omega (arith, row_room _ _ _ _ _ c.loop-r.invariant.1 c.level_row.ensures.1)

pub overflow_mul-r : goal.overflow_mul-r
overflow_mul-r c = omega (arith, row_room _ _ _ _ _ c.loop-r.invariant.2 c.loop-r-test.true)

pub halve_part-requires : goal.halve_part-requires
halve_part-requires c =
    let inv = c.loop-r.invariant in (
      row_room _ _ _ _ _ inv.1 c.level_row.ensures.1,
      omega (arith, row_room _ _ _ _ _ inv.2 c.loop-r-test.true),
    )

pub loop-r-preserved : goal.loop-r-preserved
loop-r-preserved c =
    let inv = c.loop-r.invariant in (
      c.halve_part.auto.to ∙ inv.0,
      inv.1,
      inv.2,
      halved-turn _ _ _ _ _ _ _ _ _ _ inv.2.wide c.loop-r-test.true c.level_row.ensures.0 c.halve_part.ensures inv.3,
    )

pub shape_of-plane : goal.shape_of-plane
shape_of-plane c = c.loop-r.invariant.0

pub returns : goal.returns
returns c = finish c.loop-r.invariant.2.apart c.loop-r.invariant.3 (λ r k le. halved-out _ _ _ _ r k (outside-rows _ _ r k (omega arith)))
