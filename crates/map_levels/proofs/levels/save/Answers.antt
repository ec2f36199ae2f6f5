use mathlib.Core.Path.{refl, ◌∙◌}
use native.Mathlib.Omega.{arith}
use Rattle.map_levels.proofs.GridSweep.{row_room, start, finish}
use Rattle.map_levels.proofs.CellLaws.{copied-out, outside-rows}
use Rattle.map_levels.proofs.ForwardCalls.{copied-turn}
use Rattle.map_levels.proofs.levels.save.Goals as goal

pub loop-r-init : goal.loop-r-init
loop-r-init c = (refl, c.requires.0, c.requires.1, start _ _ 0 _ (λ r k lt. absurd (omega arith)))

pub overflow_mul-r : goal.overflow_mul-r
overflow_mul-r c = omega (arith, row_room _ _ _ _ _ c.loop-r.invariant.1 c.loop-r-test.true)

pub overflow_mul-r-in-loop-r : goal.overflow_mul-r-in-loop-r
overflow_mul-r-in-loop-r c = omega (arith, row_room _ _ _ _ _ c.loop-r.invariant.2 c.loop-r-test.true)

pub copy_part-requires : goal.copy_part-requires
copy_part-requires c =
    let inv = c.loop-r.invariant in (
      row_room _ _ _ _ _ inv.1 c.loop-r-test.true,
      omega (arith, row_room _ _ _ _ _ inv.2 c.loop-r-test.true),
    )

pub loop-r-preserved : goal.loop-r-preserved
loop-r-preserved c =
    let inv = c.loop-r.invariant in (
      c.copy_part.auto.to ∙ inv.0,
      inv.1,
      inv.2,
      copied-turn _ _ _ _ _ _ _ _ _ inv.2.wide c.loop-r-test.true c.copy_part.ensures inv.3,
    )

pub shape_of-work : goal.shape_of-work
shape_of-work c = c.loop-r.invariant.0

pub returns : goal.returns
returns c = finish c.loop-r.invariant.2.apart c.loop-r.invariant.3 (λ r k le. copied-out _ _ _ _ r k (outside-rows _ _ r k (omega arith)))
