use mathlib.Core.Path.{refl, ◌∙◌}
use native.Mathlib.Omega.{arith}
use Rattle.map_levels.proofs.GridSweep.{rows-kept, few, start, finish, within-past}
use Rattle.map_levels.proofs.CellLaws.{fetched-out}
use Rattle.map_levels.proofs.NineSevenBack.{copied-turn}
use Rattle.map_levels.proofs.nine_seven_levels.copy_rows.Goals as goal

pub loop-r-init : goal.loop-r-init
loop-r-init c = (few _ _ _ _ c.requires.1, refl, start _ _ 0 _ (λ r k lt. absurd (omega arith)))

pub copy_row-requires : goal.copy_row-requires
copy_row-requires c =
    let pre = c.requires in
    (pre.0, rows-kept c.loop-r.invariant.1 pre.1, pre.2, c.loop-r-test.true)

pub loop-r-preserved : goal.loop-r-preserved
loop-r-preserved c =
    let inv = c.loop-r.invariant in
    let pre = c.requires in (
      inv.0,
      c.copy_row.auto.work ∙ inv.1,
      copied-turn _ _ _ _ _ _ _ _ _ _ pre.1.wide pre.2 c.loop-r-test.true c.copy_row.ensures inv.2,
    )

pub shape_of-work : goal.shape_of-work
shape_of-work c = c.loop-r.invariant.1

pub returns : goal.returns
returns c =
    finish c.requires.1.apart c.loop-r.invariant.2 (λ r k le. fetched-out _ _ _ r k (within-past _ _ r k (omega arith)) _ _)
