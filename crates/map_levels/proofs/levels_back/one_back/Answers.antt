-- `levels_back::one_back` meets its contract: the row lifted back, halved and put. Assumes nothing.
use native.Mathlib.Omega.{arith}
use Rattle.lifting.specs.Grid.{side}
use Rattle.map_levels.proofs.RowwiseLaws.{and_both}
use Rattle.map_levels.proofs.SweepBackGrid.{one-back, one-room}
use Rattle.map_levels.proofs.TestLaws.{false-true}
use Rattle.map_levels.proofs.levels_back.one_back.Goals as goal

pub fetch-requires : goal.fetch-requires
fetch-requires c =
    let R = c.requires.0 in
    (R.area.plane, R.area.work, R.wide, R.area.plane.some, (one-room _ _ _ _ _ _ _ _ R).0)

pub unlift_single-even-requires : goal.unlift_single-even-requires
unlift_single-even-requires c =
    omega (arith, c.fetch.auto.lines, (one-room _ _ _ _ _ _ _ _ c.requires.0).1)

pub put-fits-requires : goal.put-fits-requires
put-fits-requires c =
    let R = c.requires.0 in
    let room = one-room _ _ _ _ _ _ _ _ R in
    (omega (arith, c.unlift_single-even.auto.work, c.fetch.auto.lines, room.0), room.2, room.3, R.level, λ t. absurd (false-true t))

pub returns : goal.returns
returns c =
    let a = c.args in
    one-back a.across (side a.sides.x a.sides.width) (side a.sides.y a.sides.height) _ _ _ _ _ c.requires.0.area.plane.some c.requires.1 c.requires.2
    c.fetch.ensures c.unlift_single-even.ensures.work_after a.level _ _ _ _ _ _ c.unlift_single-even.ensures.value c.put-fits.ensures
    (and_both c.unlift_single-even.result c.put-fits.result)
