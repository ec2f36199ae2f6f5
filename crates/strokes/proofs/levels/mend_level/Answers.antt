-- `levels::mend_level` meets its contract: the window lifted, and what is in reach of its high bands. Assumes nothing.
use native.Mathlib.Omega.{arith}
use Rattle.map_levels.proofs.GridSweep.{rows-kept}
use Rattle.wavelet.specs.Plane.{cells}
use Rattle.numbers.specs.Signal.{at}
use Rattle.strokes.proofs.levels.mend_level.Goals as goal

pub returns : goal.returns
returns c =
    let a = c.args in
    record { work_after = c.lift_level.ensures; plane_after = λ k u v u' v' G Lc Lr same. c.copy_highs.ensures k u v u' v' G (cells a.l.stride (at a.work.now)) Lc Lr same c.lift_level.ensures }

pub lift_level-requires : goal.lift_level-requires
lift_level-requires c =
    let p = c.requires in
    let C = p.0.0.placed.lies in
    let R = p.0.1.placed.lies in
    (p.0.3, omega (arith, C.cut.inside, p.1), omega (arith, R.cut.inside, R.long), R.ends)

pub copy_highs-requires : goal.copy_highs-requires
copy_highs-requires c =
    let p = c.requires.0 in
    (p.0, p.1, p.2, rows-kept c.lift_level.auto.work p.3, p.4)

pub shape_of-work : goal.shape_of-work
shape_of-work c = c.lift_level.auto.work

pub shape_of-plane : goal.shape_of-plane
shape_of-plane c = c.copy_highs.auto.plane
