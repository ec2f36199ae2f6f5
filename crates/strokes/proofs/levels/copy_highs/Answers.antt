-- `levels::copy_highs` meets its contract: one band after the other. Assumes nothing.
use mathlib.Core.Path.{◌∙◌}
use native.Mathlib.Omega.{arith}
use Rattle.numbers.specs.Signal.{at}
use Rattle.wavelet.specs.Plane.{cells}
use Rattle.map_levels.proofs.GridSweep.{rows-kept}
use Rattle.strokes.specs.Local.{changed_of}
use Rattle.strokes.proofs.StepLaws.{work-band, highs-copied}
use Rattle.strokes.proofs.levels.copy_highs.Goals as goal

pub copy_band-requires : goal.copy_band-requires
copy_band-requires c = let p = c.requires in (p, omega arith, omega arith)

pub copy_band-requires-2 : goal.copy_band-requires-2
copy_band-requires-2 c =
    let p = c.requires in
    ((p.0, p.1, p.2, p.3, rows-kept c.copy_band.auto.plane p.4), omega arith, omega arith)

pub copy_band-requires-3 : goal.copy_band-requires-3
copy_band-requires-3 c =
    let p = c.requires in
    ((p.0, p.1, p.2, p.3, rows-kept (c.copy_band-2.auto.plane ∙ c.copy_band.auto.plane) p.4), omega arith, omega arith)

pub shape_of-plane : goal.shape_of-plane
shape_of-plane c =
    c.copy_band-3.auto.plane ∙ c.copy_band-2.auto.plane ∙ c.copy_band.auto.plane

pub returns : goal.returns
returns c =
    let a = c.args in
    λ k u v u' v' G X Lc Lr same is.
    let band = work-band u v u' v' k a.l.columns a.l.rows Lc Lr G X same a.l.stride c.requires.3.wide (at a.work.now) is in
    highs-copied a.l.across a.l.columns.length a.l.rows.length (changed_of a.l.columns) (changed_of a.l.rows) G (cells a.l.across (at
    a.plane.now)) _ _ _
    c.requires.4.apart (c.copy_band.ensures _ (band 1 0 (omega arith) (omega arith))) (c.copy_band-2.ensures _ (band 0 1 (omega arith)
    (omega arith)))
    (c.copy_band-3.ensures _ (band 1 1 (omega arith) (omega arith)))
