use Rattle.std.proofs.Common.{◌≡◌, refl, ap, ◌∙◌, ◌+◌, ◌-◌, arith}
use Rattle.numbers.specs.Signal.{at}
use Rattle.wavelet.specs.Plane.{cells}
use Rattle.map_levels.proofs.GridSweep.{rows-kept}
use Rattle.map_levels.proofs.LevelSteps.{stride-small}
use Rattle.strokes.specs.declared.direction.Level.{Level}
use Rattle.strokes.proofs.DirectionLaws.{ready}
use Rattle.strokes.proofs.StepLaws.{work-band}
use Rattle.strokes.proofs.Standing.{levels-turn, narrower, standing-turn, standing-last}
use Rattle.strokes.proofs.levels.mend_levels.Goals as goal

pub loop-level-init : goal.loop-level-init
loop-level-init c =
    let p = c.requires in
    let e : c.args.levels + 1 - 1 ≡ c.args.levels = omega arith in
    rw e (refl, refl, p.0, p.1, p.2, p.3, p.4, p.5, λ goal u v u' v' S. S, refl)

pub mend_level-requires : goal.mend_level-requires
mend_level-requires c =
    let inv = c.loop-level.invariant in
    ((ready _ _ inv.2 (omega arith), ready _ _ inv.3 (omega arith), omega (arith, stride-small _ _ _ inv.4), inv.5, inv.6), inv.7)

pub next-l-requires : goal.next-l-requires
next-l-requires c =
    let inv = c.loop-level.invariant in
    (inv.2.lies.ends, inv.3.lies.ends, omega (arith, stride-small _ _ _ inv.4))

pub loop-level-preserved : goal.loop-level-preserved
loop-level-preserved c =
    let inv = c.loop-level.invariant in
    let a = c.args in
    let L = c.loop-level in
    let l = L.l in
    let left = a.levels + 1 - L._level in
    let e : a.levels + 1 - (L._level + 1) ≡ left - 1 = omega arith in
    let columns = ap (λ (n : Level). n.columns) c.next-l.ensures in
    let rows = ap (λ (n : Level). n.rows) c.next-l.ensures in
    let stride = ap (λ (n : Level). n.stride) c.next-l.ensures in
    let across = ap (λ (n : Level). n.across) c.next-l.ensures in
    let next = levels-turn l.across _ _ l.stride left l.columns _ l.rows _ (omega arith) columns rows inv.2 inv.3 inv.4
    (rows-kept c.mend_level.auto.work inv.5) (rows-kept c.mend_level.auto.plane inv.6) in
    rw (e, stride, across) (
      c.mend_level.auto.work ∙ inv.0,
      c.mend_level.auto.plane ∙ inv.1,
      next.1,
      next.2,
      next.3,
      next.4,
      next.5,
      narrower _ _ columns inv.7,
      λ goal u v u' v' S.
          standing-turn a.across goal u v u' v' left l.stride l.columns _ l.rows _ (at L.work) _ (at L.plane) _ (omega arith) columns
          rows (rw inv.9 at inv.6.apart) inv.5.wide c.mend_level.ensures.work_after (rw inv.9 at c.mend_level.ensures.plane_after) (inv.8 goal u v u' v' S),
      inv.9,
    )

pub mend_level-requires-2 : goal.mend_level-requires-2
mend_level-requires-2 c =
    let inv = c.loop-level.invariant in
    ((ready _ _ inv.2 (omega arith), ready _ _ inv.3 (omega arith), omega (arith, stride-small _ _ _ inv.4), inv.5, inv.6), inv.7)

pub copy_band-requires : goal.copy_band-requires
copy_band-requires c =
    let inv = c.loop-level.invariant in (
      (
        ready _ _ inv.2 (omega arith),
        ready _ _ inv.3 (omega arith),
        omega (arith, stride-small _ _ _ inv.4),
        rows-kept c.mend_level-2.auto.work inv.5,
        rows-kept c.mend_level-2.auto.plane inv.6,
      ),
      omega arith,
      omega arith,
    )

pub shape_of-work : goal.shape_of-work
shape_of-work c = c.mend_level-2.auto.work ∙ c.loop-level.invariant.0

pub shape_of-plane : goal.shape_of-plane
shape_of-plane c = c.copy_band.auto.plane ∙ c.mend_level-2.auto.plane ∙ c.loop-level.invariant.1

pub returns : goal.returns
returns c =
    let inv = c.loop-level.invariant in
    let a = c.args in
    let L = c.loop-level in
    let l = L.l in
    let last : a.levels + 1 - L._level ≡ 1 = omega (arith, c.requires.2.some) in
    let x = at L.work in
    λ u v u' v' G Lc Lr same.
    let S = inv.8 _ u v u' v' (record { grid = G; columns = Lc; rows = Lr; agrees = same; is = refl }) in
    standing-last a.across _ u v u' v' 0 l.stride l.columns l.rows x _ (at L.plane) _ (rw inv.9 at inv.6.apart) inv.5.wide
    c.mend_level-2.ensures.work_after (rw inv.9 at c.mend_level-2.ensures.plane_after) _ (rw last at S)
    (λ G' same' Lc' Lr'.
    rw inv.9 at
    (c.copy_band.ensures _
    (work-band u v u' v' 0 l.columns l.rows Lc' Lr' G' (cells l.stride x) same' l.stride inv.5.wide _
    c.mend_level-2.ensures.work_after 0 0 (omega arith) (omega arith))))
