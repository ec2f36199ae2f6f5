-- `patch::copy_band` meets its contract: the patch of what is in reach. Assumes nothing.
use mathlib.Core.Path.{ap₂}
use Prim.Native.Nat.{ℕ, ◌+◌, ◌*◌}
use native.Mathlib.Omega.{arith}
use Rattle.numbers.specs.Signal.{at}
use Rattle.strokes.proofs.BandLaws.{reaches, band-asked, band-called, first-row, row-fits, place-fits, across-in}
use Rattle.strokes.proofs.patch.copy_band.Goals as goal

pub part_of-c-requires : goal.part_of-c-requires
part_of-c-requires c =
    let p = c.requires in
    let L = p.0.0.placed.lies in (
      omega (arith, L.order, L.ends),
      L.ends,
      L.long,
      omega (arith, L.cut.inside, L.long),
      (reaches c.args.l.columns c.args.a p.0.0 p.1).past,
      p.1,
    )

pub part_of-r-requires : goal.part_of-r-requires
part_of-r-requires c =
    let p = c.requires in
    let L = p.0.1.placed.lies in (
      omega (arith, L.order, L.ends),
      L.ends,
      L.long,
      omega (arith, L.cut.inside, L.long),
      (reaches c.args.l.rows c.args.h p.0.1 p.2).past,
      p.2,
    )

pub overflow_mul-first : goal.overflow_mul-first
overflow_mul-first c =
    let p = c.requires in
    let R = p.0.1 in
    row-fits _ _ _ _ _ p.0.3 (omega (arith, c.well_formed.0.1)) p.0.2
    (omega (
      arith,
      c.part_of-r.ensures.2,
      first-row R.placed.u R.placed.v R.more c.args.l.rows c.args.h
          R.placed.lies p.2,
    ))

pub overflow_add-first : goal.overflow_add-first
overflow_add-first c =
    let p = c.requires in
    let R = p.0.1 in
    place-fits _ _ _ _ _ p.0.3 (omega (arith, c.well_formed.0.1)) p.0.2
    (omega (
      arith,
      c.part_of-r.ensures.2,
      first-row R.placed.u R.placed.v R.more c.args.l.rows c.args.h R.placed.lies
          p.2,
    )) _
    (across-in c.args.l.columns c.args.a _ (reaches c.args.l.columns c.args.a p.0.0 p.1) c.part_of-c.ensures.1)

pub overflow_mul-l : goal.overflow_mul-l
overflow_mul-l c = omega (arith, c.requires.0.2)

pub copy_patch-requires : goal.copy_patch-requires
copy_patch-requires c =
    let a = c.args in
    let p = c.requires in
    band-asked a.l.across a.l.stride a.l.columns a.l.rows a.a a.h p.1 p.2 (reaches a.l.columns a.a p.0.0 p.1)
    (reaches a.l.rows a.h p.0.1 p.2) _ _ _ _ _ _ _ p.0.3 p.0.4 c.part_of-c.ensures.0 c.part_of-r.ensures.0
    (ap₂ (λ (x y : ℕ). x * a.l.stride + y) c.part_of-r.ensures.2 c.part_of-c.ensures.1) c.part_of-c.ensures.3 c.part_of-r.ensures.3

pub shape_of-plane : goal.shape_of-plane
shape_of-plane c = c.copy_patch.auto.to

pub returns : goal.returns
returns c =
    let a = c.args in
    let p = c.requires in
    λ B hyp.
    band-called a.l.across a.l.stride a.l.columns a.l.rows a.a a.h p.1 p.2 (reaches a.l.columns a.a p.0.0 p.1)
    (reaches a.l.rows a.h p.0.1 p.2) (at a.work.now) (at a.plane.now) _ B _ _ _ _ _ p.0.4.apart c.part_of-c.ensures.0
    c.part_of-r.ensures.0
    c.part_of-c.ensures.3 c.part_of-r.ensures.3
    (ap₂ (λ (x y : ℕ). x * a.l.stride + y) c.part_of-r.ensures.2 c.part_of-c.ensures.1) hyp c.copy_patch.ensures
