use Prim.Native.Nat.{◌+◌, ◌*◌, ◌≤◌}
use native.Mathlib.Omega.{arith}
use lib.ListN.{length}
use Rattle.rounding.specs.Figure.{max_step}
use Rattle.rounding.proofs.RoundLaws.{rounded-start, row_room, rounded-turn, rounded-end}
use Rattle.rounding.proofs.rows.round_rows.Goals as goal

pub overflow_cast-step : goal.overflow_cast-step
unfolding max_step
overflow_cast-step c = record { fits = omega (arith, c.requires.3) }

pub reciprocal_of-q-requires : goal.reciprocal_of-q-requires
reciprocal_of-q-requires c = (c.requires.2, c.requires.3)

pub loop-r-init : goal.loop-r-init
loop-r-init c =
    let q = c.reciprocal_of-q.ensures in
    rounded-start _ _ _ _ _ _ _ _ c.requires.1 q.1 q.0 c.size_at-low.ensures c.size_at-top.ensures

pub overflow_mul-from : goal.overflow_mul-from
overflow_mul-from c =
    let room : c.loop-r.r * c.args.width + c.args.width
    ≤ length c.args.plane.now = (row_room c.loop-r.invariant c.loop-r-test.true).0 in
    record { fits = omega (arith, room) }

pub overflow_add-from : goal.overflow_add-from
overflow_add-from c =
    let room : c.loop-r.r * c.args.width + c.args.width
    ≤ length c.args.plane.now = (row_room c.loop-r.invariant c.loop-r-test.true).0 in
    record { fits = omega (arith, room, c.first_of.ensures, (row_room c.loop-r.invariant c.loop-r-test.true).1) }

pub overflow_add-from-in-loop-r : goal.overflow_add-from-in-loop-r
overflow_add-from-in-loop-r c =
    let room : c.loop-r.r * c.args.width + c.args.width
    ≤ length c.args.plane.now = (row_room c.loop-r.invariant c.loop-r-test.true).0 in
    record { fits = omega (arith, room) }

pub round_between-requires : goal.round_between-requires
round_between-requires c =
    let room : c.loop-r.r * c.args.width + c.args.width
    ≤ length c.args.plane.now = (row_room c.loop-r.invariant c.loop-r-test.true).0 in
    let i = c.loop-r.invariant in
    (i.divides, omega (arith, room, i.swept.size))

pub loop-r-preserved : goal.loop-r-preserved
loop-r-preserved c =
    let i = c.loop-r.invariant in
    rounded-turn i c.loop-r-test.true _ _ c.first_of.ensures c.round_between.auto.plane c.round_between.ensures

pub shape_of-plane : goal.shape_of-plane
shape_of-plane c = c.loop-r.invariant.swept.size

pub returns : goal.returns
returns c = rounded-end c.loop-r.invariant c.loop-r-test.false
