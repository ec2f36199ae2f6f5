use mathlib.Core.Path.{◌≡◌, refl, ◌∙◌}
use Prim.Native.Nat.{◌+◌, ◌-◌, ◌*◌, ◌/◌, ◌%◌}
use native.Mathlib.Omega.{arith}
use Rattle.numbers.specs.Signal.{at}
use Rattle.lifting.specs.Grid.{side}
use Rattle.areas.specs.Areas.{heights_at}
use Rattle.map_levels.proofs.RowwiseLaws.{and_both}
use Rattle.map_levels.proofs.SweepBackGrid.{rows-swept, rows-and, room-kept, height-less}
use Rattle.map_levels.proofs.back_sweep.rows_back.Goals as goal

pub first_rows-ok-requires : goal.first_rows-ok-requires
first_rows-ok-requires c = c.requires

pub loop-n-init : goal.loop-n-init
loop-n-init c =
    let first : 1 - c.args.sides.y % 2 ≡ 1 - c.args.sides.y % 2 + 2 * 0 = omega arith in
    (refl, refl, refl, λ g₀ x₀ small D. rw first at D)

pub pair_back-ok-requires : goal.pair_back-ok-requires
pair_back-ok-requires c =
    let inv = c.loop-n.invariant in
    let kept = c.first_rows-ok.auto in
    (room-kept (inv.0 ∙ kept.heights) (inv.1 ∙ kept.work) (inv.2 ∙ kept.lines) c.requires.0, omega (arith, c.loop-n-test.true), omega arith)

pub loop-n-preserved : goal.loop-n-preserved
loop-n-preserved c =
    let inv = c.loop-n.invariant in
    let kept = c.pair_back-ok.auto in
    let next : 1 - c.args.sides.y % 2 + 2 * (c.loop-n.n + 1) ≡ 1 - c.args.sides.y % 2 + 2 * c.loop-n.n + 2 = omega arith in (
      kept.heights ∙ inv.0,
      kept.work ∙ inv.1,
      kept.lines ∙ inv.2,
      λ g₀ x₀ small D. rw next (rows-and c.loop-n.ok c.pair_back-ok.result (c.pair_back-ok.ensures c.loop-n.ok g₀ x₀ small (inv.3 g₀ x₀ small D))),
    )

pub last_row-requires : goal.last_row-requires
last_row-requires c =
    let inv = c.loop-n.invariant in
    let kept = c.first_rows-ok.auto in
    let R = room-kept (inv.0 ∙ kept.heights) (inv.1 ∙ kept.work) (inv.2 ∙ kept.lines) c.requires.0 in
    (R.area.heights, R.area.work, R.lines, R.halves, R.more, omega (arith, R.more), R.level)

pub shape_of-heights : goal.shape_of-heights
shape_of-heights c = c.last_row.auto.heights ∙ c.loop-n.invariant.0 ∙ c.first_rows-ok.auto.heights

pub shape_of-work : goal.shape_of-work
shape_of-work c = c.last_row.auto.work ∙ c.loop-n.invariant.1 ∙ c.first_rows-ok.auto.work

pub shape_of-lines : goal.shape_of-lines
shape_of-lines c = c.last_row.auto.lines ∙ c.loop-n.invariant.2 ∙ c.first_rows-ok.auto.lines

pub returns : goal.returns
returns c =
    let a = c.args in
    let inv = c.loop-n.invariant in
    let all : c.loop-n.n ≡ (a.sides.height - (1 - a.sides.y % 2)) / 2 = omega (arith, c.loop-n-test.false) in
    rows-swept _ _ a.level a.across (side a.sides.x a.sides.width) (side a.sides.y a.sides.height) _ _ _ _ _ _ (and_both c.loop-n.ok c.last_row.result)
    (c.last_row.ensures c.loop-n.ok a.across (at a.plane.now) (heights_at a.heights.now) (at a.work.now) (λ b. omega arith) c.requires.1
    (rw all at (inv.3 _ _ c.requires.1 c.first_rows-ok.ensures)) (omega (arith, c.requires.0.more)))
