use mathlib.Core.Path.{◌≡◌}
use Prim.Native.Nat.{◌-◌, ◌≤◌, ◌<◌, ◌^◌}
use native.Mathlib.Omega.{arith}
use Rattle.lifting.specs.Grid.{side}
use Rattle.wavelet.specs.Limits.{max_levels}
use Rattle.wavelet.proofs.StoreLaws.{widths-le}
use Rattle.reader.proofs.StoreLaws.{Ends, ends-start, ends_on, walked-level, begins-small}
use Rattle.reader.proofs.walk.level_at.Goals as goal

pub overflow_add-right : goal.overflow_add-right
overflow_add-right c = omega arith

pub overflow_add-bottom : goal.overflow_add-bottom
overflow_add-bottom c = omega arith

pub loop-i-init : goal.loop-i-init
loop-i-init c = (omega arith, omega arith, omega arith, omega arith, ends-start _ _ _ _ (omega arith))

pub overflow_sub-bottom : goal.overflow_sub-bottom
overflow_sub-bottom c = let a = c.loop-i.invariant.4 in omega (arith, a.down)

pub overflow_sub-columns : goal.overflow_sub-columns
overflow_sub-columns c = let a = c.loop-i.invariant.4 in omega (arith, a.across)

pub overflow_add-columns : goal.overflow_add-columns
unfolding max_levels
overflow_add-columns c =
    let a = c.loop-i.invariant.4.walked in
    let args = c.args in
    omega (arith, a.narrow, a.passed, widths-le (side args.x args.width) c.loop-i._i)

pub loop-i-preserved : goal.loop-i-preserved
loop-i-preserved c =
    let inv = c.loop-i.invariant in (
      inv.0,
      inv.1,
      inv.2,
      inv.3,
      ends_on _ _ _ _ _ _ _ _ _ _ _ inv.2 inv.4 _ _ _ _ _ _ c.set_of-n.ensures c.row_below-row.ensures c.next_start-left.ensures
          c.next_start-right.ensures c.next_start-top.ensures c.next_start-bottom.ensures,
    )

pub overflow_sub-h : goal.overflow_sub-h
overflow_sub-h c = let a = c.loop-i.invariant.4 in omega (arith, a.down)

pub overflow_mul-result : goal.overflow_mul-result
unfolding max_levels
overflow_mul-result c =
    let args = c.args in
    omega (
      arith,
      begins-small args.filter c.rows_kept-rows.result (side args.x args.width) c.loop-i._i c.loop-i.columns c.rows_kept-rows.ensures
          c.loop-i.invariant.4.walked.passed (omega arith),
    )

pub overflow_sub-result : goal.overflow_sub-result
overflow_sub-result c = let a = c.loop-i.invariant.4 in omega (arith, a.across)

pub returns : goal.returns
returns c =
    let a = c.args in
    let e : c.loop-i._i ≡ a.k = omega arith in
    walked-level a.filter _ (side a.x a.width) (side a.y a.height) a.drawn a.k _ _ _ _ _ _ _ c.loop-i.invariant.2 e
    c.loop-i.invariant.4.walked c.set_of-n-2.result c.set_of-n-2.ensures c.rows_kept-rows.ensures
