-- `synthesis::rows::row_place` meets its contract: a slot of those kept. Assumes nothing.
use mathlib.Core.Path.{◌≡◌, ap}
use Prim.Native.Nat.{ℕ, ◌*◌, ◌≤◌}
use native.Mathlib.Nat.{mul-le-mul_right}
use native.Mathlib.Omega.{arith}
use Rattle.level.specs.Stretch.{row_place}
use Rattle.synthesis.proofs.CallLaws.{row_room}
use Rattle.synthesis.proofs.rows.row_place.Goals as goal

pub overflow_mul-result : goal.overflow_mul-result
overflow_mul-result c =
    let small : c.slot.result * c.args.w ≤ 8 * c.args.w = let b : c.slot.result ≤ 8 = omega (arith, c.slot.ensures.1) in mul-le-mul_right c.args.w b in
    omega (arith, small)

pub returns : goal.returns
unfolding row_place
returns c =
    let small : c.slot.result * c.args.w ≤ 8 * c.args.w = let b : c.slot.result ≤ 8 = omega (arith, c.slot.ensures.1) in mul-le-mul_right c.args.w b in
    let a = c.args in
    let e = c.slot.ensures.0 in (
      ap (λ (i : ℕ). i * a.w) e,
      rw e (row_room a.filter a.w a.q),
      omega (arith, small),
    )
