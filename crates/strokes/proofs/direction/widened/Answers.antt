-- `direction::widened` meets its contract: number by number. Assumes nothing.
use Prim.Native.Nat.{◌+◌, ◌-◌, ◌*◌, ◌/◌, ◌≤◌}
use native.Mathlib.Nat.{mul-le-mul_right, div-le_self}
use native.Mathlib.Omega.{arith}
use Rattle.strokes.proofs.direction.widened.Goals as goal

pub overflow_mul-start : goal.overflow_mul-start
overflow_mul-start c =
    let q = c.power-q.result in
    let x = c.saturating_sub.result in
    let k : q * x ≤ 65536 * x = mul-le-mul_right x (omega (arith, c.power-q.ensures.2)) in
    omega (arith, k, div-le_self (c.args.first + 1) q, c.saturating_sub.ensures)

pub overflow_add-last-2 : goal.overflow_add-last-2
overflow_add-last-2 c = omega (arith, c.power-q.ensures.2)

pub overflow_sub-last-2 : goal.overflow_sub-last-2
overflow_sub-last-2 c = omega (arith, c.power-q.ensures.1)

pub nonzero_div-last : goal.nonzero_div-last
nonzero_div-last c = omega (arith, c.power-q.ensures.1)

pub overflow_add-last-3 : goal.overflow_add-last-3
overflow_add-last-3 c =
    let q = c.power-q.result in
    let l = c.args.first + c.args.n - 1 in
    omega (arith, div-le_self (l + q - 2) q, c.power-q.ensures.2)

pub overflow_mul-q : goal.overflow_mul-q
overflow_mul-q c =
    let q = c.power-q.result in
    let l = c.args.first + c.args.n - 1 in
    let x = (l + q - 2) / q + 3 in
    let k : q * x ≤ 65536 * x = mul-le-mul_right x (omega (arith, c.power-q.ensures.2)) in
    omega (arith, k, div-le_self (l + q - 2) q, c.power-q.ensures.2)

pub overflow_add-q : goal.overflow_add-q
overflow_add-q c =
    let q = c.power-q.result in
    let l = c.args.first + c.args.n - 1 in
    let x = (l + q - 2) / q + 3 in
    let k : q * x ≤ 65536 * x = mul-le-mul_right x (omega (arith, c.power-q.ensures.2)) in
    omega (arith, k, div-le_self (l + q - 2) q, c.power-q.ensures.2)

pub returns : goal.returns
returns c = cc
