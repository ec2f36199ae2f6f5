-- `direction::power` meets its contract: of so few levels no bit is shifted out. Assumes nothing.
use Prim.Native.Nat.{◌^◌, ◌≤◌}
use native.Mathlib.Nat.{pow-le-pow_right}
use native.Mathlib.Omega.{arith}
use Rattle.wavelet.specs.Limits.{max_levels}
use Rattle.wavelet.proofs.LimitLaws.{unit-small}
use Rattle.strokes.proofs.direction.power.Goals as goal

pub overflow_shl-result : goal.overflow_shl-result
unfolding max_levels
overflow_shl-result c = omega arith

pub returns : goal.returns
returns c =
    let small = unit-small c.args.levels c.requires.1 in
    let two : 2 ^ 1 ≤ 2 ^ c.args.levels = pow-le-pow_right {n = 2} (omega arith) c.requires.0 in
    (omega arith, omega arith, omega arith)
