-- `view::size_within` meets its contract: the ends of a level's side (`side-end`). Assumes nothing.
use mathlib.Core.Path.{◌≡◌}
use Prim.Native.Nat.{ℕ, ◌*◌, ◌%◌, ◌^◌, ◌≤◌}
use native.Mathlib.Omega.{arith}
use Rattle.wavelet.specs.Limits.{max_levels}
use Rattle.wavelet.proofs.LimitLaws.{unit-small}
use Rattle.wavelet.proofs.SideLaws.{unit-some, up_to, size-ends}
use Rattle.wavelet.proofs.view.size_within.Goals as goal

-- what the shift makes
unit : (k : ℕ) → k ≤ max_levels → (1 * 2 ^ k) % 18446744073709551616 ≡ 2 ^ k
unit k h = omega (arith, unit-small k h)

pub overflow_shl-up : goal.overflow_shl-up
unfolding max_levels
overflow_shl-up c = omega arith

pub overflow_sub-up : goal.overflow_sub-up
overflow_sub-up c = omega (arith, unit-small c.args.level c.requires.0, unit-some c.args.level)

pub overflow_add-result : goal.overflow_add-result
overflow_add-result c = omega arith

pub overflow_add-result-2 : goal.overflow_add-result-2
overflow_add-result-2 c = omega (arith, unit-small c.args.level c.requires.0)

pub overflow_shr-result : goal.overflow_shr-result
unfolding max_levels
overflow_shr-result c = omega arith

pub overflow_add-result-3 : goal.overflow_add-result-3
overflow_add-result-3 c = omega (arith, unit-small c.args.level c.requires.0)

pub overflow_shr-result-2 : goal.overflow_shr-result-2
unfolding max_levels
overflow_shr-result-2 c = omega arith

pub overflow_sub-result : goal.overflow_sub-result
unfolding up_to
overflow_sub-result c = rw (unit c.args.level c.requires.0) (size-ends c.args.level c.args.start c.args.n).0

pub returns : goal.returns
unfolding up_to
returns c = rw (unit c.args.level c.requires.0) (size-ends c.args.level c.args.start c.args.n).1
