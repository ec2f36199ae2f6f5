-- `forward::row_place` meets its contract. Assumes nothing.
use mathlib.Core.Path.{ap}
use Prim.Native.Nat.{ℕ, ◌*◌, ◌^◌}
use native.Mathlib.Omega.{arith}
use borrow.Author.Tests.{lt-ltb, le-ltb}
use Rattle.lifting.proofs.RowLaws.{row-order}
use Rattle.level.specs.Stretch.{row_place}
use Rattle.analysis.proofs.forward.row_place.Goals as goal

pub overflow_mul-result : goal.overflow_mul-result
overflow_mul-result c = let a = c.args in omega (arith, row-order a.w c.slot.result 8 c.slot.ensures.1)

pub returns-then-w-lt2305843009213693952 : goal.returns-then-w-lt2305843009213693952
unfolding row_place
returns-then-w-lt2305843009213693952 c = let a = c.args in simp (lt-ltb a.w (2 ^ 61) (omega arith)) (ap (λ (t : ℕ). t * a.w) c.slot.ensures.0)

pub returns : goal.returns
returns c = let a = c.args in simp (le-ltb a.w (2 ^ 61) (omega arith))
