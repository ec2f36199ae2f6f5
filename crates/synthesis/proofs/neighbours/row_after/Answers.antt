-- `synthesis::neighbours::row_after` meets its contract: the mirrored place. Assumes nothing.
use mathlib.Core.Path.{◌∙◌, ap}
use Prim.Native.Nat.{ℕ, ◌+◌}
use native.Mathlib.Omega.{arith}
use lib.IntN.{pos}
use Rattle.lifting.specs.Grid.{side}
use Rattle.nine_seven.specs.NineSeven.{mirror}
use Rattle.synthesis.proofs.NeighbourLaws.{after_is}
use Rattle.synthesis.proofs.neighbours.row_after.Goals as goal

pub overflow_add-less : goal.overflow_add-less
overflow_add-less c = omega (arith, c.less.ensures)

pub overflow_add-result : goal.overflow_add-result
overflow_add-result c = omega (arith, c.mirrored.ensures.1)

pub returns : goal.returns
returns c =
    let a = c.args in (
      after_is (side a.y a.h) a.k a.q _
          (c.mirrored.ensures.0 ∙ ap (λ (i : ℕ). mirror a.h (pos (i + a.k))) c.less.ensures),
      omega (arith, c.mirrored.ensures.1),
    )
