-- `synthesis::neighbours::row-before` meets its contract: the mirrored place. Assumes nothing.
use mathlib.Core.Path.{◌≡◌, ◌∙◌, ap}
use Prim.Native.Nat.{ℕ, ◌+◌, ◌-◌, ◌%◌}
use native.Mathlib.Omega.{arith}
use lib.IntN.{pos}
use Rattle.lifting.specs.Grid.{side}
use Rattle.nine_seven.specs.NineSeven.{mirror}
use Rattle.synthesis.proofs.NeighbourLaws.{before-is}
use Rattle.synthesis.proofs.neighbours.row_before.Goals as goal

apart : (i j i₁ i₂ k : ℕ) → i₁ ≡ i - k → i₂ ≡ k - i → i ≡ j → i₁ + i₂ ≡ (j - k) + (k - j)
apart i j i₁ i₂ k e f g = omega arith

pub less-requires : goal.less-requires
less-requires c = tt

pub less-requires-2 : goal.less-requires-2
less-requires-2 c = tt

pub overflow_add-less : goal.overflow_add-less
overflow_add-less c = omega (arith, c.less-2.ensures, c.less.ensures, c.less-i.ensures)

pub overflow_add-result : goal.overflow_add-result
overflow_add-result c = omega (arith, c.mirrored.ensures.1)

pub returns : goal.returns
returns c =
    let a = c.args in (
      before-is (side a.y a.h) a.k a.q _
          (c.mirrored.ensures.0
          ∙ ap (λ (i : ℕ). mirror a.h (pos i))
          (apart c.less-i.result (a.q - a.y % 2) c.less.result c.less-2.result a.k c.less.ensures c.less-2.ensures
          c.less-i.ensures)),
      omega (arith, c.mirrored.ensures.1),
    )
