-- `nine_seven::near::around` meets its contract, past the last high number too. Assumes nothing.
use mathlib.Core.Path.{refl}
use native.Mathlib.Omega.{arith}
use Rattle.nine_seven.proofs.NearLaws.{around-is}
use Rattle.nine_seven.proofs.near.around.Goals as goal

pub returns-then-high-n : goal.returns-then-high-n
returns-then-high-n c = record { there = λ h. absurd (omega (arith, h)); past = λ h. (refl, refl, refl, refl) }

pub far_left-before-requires : goal.far_left-before-requires
far_left-before-requires c = omega arith

pub far_right-requires : goal.far_right-requires
far_right-requires c = (omega arith, omega arith)

pub returns : goal.returns
returns c =
    around-is _ _ _ _ _ _ _ _ c.if-high-n.false c.beside-two.ensures c.far_left-before.ensures c.far_right.ensures
