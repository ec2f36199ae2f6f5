-- `step::rounded` meets its contract: the size's multiple with the value's sign. Assumes nothing.
use mathlib.Core.Path.{◌≡◌, ap, ap₂, ◌∙◌}
use Prim.Native.Nat.{ℕ, ◌*◌, ◌/◌}
use native.Mathlib.Nat.{div-mul-le_self}
use native.Mathlib.Omega.{arith}
use lib.IntN.{ℤ, nat_abs}
use mir.Syntax.{w32}
use mir.ValLaws.{to_z-of_z}
use Rattle.numbers.proofs.Words.{read_back}
use Rattle.rounding.specs.Rounding.{toward_zero}
use Rattle.rounding.specs.Step.{with_sign}
use Rattle.rounding.proofs.StepLaws.{size_small, sign-rounded}
use Rattle.rounding.proofs.step.rounded.Goals as goal

-- the value and its size read back
parts : (q : ℕ) (v v' : ℤ) (n m : ℕ) → v' ≡ v → n ≡ nat_abs v' → m ≡ n / q * q → with_sign v' m ≡ toward_zero q v
parts q v v' n m e d h =
    ap₂ with_sign e (h ∙ ap (λ (x : ℕ). x / q * q) (d ∙ ap nat_abs e)) ∙ sign-rounded q v

pub multiple-requires : goal.multiple-requires
multiple-requires c =
    (omega (arith, c.size.ensures, ap nat_abs (to_z-of_z w32 _ c.ranges.v), size_small c.args.v c.ranges.v), c.requires)

pub signed-requires : goal.signed-requires
signed-requires c =
    let m = c.size in
    omega (arith, c.multiple.ensures, m.ensures, div-mul-le_self m.result c.args.q.step)

pub returns : goal.returns
returns c =
    let m = c.size in
    let v = to_z-of_z w32 _ c.ranges.v in
    read_back _ c.signed.type_inv
    ∙ c.signed.ensures
    ∙ parts c.args.q.step c.args.v _ m.result c.multiple.result v m.ensures c.multiple.ensures
