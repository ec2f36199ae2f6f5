-- `widths::is_smallest` meets its contract: by the width before (`smallest`). Assumes nothing.
use mathlib.Core.Path.{◌≡◌, sym, ap, ◌∙◌, subst}
use mathlib.Core.Bool.{true}
use mathlib.Core.List.{[], ◌∷◌}
use Prim.Native.Nat.{◌-◌, ◌/◌, ◌^◌, ◌<◌}
use native.Mathlib.Omega.{arith}
use lib.Dec.{ltb, eqb}
use Rattle.ground_file.specs.Groups.{width_of, code_of}
use Rattle.ground_loader.proofs.SmallestLaws.{widest, smallest-none, smallest}
use Rattle.ground_loader.proofs.widths.is_smallest.Goals as goal

pub returns-then-code-eq0 : goal.returns-then-code-eq0
returns-then-code-eq0 c =
    let none : c.args.code ≡ 0 = omega arith in
    subst (λ k. c.args.most < 2 ^ width_of k → true ≡ eqb (code_of (c.args.most ∷ [])) k) (sym none)
    (smallest-none c.args.most) c.requires.1

pub overflow_sub-code : goal.overflow_sub-code
overflow_sub-code c = omega arith

pub overflow_shr-result : goal.overflow_shr-result
overflow_shr-result c = omega (arith, c.width_of.ensures, widest (c.args.code - 1))

pub returns : goal.returns
returns c =
    ap (λ w. ltb 0 (c.args.most / 2 ^ w)) c.width_of.ensures ∙ smallest c.args.most c.args.code (omega arith) c.requires.1
