use mathlib.Core.Path.{refl, sym, ap, ◌∙◌}
use Prim.Native.Nat.{◌+◌, ◌-◌, ◌/◌, ◌^◌, max}
use native.Mathlib.Omega.{arith}
use Rattle.ground_loader.specs.Numbers.{numbers_in, greatest}
use Rattle.ground_loader.proofs.NumberLaws.{greatest-start, greatest-next, greatest-end}
use Rattle.ground_loader.proofs.parts.largest.Goals as goal

pub loop-i-init : goal.loop-i-init
loop-i-init c = greatest-start _ _ _ _

pub loop-i-preserved : goal.loop-i-preserved
loop-i-preserved c =
    let l = c.loop-i in
    let a = c.args in
    ap (λ v. greatest v (numbers_in a.w (a.k - (l._i + 1)) (l.rest / 2 ^ a.w))) (c.max-r.ensures ∙ ap (max l.r) c.lowest.ensures)
    ∙ sym (greatest-next _ _ _ _ _ _ (omega arith) refl) ∙ l.invariant

pub returns : goal.returns
returns c = sym (greatest-end _ _ _ _ _ (omega arith)) ∙ c.loop-i.invariant
