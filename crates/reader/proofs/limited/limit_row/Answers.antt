use mathlib.Core.Path.{◌≡◌, refl, sym, ◌∙◌}
use Prim.Native.Nat.{◌-◌, ◌≤◌}
use native.Mathlib.Omega.{arith}
use lib.ListN.{length}
use Rattle.numbers.specs.Signal.{at}
use Rattle.numbers.proofs.Sweep.{Swept, store}
use Rattle.lifting.specs.Halves.{fronted}
use Rattle.areas.specs.Areas.{heights_at, wholes}
use Rattle.areas.proofs.AreaLaws.{front_at, front_rest}
use Rattle.areas.proofs.HeightLaws.{start-heights, finish-heights}
use Rattle.reader.specs.Limited.{limited}
use Rattle.reader.proofs.limited.limit_row.Goals as goal

pub loop-i-init : goal.loop-i-init
loop-i-init c = (c.requires, refl, start-heights c.args.out.now _ 0 (λ j lt. absurd (omega arith)))

pub loop-i-preserved : goal.loop-i-preserved
loop-i-preserved c =
    let l = c.loop-i in (
      l.invariant.0,
      c.limit_at.auto.out ∙ l.invariant.1,
      rw c.limit_at.ensures (store _ l.invariant.2 (omega arith) (sym (front_at _ _ _ l.i (omega arith)))),
    )

pub shape_of-out : goal.shape_of-out
shape_of-out c = c.loop-i.invariant.1

pub returns : goal.returns
returns c =
    let l = c.loop-i in
    finish-heights l.out l.invariant.2 (λ j le. front_rest _ _ _ j (omega arith))
