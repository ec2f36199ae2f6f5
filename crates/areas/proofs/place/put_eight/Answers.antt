use native.Mathlib.Omega.{arith}
use Rattle.numbers.specs.Signal.{at}
use Rattle.numbers.proofs.Words.{read_back}
use Rattle.numbers.proofs.Sweep.{start, finish}
use Rattle.numbers.proofs.Parts.{splice-below, splice-past}
use Rattle.areas.proofs.PartLaws.{splice-turn}
use Rattle.areas.proofs.place.put_eight.Goals as goal

pub loop-i-init : goal.loop-i-init
loop-i-init c = (omega arith, omega arith, start _ _ _ (λ j lt. splice-below _ _ _ _ j (omega arith)))

pub bounds-area-p : goal.bounds-area-p
bounds-area-p c = let sw = c.loop-i.invariant.2 in omega (arith, sw.size)

pub loop-i-preserved : goal.loop-i-preserved
loop-i-preserved c =
    let v = c.args.eight in
    let i = c.loop-i.i in
    let inv = c.loop-i.invariant in (
      inv.0,
      omega arith,
      rw (read_back (at v i) c.area-1.given) (splice-turn _ 8 (at v) _ _ i _ (omega arith) inv.0 inv.2),
    )

pub shape_of-area : goal.shape_of-area
shape_of-area c = c.loop-i.invariant.2.size

pub returns : goal.returns
returns c = finish c.loop-i.invariant.2 (λ j le. splice-past _ _ _ _ j (omega arith))
