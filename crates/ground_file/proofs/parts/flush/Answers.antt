use mathlib.Core.Path.{◌≡◌, refl, subst}
use Prim.Native.Nat.{◌+◌, ◌/◌}
use native.Mathlib.Omega.{arith}
use Rattle.text.specs.Text.{Wrote}
use Rattle.ground_file.specs.Groups.{bytes_of}
use Rattle.text.proofs.TextLaws.{wrote-size}
use Rattle.ground_file.proofs.Packing.{flush-start, flush-place, flush-next, flush-end}
use Rattle.ground_file.proofs.parts.flush.Goals as goal

pub loop-place-init : goal.loop-place-init
loop-place-init c = flush-start _ _ _ _ (omega arith)

pub bounds-out-place : goal.bounds-out-place
bounds-out-place c = flush-place c.loop-place.invariant (omega arith)

pub loop-place-preserved : goal.loop-place-preserved
loop-place-preserved c = flush-next c.loop-place.invariant (omega arith)

pub shape_of-out : goal.shape_of-out
shape_of-out c = wrote-size c.loop-place.invariant.wrote

pub returns : goal.returns
returns c =
    let done : c.loop-place.place ≡ c.args.bits.at + c.args.bits.count / 8 = omega (arith, c.loop-place.auto.place-end) in
    let e = flush-end c.loop-place.invariant done in
    record { wrote = subst (λ p. Wrote (bytes_of (c.args.bits.count / 8) c.args.bits.low) c.args.bits.at p c.args.out.now c.loop-place.out) done e.0; low_value = (e.1, refl) }
