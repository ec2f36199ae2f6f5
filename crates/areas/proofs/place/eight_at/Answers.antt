use mathlib.Core.Path.{◌∙◌}
use Prim.Native.Nat.{◌+◌}
use native.Mathlib.Omega.{arith}
use Rattle.numbers.specs.Signal.{at}
use Rattle.numbers.proofs.Words.{read_back}
use Rattle.numbers.proofs.Sweep.{start}
use Rattle.areas.proofs.AreaLaws.{front_at}
use Rattle.areas.proofs.InterleaveLaws.{pair_turn}
use Rattle.areas.proofs.place.eight_at.Goals as goal

pub loop-i-init : goal.loop-i-init
loop-i-init c = (omega arith, omega arith, start _ _ 0 (λ j lt. absurd (omega arith)))

pub loop-i-preserved : goal.loop-i-preserved
loop-i-preserved c =
    let args = c.args in
    let x = args.area.now in
    let i = c.loop-i.i in
    let inv = c.loop-i.invariant in (
      inv.0,
      inv.1,
      rw (read_back (at x (args.a + i)) c.v-1.given, read_back (at x (args.b + i)) c.v-in-loop-i-1.given)
          (pair_turn (λ v. v) 8 (λ k. at x (args.a + k)) (λ k. at x (args.b + k)) _ _ i _ (omega arith) inv.2 (omega arith)),
    )

pub returns : goal.returns
returns c = λ j lt. c.loop-i.invariant.2.done j (omega arith) ∙ front_at 8 _ _ j lt
