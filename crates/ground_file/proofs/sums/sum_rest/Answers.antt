use mathlib.Core.Path.{refl, ap, ◌∙◌}
use Prim.Native.Nat.{◌%◌}
use native.Mathlib.Omega.{arith}
use lib.Seq.{take_all}
use Rattle.ground_file.specs.File.{as_number, prime}
use Rattle.ground_file.proofs.SumLaws.{begin-is, remains}
use Rattle.ground_file.proofs.ValueLaws.{sum_more}
use Rattle.ground_file.proofs.sums.sum_rest.Goals as goal

pub loop-byte-init : goal.loop-byte-init
loop-byte-init c = (c.requires, begin-is _ c.args.bytes.now c.requires)

pub overflow_mul-r : goal.overflow_mul-r
unfolding prime
overflow_mul-r c = omega (arith, c.loop-byte.invariant.0)

pub overflow_add-r : goal.overflow_add-r
unfolding prime
overflow_add-r c = omega (arith, c.loop-byte.invariant.0)

pub loop-byte-preserved : goal.loop-byte-preserved
unfolding prime
loop-byte-preserved c =
    let i = c.loop-byte.invariant in
    (remains _, sum_more _ _ _ _ _ (omega arith) i.1 refl)

pub returns : goal.returns
returns c = c.loop-byte.invariant.1 ∙ ap (λ l. as_number c.args.sum l % prime) (take_all _ _ (omega arith))
