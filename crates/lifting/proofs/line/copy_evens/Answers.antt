use mathlib.Core.Path.{sym}
use Prim.Native.Nat.{◌*◌}
use native.Mathlib.Omega.{arith}
use lib.ListN.{length}
use Rattle.numbers.specs.Signal.{at}
use Rattle.numbers.proofs.Words.{read_back}
use Rattle.numbers.proofs.Sweep.{store, finish}
use Rattle.lifting.proofs.AreaLaws.{evens-in, evens-past}
use Rattle.lifting.proofs.line.copy_evens.Goals as goal

pub loop-j-preserved : goal.loop-j-preserved
loop-j-preserved c =
    let x = c.args.line.now in
    let j = c.loop-j.j in (
      omega arith,
      rw (read_back (at x (2 * j)) c.out-1.given)
          (store _ c.loop-j.invariant.1 (omega arith) (sym (evens-in (length x) (at x) _ j (omega arith)))),
    )

pub returns : goal.returns
returns c =
    let N = length c.args.line.now in
    finish c.loop-j.invariant.1 (λ j le. evens-past N _ _ j (omega arith))
