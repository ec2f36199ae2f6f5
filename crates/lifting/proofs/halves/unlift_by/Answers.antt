-- `lifting::halves::unlift_by` meets its contract: a row lifted back in a part of `out` that is lent; a line of one number or none goes apart.
-- Assumes nothing.
use Prim.Native.Nat.{◌-◌}
use native.Mathlib.Omega.{arith}
use lib.ListN.{length}
use borrow.Author.Tests.{le-leb}
use Rattle.numbers.specs.Signal.{at}
use Rattle.lifting.specs.Grid.{side}
use Rattle.lifting.specs.GridHalves.{highs_laid}
use Rattle.lifting.proofs.SingleLaws.{has_more}
use Rattle.lifting.proofs.LiftLaws.{unlifted-front}
use Rattle.lifting.proofs.halves.unlift_by.Goals as goal

pub returns-then-n-lt2 : goal.returns-then-n-lt2
returns-then-n-lt2 c =
    let a = c.args in
    let single = c.unlift_single in
    let ok = le-leb (length a.row.now) (length a.out.now) (omega arith) in
    record { value = simp ok single.ensures.value; out_after = simp ok single.ensures.out_after }

pub returns : goal.returns
returns c =
    let lifted = c.unlift_row in
    let a = c.args in
    let l = a.row.now in
    let N = length l in
    let S = side a.start N in
    let ok = le-leb N (length a.out.now) (omega arith) in
    let has = has_more S (highs_laid S (at l) (at a.out.now)) (omega arith) in
    record {
      value = simp (ok, has);
      out_after = simp (ok, has) (unlifted-front S (N - 0) l a.out.now lifted.new.out (omega arith) (omega arith) lifted.auto.out
          lifted.ensures);
    }
