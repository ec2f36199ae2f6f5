-- `lifting::line::backward` meets its contract: a line of more than one number is put together; a shorter one goes apart. Assumes nothing.
use native.Mathlib.Omega.{arith}
use lib.ListN.{length}
use borrow.Author.Tests.{le-leb}
use Rattle.numbers.specs.Signal.{at}
use Rattle.lifting.specs.Grid.{side}
use Rattle.lifting.proofs.SingleLaws.{has_more}
use Rattle.lifting.proofs.line.backward.Goals as goal

pub returns-then-n-lt2 : goal.returns-then-n-lt2
returns-then-n-lt2 c =
    let a = c.args in
    let single = c.put_single in
    let ok = le-leb (length a.coefficients.now) (length a.out.now) (omega arith) in
    record { value = simp ok single.ensures.value; out_after = simp ok single.ensures.out_after }

pub returns : goal.returns
returns c =
    let a = c.args in
    let l = a.coefficients.now in
    let S = side a.start (length l) in
    let ok = le-leb (length l) (length a.out.now) (omega arith) in
    let has = has_more S (at l) (omega arith) in
    record { value = simp (ok, has); out_after = simp (ok, has) c.put_line.ensures }
