-- `nine_seven::put::next_even` meets its contract: what is read are 32-bit numbers read back. Assumes nothing.
use mathlib.Core.Path.{◌∙◌}
use Prim.Native.Nat.{◌+◌}
use native.Mathlib.Omega.{arith}
use Rattle.numbers.specs.Signal.{at}
use Rattle.numbers.proofs.Words.{read_back}
use Rattle.nine_seven.proofs.put.next_even.Goals as goal

pub offset_bounds-coefficients-n : goal.offset_bounds-coefficients-n
offset_bounds-coefficients-n c = omega arith

pub bounds-coefficients-n : goal.bounds-coefficients-n
bounds-coefficients-n c = omega arith

pub offset_bounds-coefficients-p : goal.offset_bounds-coefficients-p
offset_bounds-coefficients-p c = omega arith

pub bounds-coefficients-p : goal.bounds-coefficients-p
bounds-coefficients-p c = omega arith

pub overflow_add-p : goal.overflow_add-p
overflow_add-p c = omega arith

pub offset_bounds-coefficients-p-2 : goal.offset_bounds-coefficients-p-2
offset_bounds-coefficients-p-2 c = omega arith

pub bounds-coefficients-p-2 : goal.bounds-coefficients-p-2
bounds-coefficients-p-2 c = omega arith

pub returns : goal.returns
returns c =
    let a = c.args in
    let y = at a.coefficients.now in
    read_back c.unupdate.result c.unupdate.type_inv
    ∙ c.unupdate.ensures
    ∙ rw (
      read_back (y a.n) c.unupdate-arg-1.given,
      read_back (y a.p) c.unupdate-arg-2-1.given,
      read_back (y (a.p + 1)) c.unupdate-arg-3-1.given,
    )
