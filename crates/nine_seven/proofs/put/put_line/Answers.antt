-- `nine_seven::put::put_line` meets its contract: the pieces are the whole line. Assumes nothing.
use mathlib.Core.Path.{◌∙◌}
use Prim.Native.Nat.{◌+◌, ◌*◌, ◌-◌, ◌%◌}
use native.Mathlib.Omega.{arith}
use lib.ListN.{length}
use Rattle.numbers.specs.Signal.{at}
use Rattle.lifting.specs.Grid.{side}
use Rattle.lifting.proofs.GridLaws.{counts, beside-lows}
use Rattle.nine_seven.proofs.PutLaws.{put_all, put_three, long}
use Rattle.nine_seven.proofs.put.put_line.Goals as goal

pub overflow_sub-n : goal.overflow_sub-n
overflow_sub-n c =
    let a = c.args in
    let S = side a.start (length a.coefficients.now) in
    let both = counts S in
    let d = beside-lows S in
    let e = c.lows-low.ensures in
    omega arith

pub overflow_add-b : goal.overflow_add-b
overflow_add-b c = omega arith

pub put_ends-requires : goal.put_ends-requires
put_ends-requires c = (c.lows-low.ensures, c.requires.0, omega arith, omega arith, c.requires.1)

pub shape_of-out-then-n-low : goal.shape_of-out-then-n-low
shape_of-out-then-n-low c = c.put_ends.auto.out

pub returns-then-n-low : goal.returns-then-n-low
returns-then-n-low c =
    let a = c.args in
    c.put_ends.ensures ∙ put_all (side a.start (length a.coefficients.now)) (at a.coefficients.now) (at a.out.now)

pub overflow_sub-to : goal.overflow_sub-to
overflow_sub-to c =
    let a = c.args in
    let S = side a.start (length a.coefficients.now) in
    let both = counts S in
    let d = beside-lows S in
    let e = c.lows-low.ensures in
    omega arith

pub overflow_sub-to-2 : goal.overflow_sub-to-2
overflow_sub-to-2 c =
    let a = c.args in
    let S = side a.start (length a.coefficients.now) in
    let both = counts S in
    let d = beside-lows S in
    let e = c.lows-low.ensures in
    omega arith

pub overflow_sub-to-3 : goal.overflow_sub-to-3
overflow_sub-to-3 c =
    let a = c.args in
    let S = side a.start (length a.coefficients.now) in
    let both = counts S in
    let d = beside-lows S in
    let e = c.lows-low.ensures in
    omega arith

pub overflow_add-b-2 : goal.overflow_add-b-2
overflow_add-b-2 c = omega arith

pub put_ends-requires-2 : goal.put_ends-requires-2
put_ends-requires-2 c =
    let a = c.args in
    let S = side a.start (length a.coefficients.now) in
    let both = counts S in
    let d = beside-lows S in
    let e = c.lows-low.ensures in
    (e, c.requires.0, omega arith, omega arith, c.requires.1)

pub put_inner-requires : goal.put_inner-requires
put_inner-requires c =
    let a = c.args in
    let S = side a.start (length a.coefficients.now) in
    let k = c.put_ends-2.auto.out in
    let both = counts S in
    let d = beside-lows S in
    let e = c.lows-low.ensures in
    (e, c.requires.0, omega arith, omega arith, omega arith, omega arith)

pub overflow_mul-to : goal.overflow_mul-to
overflow_mul-to c =
    let a = c.args in
    let S = side a.start (length a.coefficients.now) in
    let both = counts S in
    let d = beside-lows S in
    let e = c.lows-low.ensures in
    omega arith

pub overflow_add-to : goal.overflow_add-to
overflow_add-to c =
    let a = c.args in
    let S = side a.start (length a.coefficients.now) in
    let both = counts S in
    let d = beside-lows S in
    let e = c.lows-low.ensures in
    omega arith

pub put_ends-requires-3 : goal.put_ends-requires-3
put_ends-requires-3 c =
    let a = c.args in
    let S = side a.start (length a.coefficients.now) in
    let k = c.put_ends-2.auto.out in
    let m = c.put_inner.auto.out in
    let both = counts S in
    let d = beside-lows S in
    let e = c.lows-low.ensures in
    let far = long S c.lows-low.result (length a.coefficients.now - c.lows-low.result - a.start % 2 - 2) e (omega arith) in
    (e, c.requires.0, far, omega arith, omega arith)

pub shape_of-out : goal.shape_of-out
shape_of-out c =
    c.put_ends-3.auto.out ∙ c.put_inner.auto.out ∙ c.put_ends-2.auto.out

pub returns : goal.returns
returns c =
    let a = c.args in
    let N = length a.coefficients.now in
    let S = side a.start N in
    let both = counts S in
    let d = beside-lows S in
    let e = c.lows-low.ensures in
    let b = a.start % 2 in
    let to = N - c.lows-low.result - b - 2 in
    let far = long S c.lows-low.result to e (omega arith) in
    put_three S (at a.coefficients.now) (at a.out.now) (2 + b) (2 * to + b) _ _ _ (omega arith) far c.put_ends-2.ensures
    c.put_inner.ensures c.put_ends-3.ensures
