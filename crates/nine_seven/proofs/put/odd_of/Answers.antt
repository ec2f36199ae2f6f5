-- `nine_seven::put::odd_of` meets its contract: the even coordinates around it are the definition's. Assumes nothing.
use mathlib.Core.Path.{◌∙◌}
use Prim.Native.Nat.{◌+◌, ◌-◌, ◌%◌}
use native.Mathlib.Omega.{arith}
use lib.ListN.{length}
use Rattle.numbers.specs.Signal.{at}
use Rattle.numbers.proofs.Words.{read_back}
use Rattle.lifting.specs.Grid.{side}
use Rattle.lifting.proofs.GridLaws.{counts, some, beside-lows}
use Rattle.nine_seven.proofs.HighLaws.{fars-low}
use Rattle.nine_seven.proofs.PutLaws.{odd-value}
use Rattle.nine_seven.proofs.put.odd_of.Goals as goal

pub overflow_sub-o : goal.overflow_sub-o
overflow_sub-o c = omega arith

pub overflow_sub-high : goal.overflow_sub-high
overflow_sub-high c =
    let a = c.args in
    let S = side a.start (length a.coefficients.now) in
    let s = some S c.requires.1 in
    let e = c.requires.0 in
    omega arith

pub left-requires : goal.left-requires
left-requires c =
    let a = c.args in
    let S = side a.start (length a.coefficients.now) in
    let s = some S c.requires.1 in
    let e = c.requires.0 in
    omega arith

pub even_of-a-requires : goal.even_of-a-requires
even_of-a-requires c =
    let a = c.args in
    let S = side a.start (length a.coefficients.now) in
    let s = some S c.requires.1 in
    let e = c.requires.0 in
    let l = c.left.ensures in
    (e, c.requires.1, omega arith)

pub overflow_add-n : goal.overflow_add-n
overflow_add-n c = omega arith

pub even_of-b-requires : goal.even_of-b-requires
even_of-b-requires c =
    let a = c.args in
    let S = side a.start (length a.coefficients.now) in
    let s = some S c.requires.1 in
    let e = c.requires.0 in
    let l = c.nearest.ensures in
    (e, c.requires.1, omega arith)

pub far_left-requires : goal.far_left-requires
far_left-requires c =
    let a = c.args in
    let S = side a.start (length a.coefficients.now) in
    let s = some S c.requires.1 in
    let e = c.requires.0 in
    omega arith

pub even_of-c-requires : goal.even_of-c-requires
even_of-c-requires c =
    let a = c.args in
    let S = side a.start (length a.coefficients.now) in
    let s = some S c.requires.1 in
    let e = c.requires.0 in
    let d = beside-lows S in
    let f = fars-low a.low (length a.coefficients.now - a.low) (1 - a.start % 2) a.n (omega arith) (omega arith) (omega arith) in
    let l = c.far_left.ensures in
    (e, c.requires.1, omega arith)

pub far_right-requires : goal.far_right-requires
far_right-requires c =
    let a = c.args in
    let S = side a.start (length a.coefficients.now) in
    let s = some S c.requires.1 in
    let e = c.requires.0 in
    (omega arith, omega arith)

pub even_of-e-requires : goal.even_of-e-requires
even_of-e-requires c =
    let a = c.args in
    let S = side a.start (length a.coefficients.now) in
    let s = some S c.requires.1 in
    let e = c.requires.0 in
    let d = beside-lows S in
    let f = fars-low a.low (length a.coefficients.now - a.low) (1 - a.start % 2) a.n (omega arith) (omega arith) (omega arith) in
    let l = c.far_right.ensures in
    (e, c.requires.1, omega arith)

pub overflow_add-low : goal.overflow_add-low
overflow_add-low c = omega arith

pub offset_bounds-coefficients-low : goal.offset_bounds-coefficients-low
offset_bounds-coefficients-low c = omega arith

pub bounds-coefficients-low : goal.bounds-coefficients-low
bounds-coefficients-low c = omega arith

pub returns : goal.returns
returns c =
    let a = c.args in
    let N = length a.coefficients.now in
    let S = side a.start N in
    let y = at a.coefficients.now in
    let both = counts S in
    let e = c.requires.0 in
    read_back c.unpredict.result c.unpredict.type_inv
    ∙ c.unpredict.ensures
    ∙ rw (
      read_back (y (a.low + a.n)) c.unpredict-arg-1.given,
      read_back c.even_of-a.result c.even_of-a.type_inv,
      read_back c.even_of-b.result c.even_of-b.type_inv,
      read_back c.even_of-c.result c.even_of-c.type_inv,
      read_back c.even_of-e.result c.even_of-e.type_inv,
    )
    (odd-value S y c.requires.1 a.low a.n e c.even_of-a.result c.even_of-b.result c.even_of-c.result c.even_of-e.result _ _ _ _
    (omega arith) c.left.ensures c.nearest.ensures c.far_left.ensures c.far_right.ensures
    c.even_of-a.ensures
    c.even_of-b.ensures c.even_of-c.ensures c.even_of-e.ensures)
