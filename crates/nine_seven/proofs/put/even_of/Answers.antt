-- `nine_seven::put::even_of` meets its contract: the neighbours that it reads are the definition's. Assumes nothing.
use mathlib.Core.Path.{◌∙◌}
use Prim.Native.Nat.{◌+◌}
use native.Mathlib.Omega.{arith}
use lib.ListN.{length}
use Rattle.numbers.specs.Signal.{at}
use Rattle.numbers.proofs.Words.{read_back}
use Rattle.lifting.specs.Grid.{side}
use Rattle.lifting.proofs.GridLaws.{some}
use Rattle.nine_seven.proofs.PutLaws.{even-value}
use Rattle.nine_seven.proofs.put.even_of.Goals as goal

pub overflow_sub-high : goal.overflow_sub-high
overflow_sub-high c =
    let a = c.args in
    let S = side a.start (length a.coefficients.now) in
    let s = some S c.requires.1 in
    let e = c.requires.0 in
    omega arith

pub left-requires : goal.left-requires
left-requires c =
    let a = c.args in
    let S = side a.start (length a.coefficients.now) in
    let s = some S c.requires.1 in
    let e = c.requires.0 in
    omega arith

pub overflow_add-l : goal.overflow_add-l
overflow_add-l c =
    let a = c.args in
    let S = side a.start (length a.coefficients.now) in
    let s = some S c.requires.1 in
    let e = c.requires.0 in
    let l = c.left.ensures in
    omega arith

pub overflow_add-n : goal.overflow_add-n
overflow_add-n c =
    let a = c.args in
    let S = side a.start (length a.coefficients.now) in
    let s = some S c.requires.1 in
    let e = c.requires.0 in
    omega arith

pub overflow_add-r : goal.overflow_add-r
overflow_add-r c =
    let a = c.args in
    let S = side a.start (length a.coefficients.now) in
    let s = some S c.requires.1 in
    let e = c.requires.0 in
    let r = c.nearest.ensures in
    omega arith

pub offset_bounds-coefficients-n : goal.offset_bounds-coefficients-n
offset_bounds-coefficients-n c =
    let a = c.args in
    let S = side a.start (length a.coefficients.now) in
    let s = some S c.requires.1 in
    let e = c.requires.0 in
    let l = c.left.ensures in
    let r = c.nearest.ensures in
    omega arith

pub bounds-coefficients-n : goal.bounds-coefficients-n
bounds-coefficients-n c =
    let a = c.args in
    let S = side a.start (length a.coefficients.now) in
    let s = some S c.requires.1 in
    let e = c.requires.0 in
    let l = c.left.ensures in
    let r = c.nearest.ensures in
    omega arith

pub offset_bounds-coefficients-l : goal.offset_bounds-coefficients-l
offset_bounds-coefficients-l c =
    let a = c.args in
    let S = side a.start (length a.coefficients.now) in
    let s = some S c.requires.1 in
    let e = c.requires.0 in
    let l = c.left.ensures in
    let r = c.nearest.ensures in
    omega arith

pub bounds-coefficients-l : goal.bounds-coefficients-l
bounds-coefficients-l c =
    let a = c.args in
    let S = side a.start (length a.coefficients.now) in
    let s = some S c.requires.1 in
    let e = c.requires.0 in
    let l = c.left.ensures in
    let r = c.nearest.ensures in
    omega arith

pub offset_bounds-coefficients-r : goal.offset_bounds-coefficients-r
offset_bounds-coefficients-r c =
    let a = c.args in
    let S = side a.start (length a.coefficients.now) in
    let s = some S c.requires.1 in
    let e = c.requires.0 in
    let l = c.left.ensures in
    let r = c.nearest.ensures in
    omega arith

pub bounds-coefficients-r : goal.bounds-coefficients-r
bounds-coefficients-r c =
    let a = c.args in
    let S = side a.start (length a.coefficients.now) in
    let s = some S c.requires.1 in
    let e = c.requires.0 in
    let l = c.left.ensures in
    let r = c.nearest.ensures in
    omega arith

pub returns : goal.returns
returns c =
    let a = c.args in
    let y = at a.coefficients.now in
    let s = some (side a.start (length a.coefficients.now)) c.requires.1 in
    let l = c.left.ensures in
    let r = c.nearest.ensures in
    read_back c.unupdate.result c.unupdate.type_inv
    ∙ c.unupdate.ensures
    ∙ rw (
      read_back (y a.n) c.unupdate-arg-1.given,
      read_back (y (a.low + c.left.result)) c.unupdate-arg-2-1.given,
      read_back (y (a.low + c.nearest.result)) c.unupdate-arg-3-1.given,
    )
    (even-value (side a.start (length a.coefficients.now)) y c.requires.1 a.low a.n c.requires.0 (a.low + c.left.result)
    (a.low + c.nearest.result) c.requires.2 (omega arith) (omega arith))
