-- `lifting::line::put_end` meets its contract: one place, two or three. Assumes nothing.
use mathlib.Core.Path.{◌∙◌}
use Prim.Native.Nat.{◌+◌}
use native.Mathlib.Omega.{arith}
use mir.Syntax.{w32}
use mir.ValLaws.{to_z-of_z}
use lib.ListN.{length}
use Rattle.numbers.specs.Signal.{at}
use Rattle.numbers.proofs.Words.{read_back}
use Rattle.lifting.specs.Grid.{side}
use Rattle.lifting.proofs.GridLaws.{counts, low-place, high-place}
use Rattle.lifting.proofs.AreaLaws.{end-one, end-two, end-three}
use Rattle.lifting.proofs.line.put_end.Goals as goal

pub overflow_mul-q : goal.overflow_mul-q
overflow_mul-q c =
    let a = c.args in
    let p = low-place (side a.start (length a.coefficients.now)) a.n (omega arith) in
    omega arith

pub overflow_add-q : goal.overflow_add-q
overflow_add-q c =
    let a = c.args in
    let p = low-place (side a.start (length a.coefficients.now)) a.n (omega arith) in
    omega arith

pub overflow_add-p : goal.overflow_add-p
overflow_add-p c =
    let a = c.args in
    let both = counts (side a.start (length a.coefficients.now)) in
    omega arith

pub overflow_add-p-2 : goal.overflow_add-p-2
overflow_add-p-2 c =
    let a = c.args in
    let both = counts (side a.start (length a.coefficients.now)) in
    omega arith

pub offset_bounds-out-q : goal.offset_bounds-out-q
offset_bounds-out-q c =
    let a = c.args in
    let p = low-place (side a.start (length a.coefficients.now)) a.n (omega arith) in
    omega arith

pub bounds-out-q : goal.bounds-out-q
bounds-out-q c =
    let a = c.args in
    let p = low-place (side a.start (length a.coefficients.now)) a.n (omega arith) in
    omega arith

pub returns-then-coefficients-p : goal.returns-then-coefficients-p
returns-then-coefficients-p c =
    let l = c.args.coefficients.now in
    end-one (side c.args.start (length l)) (at l) c.requires.1 c.args.low c.args.n _ c.args.out.now c.requires.0 c.requires.2 c.requires.3
    (to_z-of_z w32 _ c.ranges.even ∙ c.requires.5) (omega arith)

pub overflow_add-n : goal.overflow_add-n
overflow_add-n c =
    let a = c.args in
    let p = low-place (side a.start (length a.coefficients.now)) a.n (omega arith) in
    omega arith

pub put_pair-requires : goal.put_pair-requires
put_pair-requires c =
    let a = c.args in
    let S = side a.start (length a.coefficients.now) in
    let both = counts S in
    let p = high-place S a.n (omega arith) in
    omega arith

pub returns-then-low-n : goal.returns-then-low-n
returns-then-low-n c =
    let l = c.args.coefficients.now in
    end-two (side c.args.start (length l)) (at l) c.requires.1 c.args.low c.args.n _ c.args.out.now c.requires.0 c.requires.2 c.requires.3
    (to_z-of_z w32 _ c.ranges.even ∙ c.requires.5) _ (omega arith) (omega arith)
    c.put_pair.ensures

pub overflow_add-n-2 : goal.overflow_add-n-2
overflow_add-n-2 c =
    let a = c.args in
    let p = low-place (side a.start (length a.coefficients.now)) a.n (omega arith) in
    omega arith

pub even_of-last-requires : goal.even_of-last-requires
even_of-last-requires c =
    let a = c.args in
    let both = counts (side a.start (length a.coefficients.now)) in
    omega arith

pub put_pair-requires-2 : goal.put_pair-requires-2
put_pair-requires-2 c =
    let a = c.args in
    let S = side a.start (length a.coefficients.now) in
    let both = counts S in
    let p = high-place S a.n (omega arith) in
    omega arith

pub overflow_add-last : goal.overflow_add-last
overflow_add-last c =
    let a = c.args in
    let S = side a.start (length a.coefficients.now) in
    let size = c.put_pair-2.auto.out in
    let p = low-place S (a.n + 1) (omega arith) in
    omega arith

pub returns : goal.returns
returns c =
    let l = c.args.coefficients.now in
    end-three (side c.args.start (length l)) (at l) c.requires.1 c.args.low c.args.n _ c.args.out.now c.requires.0 c.requires.2 c.requires.3
    (to_z-of_z w32 _ c.ranges.even ∙ c.requires.5) _ _ (omega arith) (omega arith) c.requires.4
    (read_back _ c.even_of-last.type_inv ∙ c.even_of-last.ensures)
    c.put_pair-2.ensures
