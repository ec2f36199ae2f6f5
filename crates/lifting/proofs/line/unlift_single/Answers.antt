use Rattle.std.proofs.Common.{sym, ◌∙◌, length, arith, refl}
use Rattle.numbers.specs.Signal.{at}
use Rattle.lifting.specs.Grid.{side}
use Rattle.lifting.proofs.SingleLaws.{single-high, has_first, has-none, unlifted-single, unlifted-none, halved, odd-refused, handed-on}
use Rattle.lifting.proofs.line.unlift_single.Goals as goal

pub slice_copy_out-half : goal.slice_copy_out-half
slice_copy_out-half c = let t = single-high _ (sym c.if-is_single.ensures) in omega arith

pub bounds-line-0 : goal.bounds-line-0
bounds-line-0 c = let t = single-high _ (sym c.if-is_single.ensures) in omega arith

pub returns-in_err-line : goal.returns-in_err-line
returns-in_err-line c =
    let l = c.args.line.now in
    let odd = odd-refused (at l 0) _ c.half-arg-1.given c.in_err-line.ensures in
    let has = has_first (side c.args.start (length l)) (at l) (sym c.if-is_single.ensures) ∙ odd.0 in
    record { value = simp has (handed-on c.from_residual.result _ c.from_residual.ensures.1 ∙ odd.1); line_after = simp has }

pub returns-in_ok-line : goal.returns-in_ok-line
returns-in_ok-line c =
    let l = c.args.line.now in
    let S = side c.args.start (length l) in
    let high = sym c.if-is_single.ensures in
    let even = halved (at l 0) _ c.half-arg-1.given c.in_ok-line.ensures in
    let has = has_first S (at l) high ∙ even.0 in
    record { value = simp has; line_after = simp has (rw even.1 (unlifted-single S high l refl)) }

pub returns-else-is_single : goal.returns-else-is_single
returns-else-is_single c =
    let l = c.args.line.now in
    let S = side c.args.start (length l) in
    let low = sym c.if-is_single.ensures in
    let has = has-none S (at l) low in
    record { value = simp has; line_after = simp has (sym (unlifted-none S c.requires low (at l))) }
