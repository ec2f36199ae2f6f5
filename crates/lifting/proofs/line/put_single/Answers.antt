-- `lifting::line::put_single` meets its contract, by the laws of a line so short. Assumes nothing.
use Rattle.std.proofs.Common.{sym, ◌∙◌, length, arith}
use Rattle.numbers.specs.Signal.{at}
use Rattle.lifting.specs.Grid.{side}
use Rattle.lifting.proofs.SingleLaws.{single-high, has_first, has-none, backward-single, backward-none, halved, odd-refused, handed-on}
use Rattle.lifting.proofs.line.put_single.Goals as goal

pub bounds-coefficients-0 : goal.bounds-coefficients-0
bounds-coefficients-0 c = let t = single-high _ (sym c.if-is_single.ensures) in omega arith

pub bounds-out-0 : goal.bounds-out-0
bounds-out-0 c = let t = single-high _ (sym c.if-is_single.ensures) in omega arith

pub returns-in_err-out : goal.returns-in_err-out
returns-in_err-out c =
    let l = c.args.coefficients.now in
    let odd = odd-refused (at l 0) _ c.half-arg-1.given c.in_err-out.ensures in
    let has = has_first (side c.args.start (length l)) (at l) (sym c.if-is_single.ensures) ∙ odd.0 in
    record { value = simp has (handed-on c.from_residual.result _ c.from_residual.ensures.1 ∙ odd.1); out_after = simp has }

pub returns-then-is_single : goal.returns-then-is_single
returns-then-is_single c =
    let l = c.args.coefficients.now in
    let o = c.args.out.now in
    let S = side c.args.start (length l) in
    let high = sym c.if-is_single.ensures in
    let even = halved (at l 0) _ c.half-arg-1.given c.in_ok-out.ensures in
    let has = has_first S (at l) high ∙ even.0 in
    record { value = simp has; out_after = simp has (rw even.1 (backward-single S high (at l) o c.requires.1)) }

pub returns : goal.returns
returns c =
    let l = c.args.coefficients.now in
    let S = side c.args.start (length l) in
    let low = sym c.if-is_single.ensures in
    let has = has-none S (at l) low in
    record { value = simp has; out_after = simp has (c.copy_evens.ensures ∙ backward-none S c.requires.0 low (at l) (at c.args.out.now)) }
