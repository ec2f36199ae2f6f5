-- `lifting::halves::unlift_single` meets its contract, by the laws of a line so short. Assumes nothing.
use Rattle.std.proofs.Common.{sym, ap, ◌∙◌, length, arith}
use Rattle.numbers.specs.Signal.{at}
use Rattle.lifting.specs.Grid.{side, is_even}
use Rattle.lifting.specs.GridHalves.{highs_laid}
use Rattle.lifting.proofs.SingleLaws.{single-high, has_first, has-none, fronted-single, fronted-none, laid-single, halved, odd-refused, handed-on}
use Rattle.lifting.proofs.halves.unlift_single.Goals as goal

pub bounds-row-0 : goal.bounds-row-0
bounds-row-0 c = let t = single-high _ (sym c.if-is_single.ensures) in omega arith

pub bounds-out-0 : goal.bounds-out-0
bounds-out-0 c = let t = single-high _ (sym c.if-is_single.ensures) in omega arith

pub returns-in_err-out : goal.returns-in_err-out
returns-in_err-out c =
    let l = c.args.row.now in
    let o = c.args.out.now in
    let S = side c.args.start (length l) in
    let high = sym c.if-is_single.ensures in
    let odd = odd-refused (at l 0) _ c.half-arg-1.given c.in_err-out.ensures in
    let has = has_first S (highs_laid S (at l) (at o)) high ∙ ap (λ y. is_even (y 0)) (laid-single S high (at l) (at o)) ∙ odd.0 in
    record { value = simp has (handed-on c.from_residual.result _ c.from_residual.ensures.1 ∙ odd.1); out_after = simp has }

pub returns-in_ok-out : goal.returns-in_ok-out
returns-in_ok-out c =
    let l = c.args.row.now in
    let o = c.args.out.now in
    let S = side c.args.start (length l) in
    let high = sym c.if-is_single.ensures in
    let even = halved (at l 0) _ c.half-arg-1.given c.in_ok-out.ensures in
    let has = has_first S (highs_laid S (at l) (at o)) high ∙ ap (λ y. is_even (y 0)) (laid-single S high (at l) (at o)) ∙ even.0 in
    record { value = simp has; out_after = simp has (rw even.1 (fronted-single S high (at l) o c.requires.1)) }

pub returns-else-is_single : goal.returns-else-is_single
returns-else-is_single c =
    let l = c.args.row.now in
    let o = c.args.out.now in
    let S = side c.args.start (length l) in
    let low = sym c.if-is_single.ensures in
    let has = has-none S (highs_laid S (at l) (at o)) low in
    record { value = simp has; out_after = simp has (fronted-none S c.requires.0 low (at l) (at o)) }
