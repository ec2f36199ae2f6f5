-- `lifting::line::lift_single` meets its contract, by the laws of a line so short. Assumes nothing.
use mathlib.Core.Path.{refl, sym, ◌∙◌}
use native.Mathlib.Omega.{arith}
use lib.ListN.{length}
use Rattle.numbers.specs.Signal.{at}
use Rattle.numbers.proofs.Words.{read_back}
use Rattle.lifting.specs.Grid.{side}
use Rattle.lifting.proofs.SingleLaws.{single-high, lifted-single, lifted-none}
use Rattle.lifting.proofs.line.lift_single.Goals as goal

pub slice_copy_out-double : goal.slice_copy_out-double
slice_copy_out-double c = let t = single-high _ (sym c.is_single.ensures ∙ c.if-is_single.true) in omega arith

pub bounds-line-0 : goal.bounds-line-0
bounds-line-0 c =
    let t = single-high _ (sym c.is_single.ensures ∙ c.if-is_single.true) in
    omega arith

pub returns-then-is_single : goal.returns-then-is_single
returns-then-is_single c =
    let l = c.args.line.now in
    let S = side c.args.start (length l) in
    rw (read_back _ c.double.type_inv, c.double.ensures, read_back (at l 0) c.double-arg-1.given)
    (lifted-single S (sym c.is_single.ensures ∙ c.if-is_single.true) l refl)

pub returns-else-is_single : goal.returns-else-is_single
returns-else-is_single c =
    sym (lifted-none (side c.args.start (length c.args.line.now)) c.requires (sym c.is_single.ensures ∙ c.if-is_single.false) _)
