-- `moves::deinterleave_row` meets its contract: the row is deinterleaved where there is room past it. Assumes nothing.
use mathlib.Core.Path.{sym, ◌∙◌}
use borrow.Author.Tests.{leb-true}
use Rattle.numbers.proofs.Sweep.{both}
use borrow.Author.Rules.{rules}
use Rattle.level.proofs.moves.deinterleave_row.Goals as goal

pub deinterleave_row-requires : goal.deinterleave_row-requires
deinterleave_row-requires c =
    let p = both _ _ (sym c.part_fits.ensures ∙ c.if-part_fits.true) in (leb-true _ _ p.0, leb-true _ _ p.1)

pub returns-then-part_fits : goal.returns-then-part_fits
returns-then-part_fits c =
    let ok = sym c.part_fits.ensures ∙ c.if-part_fits.true in
    record { value = simp ok; store_after = simp ok c.deinterleave_row.ensures }

pub returns : goal.returns
returns c = let bad = sym c.part_fits.ensures ∙ c.if-part_fits.false in
    record { value = simp bad; store_after = simp bad }
