-- `moves::copy_row` meets its contract: the row is copied where both rows are there. Assumes nothing.
use mathlib.Core.Path.{sym, ◌∙◌}
use Rattle.lifting.specs.Rows.{rows_changed}
use Rattle.lifting.proofs.RowLaws.{rows-in}
use borrow.Author.Rules.{rules}
use Rattle.level.proofs.moves.copy_row.Goals as goal

pub copy_row-requires : goal.copy_row-requires
copy_row-requires c = let r = rows-in _ _ _ _ _ _ (sym c.rows_fit.ensures ∙ c.if-rows_fit.true) in (r.one.room, r.two.room)

pub returns-then-rows_fit : goal.returns-then-rows_fit
unfolding rows_changed
returns-then-rows_fit c =
    let ok = sym c.rows_fit.ensures ∙ c.if-rows_fit.true in
    record { value = simp ok; store_after = simp ok c.copy_row.ensures }

pub returns : goal.returns
unfolding rows_changed
returns c = let bad = sym c.rows_fit.ensures ∙ c.if-rows_fit.false in
    record { value = simp bad; store_after = simp bad }
