-- `sets::make_pair` meets its contract: the columns, then both rows. Assumes nothing.
use native.Mathlib.Omega.{arith}
use Rattle.lifting.specs.Grid.{side}
use Rattle.filters.specs.Filters.{filter_of}
use borrow.Author.Rules.{rules}
use Rattle.analysis.proofs.SetLaws.{pair-made}
use Rattle.analysis.proofs.SlotLaws.{in_rows}
use Rattle.analysis.proofs.sets.make_pair.Goals as goal

pub pair_columns-requires : goal.pair_columns-requires
pair_columns-requires c = c.requires

pub lift_row-requires : goal.lift_row-requires
unfolding filter_of
lift_row-requires c = (omega arith, in_rows 0 _ _ c.slot_on.ensures.0)

pub lift_row-requires-2 : goal.lift_row-requires-2
unfolding filter_of
lift_row-requires-2 c = (omega arith, in_rows 0 _ _ c.slot_on-2.ensures.0)

pub returns : goal.returns
returns c =
    let a = c.args in
    pair-made (side a.x a.w) a.n a.r _ _ _ _ _ _ c.slot_on.ensures.0 c.slot_on-2.ensures.0 c.pair_columns.ensures
    c.lift_row.ensures c.lift_row-2.ensures
