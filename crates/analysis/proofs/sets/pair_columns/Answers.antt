-- `sets::pair_columns` meets its contract: the definition's steps in one pass. Assumes nothing.
use native.Mathlib.Omega.{arith}
use lib.ListN.{length}
use Rattle.filters.specs.Filters.{filter_of}
use borrow.Author.Rules.{rules}
use Rattle.analysis.proofs.PairLaws.{columns-first, columns-later}
use Rattle.analysis.proofs.sets.pair_columns.Goals as goal

pub shape_of-store-then-n-gt0 : goal.shape_of-store-then-n-gt0
shape_of-store-then-n-gt0 c = c.lift_and_copy.auto.area

pub returns-then-n-gt0 : goal.returns-then-n-gt0
unfolding filter_of
returns-then-n-gt0 c =
    let a = c.args in
    columns-later a.w a.n a.r (length a.store.now) _ _ _ c.slot_on-high.ensures.0 c.slot_on-low.ensures.0 c.slot_on-free.ensures.0 c.requires.1
    c.requires.0 _ _ (omega arith) c.lift_and_copy.ensures.area_after

pub returns-else-n-gt0 : goal.returns-else-n-gt0
unfolding filter_of
returns-else-n-gt0 c =
    let a = c.args in
    columns-first a.w a.n a.r (length a.store.now) _ _ _ c.slot_on-high.ensures.0 c.slot_on-low.ensures.0 c.slot_on-free.ensures.0 c.requires.1
    c.requires.0 _ _ _ _ c.lift_pair.auto.area (omega arith) c.lift_pair.ensures.area_after c.copy_row.ensures.store_after
