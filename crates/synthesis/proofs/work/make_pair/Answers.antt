-- `synthesis::work::make_pair` meets its contract: the odd row, its test, and that of the even row. Assumes nothing.
use Prim.Native.Nat.{◌+◌, ◌*◌}
use native.Mathlib.Omega.{arith}
use Rattle.lifting.specs.Grid.{side}
use Rattle.level.proofs.KeptLaws.{kept-is}
use Rattle.synthesis.proofs.WorkLaws.{pair-failed, pair-made}
use Rattle.synthesis.proofs.KeptLaws.{odd-kept}
use Rattle.synthesis.specs.Columns.{columns_of}
use Rattle.synthesis.proofs.FilterColumns.{columns-laws}
use Rattle.synthesis.proofs.work.make_pair.Goals as goal

pub shape_of-stretch-else-admit_row : goal.shape_of-stretch-else-admit_row
shape_of-stretch-else-admit_row c = c.undo_odd.auto.stretch

pub returns-else-admit_row : goal.returns-else-admit_row
returns-else-admit_row c =
    let a = c.args in
    rw c.if-admit_row.false (record {
      stretch_after = pair-failed (columns_of a.filter) a.k a.w (side a.y a.h) a.m _ _ c.undo_odd.ensures c.admit_row.result
          c.admit_row.ensures
          c.if-admit_row.false;
      kept = kept-is _ _ _ _ (odd-kept (columns_of a.filter) (columns-laws a.filter) a.k a.w (side a.y a.h) (2 * a.m + 1) _)
          c.undo_odd.ensures;
    })

pub shape_of-stretch-then-admit_row : goal.shape_of-stretch-then-admit_row
shape_of-stretch-then-admit_row c = c.undo_odd.auto.stretch

pub returns-then-admit_row : goal.returns-then-admit_row
returns-then-admit_row c =
    let a = c.args in
    record {
      stretch_after = pair-made (columns_of a.filter) a.k a.w (side a.y a.h) a.m _ _ c.undo_odd.ensures c.admit_row.result
          c.admit_row-then-admit_row.result
          c.admit_row.ensures c.if-admit_row.true c.admit_row-then-admit_row.ensures;
      kept = kept-is _ _ _ _ (odd-kept (columns_of a.filter) (columns-laws a.filter) a.k a.w (side a.y a.h) (2 * a.m + 1) _)
          c.undo_odd.ensures;
    }
