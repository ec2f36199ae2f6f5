-- `synthesis::rows::unlift_row` meets its contract: the line call on the part that is the row. Assumes nothing.
use Prim.Native.Nat.{◌+◌, ◌-◌}
use native.Mathlib.Omega.{arith}
use borrow.Author.Rules.{rules}
use Rattle.level.proofs.SlotLaws.{unlift-part, part-kept}
use Rattle.synthesis.specs.Columns.{along_of}
use Rattle.synthesis.proofs.FilterColumns.{rows-some}
use Rattle.synthesis.proofs.rows.unlift_row.Goals as goal

pub returns : goal.returns
returns c =
    let a = c.args in
    let at = c.row_place-a.result in
    record {
      stretch_after = unlift-part (rows-some a.filter) a.w a.q at (at + a.w - at) a.stretch.now c.row_place-a.ensures.0 (omega arith) (omega arith)
          (along_of a.filter) a.x c.unlift_line.result c.unlift_line.new.line (omega arith) c.unlift_line.ensures.value
          c.unlift_line.ensures.line_after;
      kept = part-kept (rows-some a.filter) a.w a.q at (at + a.w - at) a.stretch.now c.row_place-a.ensures.0 (omega arith) (omega arith)
          c.unlift_line.new.line
          (omega arith);
    }
