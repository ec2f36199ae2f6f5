-- `rows::row` meets its contract: after i turns i bytes stand in the area. Assumes nothing.
use Rattle.picture.specs.Form.{row_bytes}
use Rattle.picture.proofs.RowLaws.{Bytes}
use Rattle.picture.proofs.rows.row.Given as goal

abbrev pub invariant-loop-i : goal.invariant-loop-i
invariant-loop-i l = Bytes (row_bytes l.heights) l.initial.out l.out l.from l.n l.i
