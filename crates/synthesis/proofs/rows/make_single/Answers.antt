-- `synthesis::rows::make_single` meets its contract: a number is odd, or the row halved and its test. Assumes nothing.
use mathlib.Core.Path.{sym, ◌∙◌}
use Prim.Native.Nat.{◌+◌, ◌-◌}
use native.Mathlib.Omega.{arith}
use borrow.Author.Rules.{rules}
use Rattle.lifting.specs.Grid.{side}
use Rattle.level.proofs.SlotLaws.{part-kept, even-part, halve-tried}
use Rattle.level.proofs.WorkLaws.{single-no, single-made}
use Rattle.level.proofs.KeptLaws.{kept-is, only_kept}
use Rattle.level.proofs.RowsIn.{only-halved}
use Rattle.filters.specs.Filters.{filter_of}
use Rattle.synthesis.proofs.FilterColumns.{rows-some}
use Rattle.wavelet.specs.Maps.{value_fits}
use Rattle.synthesis.proofs.rows.make_single.Goals as goal

pub returns-else-halve_even : goal.returns-else-halve_even
returns-else-halve_even c =
    let a = c.args in
    let at = c.row_place-a.result in
    rw c.if-halve_even.false (record {
      stretch_after = single-no (filter_of a.filter).rows (value_fits (filter_of a.filter)) a.k a.w a.q _
          (sym (even-part (rows-some a.filter) a.w a.q at (at + a.w - at) a.stretch.now c.row_place-a.ensures.0 (omega arith)
          (omega arith))
          ∙ sym c.halve_even.ensures.even ∙ c.if-halve_even.false);
      kept = part-kept (rows-some a.filter) a.w a.q at (at + a.w - at) a.stretch.now c.row_place-a.ensures.0 (omega arith) (omega arith)
          c.halve_even.new.row (omega arith);
    })

pub returns-then-halve_even : goal.returns-then-halve_even
returns-then-halve_even c =
    let a = c.args in
    let at = c.row_place-a.result in
    let so = c.if-halve_even.true in
    let halved = halve-tried (rows-some a.filter) a.w a.q at (at + a.w - at) a.stretch.now c.row_place-a.ensures.0 (omega arith)
    (omega arith)
    _ c.halve_even.new.row so (omega arith) c.halve_even.ensures.row in
    record {
      stretch_after = single-made (filter_of a.filter).rows (value_fits (filter_of a.filter)) a.k a.w a.q _ _ _
          (sym (even-part (rows-some a.filter) a.w a.q at (at + a.w - at) a.stretch.now c.row_place-a.ensures.0 (omega arith)
          (omega arith))
          ∙ sym c.halve_even.ensures.even ∙ so) halved c.admit_row.ensures;
      kept = kept-is _ _ _ _ (only_kept (only-halved (rows-some a.filter) (side 0 a.w) a.q _)) halved;
    }
