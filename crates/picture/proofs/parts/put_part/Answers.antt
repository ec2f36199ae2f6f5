-- `parts::put_part` meets its contract: the text of the part's kind. Assumes nothing.
use mathlib.Core.Path.{sym, ap, ◌∙◌}
use native.Mathlib.Omega.{arith}
use lib.ListN.{take}
use lib.Seq.{length-take-le}
use mathlib.Core.List.{[]}
use Rattle.text.proofs.DecimalLaws.{twenty}
use Rattle.text.proofs.RefusalLaws.{refused-length}
use Rattle.picture.proofs.RowLaws.{row-length}
use Rattle.picture.proofs.FormLaws.{head-short}
use Rattle.picture.proofs.PartLaws.{text_head, text-row, text-refused, text-none, placed, placed-none, take-least}
use Rattle.picture.specs.Form.{row_bytes}
use Rattle.picture.proofs.parts.put_part.Goals as goal

pub shape_of-out-then-kind-eq1 : goal.shape_of-out-then-kind-eq1
shape_of-out-then-kind-eq1 c = c.put_head.auto.out

pub returns-then-kind-eq1 : goal.returns-then-kind-eq1
returns-then-kind-eq1 c =
    let a = c.args in
    let p =
    placed _ _ a.done c.put_head.result a.out.now c.put_head.new.out
    (text_head a.width a.height a.row.now a.kind a.number c.if-kind-eq1.true) (
      c.put_head.ensures.value,
      c.put_head.ensures.out_after,
      omega (
        arith,
        c.put_head.ensures.value,
        head-short a.width a.height (omega arith) (omega arith),
        c.ranges.done,
      ),
    ) in
    record { value = p.0; out_after = p.1; result_bound = p.2 }

pub slice_bounds-row-end : goal.slice_bounds-row-end
slice_bounds-row-end c = sym (length-take-le _ _ (omega (arith, c.least-end.ensures)))

pub shape_of-out-then-kind-eq2 : goal.shape_of-out-then-kind-eq2
shape_of-out-then-kind-eq2 c = c.row.auto.out

pub returns-then-kind-eq2 : goal.returns-then-kind-eq2
returns-then-kind-eq2 c =
    let a = c.args in
    let p =
    placed _ _ a.done c.row.result a.out.now c.row.new.out
    (ap row_bytes (take-least _ _ _ c.least-end.ensures)
    ∙ text-row a.width a.height a.row.now a.kind a.number c.if-kind-eq1.false c.if-kind-eq2.true)
    (omega (arith, c.row.ensures.value, row-length (take c.least-end.result a.row.now)), c.row.ensures.out_after, c.row.ensures.result_bound) in
    record { value = p.0; out_after = p.1; result_bound = p.2 }

pub shape_of-out-then-kind-eq3 : goal.shape_of-out-then-kind-eq3
shape_of-out-then-kind-eq3 c = c.put_refused.auto.out

pub returns-then-kind-eq3 : goal.returns-then-kind-eq3
returns-then-kind-eq3 c =
    let a = c.args in
    let p =
    placed _ _ a.done c.put_refused.result a.out.now c.put_refused.new.out
    (text-refused a.width a.height a.row.now a.kind a.number c.if-kind-eq1.false c.if-kind-eq2.false c.if-kind-eq3.true) (
      c.put_refused.ensures.value,
      c.put_refused.ensures.out_after,
      omega (
        arith,
        c.put_refused.ensures.value,
        refused-length a.number,
        twenty a.number c.ranges.number.fits,
        c.ranges.done,
      ),
    ) in
    record { value = p.0; out_after = p.1; result_bound = p.2 }

pub returns : goal.returns
returns c =
    let a = c.args in
    let p =
    placed [] _ a.done 0 a.out.now a.out.now
    (text-none a.width a.height a.row.now a.kind a.number c.if-kind-eq1.false c.if-kind-eq2.false c.if-kind-eq3.false)
    (placed-none a.done a.out.now c.ranges.done.fits) in
    record { value = p.0; out_after = p.1; result_bound = p.2 }
