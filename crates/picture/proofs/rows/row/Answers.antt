use mathlib.Core.Path.{sym, ◌∙◌}
use native.Mathlib.Omega.{arith}
use Rattle.picture.proofs.RowLaws.{row-length, row-at, start, next, finish}
use Rattle.picture.proofs.rows.row.Goals as goal

pub loop-i-init : goal.loop-i-init
loop-i-init c = start _ _ _ _ _ (c.row_bytes.ensures ∙ sym (row-length _)) c.some-n.ensures

pub loop-i-preserved : goal.loop-i-preserved
loop-i-preserved c =
    let hs = c.args.heights.now in
    next _ c.loop-i.invariant (omega arith) (c.height_byte.ensures ∙ row-at hs _ (omega (arith, c.loop-i.invariant.there, row-length hs)))

pub shape_of-out : goal.shape_of-out
shape_of-out c = c.loop-i.invariant.size

pub returns : goal.returns
returns c =
    record { value = omega (arith, c.some-n.ensures, c.row_bytes.ensures); out_after = finish c.loop-i.invariant (omega arith); result_bound = omega (arith, c.some-n.ensures, c.ranges.from) }
