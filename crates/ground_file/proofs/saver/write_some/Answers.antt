-- `saver::write_some` meets its contract: the piece at the front of a small area, and from there what there is room for. Assumes nothing.
use mathlib.Core.Path.{◌∙◌}
use native.Mathlib.Omega.{arith}
use Rattle.text.proofs.TextLaws.{front-end}
use Rattle.ground_file.proofs.SaverLaws.{piece-some, in-piece, at-is, area-is, partly-is, whole_is}
use Rattle.ground_file.proofs.saver.write_some.Goals as goal

pub start_of-from-requires : goal.start_of-from-requires
start_of-from-requires c =
    let w = c.put_piece-n.ensures in
    let a = c.args in
    omega (arith, w.place, piece-some a.s a.row.now)

pub slice_bounds-copy-end : goal.slice_bounds-copy-end
slice_bounds-copy-end c = front-end c.put_piece-n.ensures

pub overflow_add-from : goal.overflow_add-from
overflow_add-from c =
    let a = c.args in
    omega (arith, (in-piece a.s a.row.now _ _ _ a.at a.out.now _ _ c.put_piece-n.ensures c.start_of-from.ensures c.copy-m.ensures.value).1)

pub overflow_add-result : goal.overflow_add-result
overflow_add-result c =
    let a = c.args in
    omega (arith, c.copy-m.ensures.value, c.requires.2)

pub returns-then-from-m : goal.returns-then-from-m
returns-then-from-m c =
    let a = c.args in
    record {
      saver = (
        partly-is a.s a.row.now _ _ _ a.at a.out.now _ _ c.put_piece-n.ensures c.start_of-from.ensures
            c.copy-m.ensures.value
            c.if-from-m.true,
        at-is a.s a.row.now _ _ _ a.at a.out.now _ _ c.put_piece-n.ensures c.start_of-from.ensures c.copy-m.ensures.value,
      );
      area = area-is a.s a.row.now _ _ _ a.at a.out.now _ _ c.put_piece-n.ensures c.start_of-from.ensures c.copy-m.ensures.value _
          c.copy-m.ensures.out_after;
    }

pub overflow_add-result-2 : goal.overflow_add-result-2
overflow_add-result-2 c =
    let a = c.args in
    omega (arith, c.copy-m.ensures.value, c.requires.2)

pub returns : goal.returns
returns c =
    let a = c.args in
    record {
      saver = (
        whole_is a.s a.row.now _ _ _ a.at a.out.now _ _ c.put_piece-n.ensures c.start_of-from.ensures c.copy-m.ensures.value c.if-from-m.false _ _
            c.sum_of-sum.ensures c.go_on.ensures,
        at-is a.s a.row.now _ _ _ a.at a.out.now _ _ c.put_piece-n.ensures c.start_of-from.ensures c.copy-m.ensures.value,
      );
      area = area-is a.s a.row.now _ _ _ a.at a.out.now _ _ c.put_piece-n.ensures c.start_of-from.ensures c.copy-m.ensures.value _
          c.copy-m.ensures.out_after;
    }
