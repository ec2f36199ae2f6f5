-- `reader::walk::put_row` meets its contract: the run copied to its place. Assumes nothing.
use Prim.Native.Nat.{◌+◌, ◌-◌}
use lib.ListN.{length}
use borrow.Rule.Slice.PartMut.{same_len_mid}
use Rattle.lifting.specs.Grid.{side}
use Rattle.reader.proofs.PartLaws.{level_in, put-places, put-done}
use Rattle.reader.proofs.walk.put_row.Goals as goal

pub half_place-requires : goal.half_place-requires
half_place-requires c =
    let p = c.requires in
    let here = level_in _ _ _ _ _ c.args.l p.2 p.0.0 p.0.2 in
    (p.3, here.1, here.3)

pub overflow_add-a : goal.overflow_add-a
overflow_add-a c =
    let a = c.args in
    let p = c.requires in
    (put-places a.filter (side a.x a.width) (side a.y a.height) a.drawn a.k a.l p.2 a.band c.half_place.result
    (length a.run.now) (length a.store.now) p.0.0 p.1 c.half_place.ensures p.5 p.4).0

pub overflow_add-e : goal.overflow_add-e
overflow_add-e c =
    let a = c.args in
    let p = c.requires in
    (put-places a.filter (side a.x a.width) (side a.y a.height) a.drawn a.k a.l p.2 a.band c.half_place.result
    (length a.run.now) (length a.store.now) p.0.0 p.1 c.half_place.ensures p.5 p.4).1

pub offset_bounds-store-a : goal.offset_bounds-store-a
offset_bounds-store-a c =
    let a = c.args in
    let p = c.requires in
    (put-places a.filter (side a.x a.width) (side a.y a.height) a.drawn a.k a.l p.2 a.band c.half_place.result
    (length a.run.now) (length a.store.now) p.0.0 p.1 c.half_place.ensures p.5 p.4).2

pub slice_bounds-copy-count : goal.slice_bounds-copy-count
slice_bounds-copy-count c =
    let a = c.args in
    let p = c.requires in
    (put-places a.filter (side a.x a.width) (side a.y a.height) a.drawn a.k a.l p.2 a.band c.half_place.result
    (length a.run.now) (length a.store.now) p.0.0 p.1 c.half_place.ensures p.5 p.4).3

pub slice_bounds-copy-start : goal.slice_bounds-copy-start
slice_bounds-copy-start c =
    let a = c.args in
    let p = c.requires in
    (put-places a.filter (side a.x a.width) (side a.y a.height) a.drawn a.k a.l p.2 a.band c.half_place.result
    (length a.run.now) (length a.store.now) p.0.0 p.1 c.half_place.ensures p.5 p.4).3

pub slice_bounds-copy-end : goal.slice_bounds-copy-end
slice_bounds-copy-end c =
    let a = c.args in
    let p = c.requires in
    (put-places a.filter (side a.x a.width) (side a.y a.height) a.drawn a.k a.l p.2 a.band c.half_place.result
    (length a.run.now) (length a.store.now) p.0.0 p.1 c.half_place.ensures p.5 p.4).4

pub shape_of-store : goal.shape_of-store
shape_of-store c =
    let a = c.args in
    let p = a.l.start + c.half_place.result in
    same_len_mid p (p + length a.run.now - p) a.store.now c.copy.new.to c.copy.auto.to

pub returns : goal.returns
returns c =
    let a = c.args in
    let is = c.requires in
    put-done a.filter (side a.x a.width) (side a.y a.height) a.drawn a.k a.l is.2 a.band c.half_place.result
    a.run.now a.store.now c.copy.new.to is.0.0 is.1 c.half_place.ensures is.5 is.4 c.copy.auto.to
    c.copy.ensures.area
