-- `nine_seven::sample::unpredict` meets its contract: the parts that its callees give, taken one after the other, are the whole sixteenth.
-- Assumes nothing.
use mir.Syntax.{w32}
use mir.ValLaws.{to_z-of_z}
use Rattle.numbers.proofs.Words.{read_back}
use Rattle.nine_seven.specs.NineSeven.{unpredicted}
use Rattle.nine_seven.proofs.Fits.{sum-small, sum-eightfold, rest-small, more_parts}
use Rattle.nine_seven.proofs.sample.unpredict.Goals as goal

pub sixteenths-requires : goal.sixteenths-requires
sixteenths-requires c = tt

pub lesser_part-part-requires : goal.lesser_part-part-requires
lesser_part-part-requires c =
    let v = c.rests-2 in
    let u = c.rests in
    let t = c.sixteenths in
    let s = c.sixteenths-s in
    let f = c.ranges in (
      sum-small _ _ _ _ _ _ (to_z-of_z w32 _ f.a) (to_z-of_z w32 _ f.b) (read_back s.result s.type_inv) s.ensures f.a f.b,
      sum-small _ _ _ _ _ _ (to_z-of_z w32 _ f.c) (to_z-of_z w32 _ f.e) (read_back t.result t.type_inv) t.ensures f.c f.e,
      rest-small _ _ (read_back u.result u.type_inv) u.ensures.1,
      rest-small _ _ (read_back v.result v.type_inv) v.ensures.1,
    )

pub overflow_mul-s : goal.overflow_mul-s
overflow_mul-s c =
    let s = c.sixteenths-s in
    let f = c.ranges in
    sum-eightfold _ _ _ _ _ _ (to_z-of_z w32 _ f.a) (to_z-of_z w32 _ f.b) (read_back s.result s.type_inv) s.ensures f.a f.b

pub returns : goal.returns
unfolding unpredicted
returns c =
    let p = c.lesser_part-part in
    let v = c.rests-2 in
    let u = c.rests in
    let t = c.sixteenths in
    let s = c.sixteenths-s in
    let f = c.ranges in
    more_parts _ _ _ _ _ _ _ _ _ _ _ _ _ _ _ _ _ _ _ (to_z-of_z w32 _ f.a) (to_z-of_z w32 _ f.b) (to_z-of_z w32 _ f.c) (to_z-of_z w32 _ f.e)
    (read_back s.result s.type_inv) (read_back t.result t.type_inv) (read_back u.result u.type_inv) (read_back v.result v.type_inv)
    (read_back p.result p.type_inv) s.ensures t.ensures u.ensures.0 v.ensures.0 p.ensures (to_z-of_z w32 _ (overflow_mul-s c.before.before))
    _ _ _ _ _ _ (to_z-of_z w32 _ f.x) (read_back c.more.result c.more.type_inv) (read_back c.more-2.result c.more-2.type_inv)
    c.more.ensures c.more-2.ensures
