-- `nine_seven::sample::quarter_sum` meets its contract: the sum fits 64 bits, its upper half 32, and half of that is the quarter. Assumes nothing.
use mir.Syntax.{w32, w64}
use mir.ValLaws.{to_z-of_z}
use Rattle.lifting.proofs.Fits.{widen, shifted, sum, lower-half}
use Rattle.nine_seven.proofs.Fits.{sum_more, upper-half, quarter}
use Rattle.nine_seven.proofs.sample.quarter_sum.Goals as goal

pub overflow_cast-result : goal.overflow_cast-result
overflow_cast-result c = let f = c.ranges.a in rw (to_z-of_z w32 _ f) (widen _ f)

pub overflow_cast-result-2 : goal.overflow_cast-result-2
overflow_cast-result-2 c = let f = c.ranges.b in rw (to_z-of_z w32 _ f) (widen _ f)

pub overflow_add-result : goal.overflow_add-result
overflow_add-result c =
    let f = c.ranges in
    rw (to_z-of_z w64 _ (overflow_cast-result c), to_z-of_z w64 _ (overflow_cast-result-2 c), to_z-of_z w32 _ f.a, to_z-of_z w32 _ f.b)
    (sum c.args.a c.args.b f.a f.b)

pub overflow_add-result-2 : goal.overflow_add-result-2
overflow_add-result-2 c =
    let f = c.ranges in
    rw (to_z-of_z w64 _ (overflow_add-result c), to_z-of_z w64 _ (overflow_cast-result c), to_z-of_z w64 _ (overflow_cast-result-2 c), to_z-of_z w32 _ f.a, to_z-of_z w32 _ f.b)
    (sum_more c.args.a c.args.b f.a f.b)

pub overflow_cast-result-3 : goal.overflow_cast-result-3
overflow_cast-result-3 c =
    let f = c.ranges in
    let a = c.args.a in
    let b = c.args.b in
    rw (
      to_z-of_z w64 _ (overflow_add-result-2 c),
      to_z-of_z w64 _ (overflow_add-result c),
      to_z-of_z w64 _ (overflow_cast-result c),
      to_z-of_z w64 _ (overflow_cast-result-2 c),
      to_z-of_z w32 _ f.a,
      to_z-of_z w32 _ f.b,
      to_z-of_z w64 _ (shifted _ 2 (sum_more a b f.a f.b)),
    )
    (upper-half a b f.a f.b)

pub returns : goal.returns
returns c =
    let f = c.ranges in
    let a = c.args.a in
    let b = c.args.b in
    rw (
      to_z-of_z w32 _ (overflow_cast-result-3 c),
      to_z-of_z w64 _ (overflow_add-result-2 c),
      to_z-of_z w64 _ (overflow_add-result c),
      to_z-of_z w64 _ (overflow_cast-result c),
      to_z-of_z w64 _ (overflow_cast-result-2 c),
      to_z-of_z w32 _ f.a,
      to_z-of_z w32 _ f.b,
      to_z-of_z w64 _ (shifted _ 2 (sum_more a b f.a f.b)),
      to_z-of_z w32 _ (lower-half _ (upper-half a b f.a f.b)),
    )
    (quarter a b)
