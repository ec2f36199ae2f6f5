-- `nine_seven::sample::rests` meets its contract: 32 bits hold each step. Assumes nothing.
use mir.Syntax.{w32}
use mir.ValLaws.{to_z-of_z}
use Rattle.nine_seven.proofs.Fits.{sixteenth-fits, back_fits, rest-fits, rests-fit, rests-small, rests-are}
use Rattle.nine_seven.proofs.sample.rests.Goals as goal

pub overflow_mul-result : goal.overflow_mul-result
overflow_mul-result c = let f = c.ranges.a in rw (to_z-of_z w32 _ f, to_z-of_z w32 _ (sixteenth-fits _ f)) (back_fits c.args.a f)

pub overflow_sub-result : goal.overflow_sub-result
overflow_sub-result c =
    let f = c.ranges.a in
    rw (to_z-of_z w32 _ (overflow_mul-result c), to_z-of_z w32 _ f, to_z-of_z w32 _ (sixteenth-fits _ f)) (rest-fits c.args.a f)

pub overflow_mul-result-2 : goal.overflow_mul-result-2
overflow_mul-result-2 c = let f = c.ranges.b in rw (to_z-of_z w32 _ f, to_z-of_z w32 _ (sixteenth-fits _ f)) (back_fits c.args.b f)

pub overflow_sub-result-2 : goal.overflow_sub-result-2
overflow_sub-result-2 c =
    let f = c.ranges.b in
    rw (to_z-of_z w32 _ (overflow_mul-result-2 c), to_z-of_z w32 _ f, to_z-of_z w32 _ (sixteenth-fits _ f)) (rest-fits c.args.b f)

pub overflow_add-result : goal.overflow_add-result
overflow_add-result c =
    let f = c.ranges in
    rw (
      to_z-of_z w32 _ (overflow_sub-result c),
      to_z-of_z w32 _ (overflow_sub-result-2 c),
      to_z-of_z w32 _ (overflow_mul-result c),
      to_z-of_z w32 _ (overflow_mul-result-2 c),
      to_z-of_z w32 _ f.a,
      to_z-of_z w32 _ f.b,
      to_z-of_z w32 _ (sixteenth-fits _ f.a),
      to_z-of_z w32 _ (sixteenth-fits _ f.b),
    )
    (rests-fit c.args.a c.args.b)

pub returns : goal.returns
returns c =
    let f = c.ranges in
    let a = c.args.a in
    let b = c.args.b in
    rw (
      to_z-of_z w32 _ (overflow_add-result c),
      to_z-of_z w32 _ (overflow_sub-result c),
      to_z-of_z w32 _ (overflow_sub-result-2 c),
      to_z-of_z w32 _ (overflow_mul-result c),
      to_z-of_z w32 _ (overflow_mul-result-2 c),
      to_z-of_z w32 _ f.a,
      to_z-of_z w32 _ f.b,
      to_z-of_z w32 _ (sixteenth-fits _ f.a),
      to_z-of_z w32 _ (sixteenth-fits _ f.b),
    )
    (rests-are a b, rests-small a b)
