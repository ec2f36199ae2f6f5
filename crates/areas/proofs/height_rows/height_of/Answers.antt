-- `areas::height_rows::height_of` meets its contract: it computes as `height16` is defined, and each step fits. Assumes nothing.
use native.Mathlib.Omega.{arith}
use mir.Syntax.{w32}
use mir.ValLaws.{to_z-of_z}
use Rattle.areas.specs.Areas.{height16}
use Rattle.areas.proofs.HeightLaws.{shift_fits, multiple-fits, rest-fits, rest-positive, rest-small, positive}
use Rattle.areas.proofs.height_rows.height_of.Goals as goal

pub overflow_mul-result : goal.overflow_mul-result
overflow_mul-result c = let f = c.ranges.v in rw (to_z-of_z w32 _ f, to_z-of_z w32 _ (shift_fits _ f)) (multiple-fits _ f)

pub overflow_sub-result : goal.overflow_sub-result
overflow_sub-result c = let f = c.ranges.v in rw (to_z-of_z w32 _ f, to_z-of_z w32 _ (shift_fits _ f), to_z-of_z w32 _ (multiple-fits _ f)) (rest-fits c.args.v)

pub overflow_cast-result : goal.overflow_cast-result
overflow_cast-result c =
    let f = c.ranges.v in
    let small = rest-small c.args.v in
    rw (to_z-of_z w32 _ f, to_z-of_z w32 _ (shift_fits _ f), to_z-of_z w32 _ (multiple-fits _ f), to_z-of_z w32 _ (rest-fits c.args.v))
    (rest-positive c.args.v, record { fits = omega arith })

pub returns : goal.returns
unfolding height16
returns c =
    let f = c.ranges.v in
    rw (to_z-of_z w32 _ f, to_z-of_z w32 _ (shift_fits _ f), to_z-of_z w32 _ (multiple-fits _ f), to_z-of_z w32 _ (rest-fits c.args.v))
    (positive _ (rest-positive c.args.v))
