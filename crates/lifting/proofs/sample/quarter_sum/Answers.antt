-- `lifting::sample::quarter_sum` meets its contract: a quarter is the upper half of a half. Assumes nothing.
use borrow.Author.Rules.{sfits_of}
use mathlib.Core.Path.{◌∙◌}
use mir.Syntax.{w32}
use mir.ValLaws.{to_z-of_z}
use Rattle.numbers.proofs.Words.{read_back}
use Rattle.lifting.proofs.Fits.{lower-half, upper-half, quarter}
use Rattle.lifting.proofs.sample.quarter_sum.Goals as goal

pub overflow_sub-result : goal.overflow_sub-result
overflow_sub-result c =
    let z = c.half_sum-h.result in
    let h = sfits_of {z = z} c.half_sum-h.type_inv in
    rw (to_z-of_z w32 z h, to_z-of_z w32 _ (lower-half z h)) (upper-half z h)

pub returns : goal.returns
returns c =
    let f = c.half_sum-h in
    to_z-of_z w32 _ (overflow_sub-result c)
    ∙ cc (
      to_z-of_z w32 _ c.ranges.a,
      to_z-of_z w32 _ c.ranges.b,
      read_back f.result f.type_inv,
      to_z-of_z w32 _ (lower-half f.result (sfits_of f.type_inv)),
      quarter c.args.a c.args.b,
    )
