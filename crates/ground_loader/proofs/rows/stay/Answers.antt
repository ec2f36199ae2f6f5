-- `rows::stay` meets its contract: field by field. Assumes nothing.
use native.Mathlib.Omega.{arith}
use Rattle.ground_loader.proofs.ByteLaws.{few_bits, used, whole-left, stayed-is}
use Rattle.ground_loader.proofs.rows.stay.Goals as goal

pub overflow_mul-used : goal.overflow_mul-used
overflow_mul-used c =
    omega (arith, used c.requires.0 _ _ c.requires.1 c.width_of.ensures, few_bits c.requires.0)

pub overflow_add-result : goal.overflow_add-result
overflow_add-result c =
    omega (arith, whole-left c.requires.0 _ _ c.requires.1, c.requires.0.room, c.ranges.n.fits)

pub overflow_sub-result : goal.overflow_sub-result
overflow_sub-result c = whole-left c.requires.0 _ _ c.requires.1

pub overflow_shr-result : goal.overflow_shr-result
overflow_shr-result c =
    omega (arith, used c.requires.0 _ _ c.requires.1 c.width_of.ensures, few_bits c.requires.0)

pub overflow_add-result-2 : goal.overflow_add-result-2
overflow_add-result-2 c = omega (arith, few_bits c.requires.0)

pub overflow_sub-result-2 : goal.overflow_sub-result-2
overflow_sub-result-2 c =
    omega (arith, used c.requires.0 _ _ c.requires.1 c.width_of.ensures, few_bits c.requires.0)

pub returns : goal.returns
returns c =
    stayed-is c.args.c c.args.s c.width_of.ensures
