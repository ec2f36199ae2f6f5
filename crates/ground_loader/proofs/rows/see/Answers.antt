-- `rows::see` meets its contract: field by field. Assumes nothing.
use native.Mathlib.Omega.{arith}
use Rattle.ground_loader.proofs.ByteLaws.{few_bits, wide, seen-is}
use Rattle.ground_loader.proofs.SmallestLaws.{widest}
use Rattle.ground_loader.proofs.rows.see.Goals as goal

pub joined-bits-requires : goal.joined-bits-requires
joined-bits-requires c = (few_bits c.requires, c.requires.small)

pub overflow_add-c : goal.overflow_add-c
overflow_add-c c = omega (arith, few_bits c.requires)

pub whole_of-whole-requires : goal.whole_of-whole-requires
whole_of-whole-requires c = omega (arith, c.width_of-w.ensures, wide c.requires)

pub largest-requires : goal.largest-requires
largest-requires c =
    omega (arith, c.width_of-w.ensures, widest c.args.c.code)

pub returns : goal.returns
returns c =
    seen-is c.args.c _ c.width_of-w.ensures c.joined-bits.ensures c.whole_of-whole.ensures c.largest.ensures
