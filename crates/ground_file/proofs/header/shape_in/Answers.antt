-- `header::shape_in` meets its contract: field by field. Assumes nothing.
use native.Mathlib.Omega.{arith}
use Rattle.ground_file.proofs.HeaderLaws.{shape-made}
use Rattle.ground_file.proofs.header.shape_in.Goals as goal

pub number_in-requires : goal.number_in-requires
number_in-requires c = omega arith

pub number_in-requires-2 : goal.number_in-requires-2
number_in-requires-2 c = omega arith

pub number_in-requires-3 : goal.number_in-requires-3
number_in-requires-3 c = omega arith

pub number_in-requires-4 : goal.number_in-requires-4
number_in-requires-4 c = omega arith

pub overflow_cast-result : goal.overflow_cast-result
overflow_cast-result c = record { fits = c.number_in-4.ensures.1 }

pub number_in-requires-5 : goal.number_in-requires-5
number_in-requires-5 c = omega arith

pub overflow_cast-result-2 : goal.overflow_cast-result-2
overflow_cast-result-2 c = record { fits = c.number_in-5.ensures.1 }

pub number_in-requires-6 : goal.number_in-requires-6
number_in-requires-6 c = omega arith

pub overflow_cast-result-3 : goal.overflow_cast-result-3
overflow_cast-result-3 c = record { fits = omega (arith, c.number_in-6.ensures.1) }

pub returns : goal.returns
returns c =
    shape-made c.args.bytes.now c.number_in.ensures.0 c.number_in-2.ensures.0 c.number_in-3.ensures.0
    c.number_in-4.ensures.0 c.number_in-5.ensures.0 c.number_in-6.ensures.0
