-- `saver::step_of` meets its contract. Assumes nothing.
use native.Mathlib.Omega.{arith}
use Rattle.ground_file.proofs.SaverLaws.{step-one, step-own}
use Rattle.ground_file.proofs.saver.step_of.Goals as goal

pub overflow_cast-result : goal.overflow_cast-result
overflow_cast-result c = record { fits = omega (arith, c.requires) }

pub returns-then-s-eq0 : goal.returns-then-s-eq0
returns-then-s-eq0 c = step-one c.args.s c.if-s-eq0.true

pub returns-else-s-eq0 : goal.returns-else-s-eq0
returns-else-s-eq0 c = step-own c.args.s c.if-s-eq0.false
