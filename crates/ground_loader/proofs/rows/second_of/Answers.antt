-- `rows::second_of` meets its contract: by the two cases of its code. Assumes nothing.
use native.Mathlib.Omega.{arith}
use Rattle.ground_loader.proofs.ByteLaws.{second-open, second_none, size_room}
use Rattle.ground_loader.proofs.rows.second_of.Goals as goal

pub part_size-size-requires : goal.part_size-size-requires
part_size-size-requires c = c.requires

pub returns-then-code-gt0 : goal.returns-then-code-gt0
returns-then-code-gt0 c = second-open _ _ _ (omega arith) c.part_size-size.ensures c.before_part.ensures

pub overflow_add-done : goal.overflow_add-done
overflow_add-done c = omega (arith, size_room _ _ c.requires c.part_size-size.ensures, c.ranges.n.fits)

pub returns : goal.returns
returns c = second_none _ _ _ (omega arith) c.part_size-size.ensures c.before_group.ensures
