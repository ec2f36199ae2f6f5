-- `rows::next_of` meets its contract: by the phase. Assumes nothing.
use native.Mathlib.Omega.{arith}
use borrow.Author.Rules.{rules}
use Rattle.ground_loader.proofs.rows.next_of.Goals as goal

pub group_next-requires : goal.group_next-requires
group_next-requires c = (omega arith, c.requires.before (omega arith))

pub part_next-requires : goal.part_next-requires
part_next-requires c = (omega arith, c.requires.within (omega arith))

pub returns : goal.returns
returns c = search rules
