-- `rows::put_part` meets its contract: with the second part where it takes no byte. Assumes nothing.
use native.Mathlib.Omega.{arith}
use borrow.Author.Rules.{rules}
use Rattle.ground_loader.proofs.ByteLaws.{whole-left, put_second, put_only}
use Rattle.ground_loader.proofs.rows.put_part.Goals as goal

pub overflow_add-end : goal.overflow_add-end
overflow_add-end c =
    omega (arith, whole-left c.requires.0 _ _ c.requires.1, c.requires.0.room, c.ranges.n.fits)

pub put_second-requires : goal.put_second-requires
put_second-requires c =
    (omega (arith, whole-left c.requires.0 _ _ c.requires.1, c.requires.0.room), search rules)

pub returns-then-over : goal.returns-then-over
returns-then-over c =
    put_second _ _ _ _ c.ends_first-over.ensures c.if-over.true c.put_numbers.ensures c.put_second.ensures

pub returns-else-over : goal.returns-else-over
returns-else-over c =
    put_only _ _ _ _ c.ends_first-over.ensures c.if-over.false c.put_numbers.ensures
