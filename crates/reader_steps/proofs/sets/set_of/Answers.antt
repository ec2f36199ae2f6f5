-- `reader_steps::sets::set_of` meets its contract: the lesser of the definition's two numbers. Assumes nothing.
use native.Mathlib.Omega.{arith}
use mathlib.Core.Path.{refl}
use Rattle.lifting.specs.Grid.{side}
use Rattle.reader_steps.proofs.SetLaws.{ahead-fits, set_first, set-ahead, set-end}
use Rattle.reader_steps.proofs.sets.set_of.Goals as goal

pub overflow_sub-o : goal.overflow_sub-o
overflow_sub-o c = omega arith

pub returns-then-r-o : goal.returns-then-r-o
returns-then-r-o c = let a = c.args in set_first a.filter (side a.y a.h) a.r (omega arith)

pub overflow_add-a : goal.overflow_add-a
overflow_add-a c = omega (arith, (ahead-fits c.args.filter _ c.look_ahead.ensures).1)

pub returns-then-a-b : goal.returns-then-a-b
returns-then-a-b c =
    let a = c.args in
    set-ahead a.filter (side a.y a.h) a.r _ _ _ (omega arith) refl c.look_ahead.ensures c.last_set-b.ensures c.if-a-b.true

pub returns-else-a-b : goal.returns-else-a-b
returns-else-a-b c =
    let a = c.args in
    set-end a.filter (side a.y a.h) a.r _ _ _ (omega arith) refl c.look_ahead.ensures c.last_set-b.ensures c.if-a-b.false
