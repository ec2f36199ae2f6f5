-- `counts::made` meets its contract. Assumes nothing.
use Rattle.std.proofs.Common.{◌+◌, refl, arith}
use Rattle.filters.specs.Filters.{filter_of}
use Rattle.progress.proofs.CountLaws.{ahead-some, made_all, made-few, made_some}
use Rattle.progress.proofs.counts.made.Goals as goal

pub returns-then-a-c : goal.returns-then-a-c
returns-then-a-c c =
    let a = c.args in
    made_all (filter_of a.filter).ahead a.c a.y a.m _ (ahead-some a.filter) refl (omega (arith, c.look_ahead-a.ensures))

pub overflow_add-y : goal.overflow_add-y
overflow_add-y c = omega (arith, c.minus.ensures)

pub overflow_add-y-2 : goal.overflow_add-y-2
overflow_add-y-2 c = omega (arith, c.minus.ensures)

pub overflow_add-n : goal.overflow_add-n
overflow_add-n c = omega (arith, c.minus-2.ensures)

pub returns-then-all-n : goal.returns-then-all-n
returns-then-all-n c =
    let a = c.args in
    made-few (filter_of a.filter).ahead a.c a.y a.m _ (c.minus-2.result + a.c) refl
    (omega (arith, c.look_ahead-a.ensures, c.minus-2.ensures, c.minus.ensures)) (omega arith)

pub returns : goal.returns
returns c =
    let a = c.args in
    made_some (filter_of a.filter).ahead a.c a.y a.m _ _ refl
    (omega (arith, c.look_ahead-a.ensures, c.minus-2.ensures, c.minus.ensures)) (omega arith)
