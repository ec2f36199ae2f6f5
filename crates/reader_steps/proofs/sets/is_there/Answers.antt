-- `reader_steps::sets::is_there` meets its contract: no cells, or the definition's test. Assumes nothing.
use Rattle.lifting.specs.Grid.{side}
use Rattle.reader_steps.proofs.SetLaws.{there-none, there-some, none_of, some_of}
use Rattle.reader_steps.proofs.sets.is_there.Goals as goal

pub returns-then-w-h : goal.returns-then-w-h
returns-then-w-h c =
    let a = c.args in
    λ x. there-none (side x a.w) (side a.y a.h) a.n (none_of (side x a.w) (side a.y a.h) c.if-w-h.true)

pub returns : goal.returns
returns c =
    let a = c.args in
    λ x.
    let f = some_of (side x a.w) (side a.y a.h) c.if-w-h.false in
    there-some (side x a.w) (side a.y a.h) a.n _ f.0 f.1 c.last_set.ensures
