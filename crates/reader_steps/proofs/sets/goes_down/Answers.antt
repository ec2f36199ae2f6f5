-- `reader_steps::sets::goes_down` meets its contract: no cells, or the definition's test. Assumes nothing.
use Rattle.lifting.specs.Grid.{side}
use Rattle.reader_steps.proofs.SetLaws.{down-none, down-some, none_of, some_of}
use Rattle.reader_steps.proofs.sets.goes_down.Goals as goal

pub returns-then-w-h : goal.returns-then-w-h
returns-then-w-h c =
    let a = c.args in
    λ x. down-none a.filter (side x a.w) (side a.y a.h) a.r a.n (none_of (side x a.w) (side a.y a.h) c.if-w-h.true)

pub returns : goal.returns
returns c =
    let a = c.args in
    λ x.
    let f = some_of (side x a.w) (side a.y a.h) c.if-w-h.false in
    down-some a.filter (side x a.w) (side a.y a.h) a.r a.n _ f.0 f.1 c.set_of.ensures
