-- `reader_order::walk::waits` meets its contract: the first row of the set, and where the level's low rows begin. Assumes nothing.
use borrow.Author.Rules.{rules}
use mir.Syntax.{w64}
use mir.Val.{Fits}
use Rattle.lifting.specs.Grid.{side}
use Rattle.wavelet.specs.Shape.{rows}
use Rattle.reader_order.proofs.WalkLaws.{high-at, wait-top, wait-row, wait-fits}
use Rattle.reader_order.proofs.walk.waits.Goals as goal

pub returns-then-k-eq0 : goal.returns-then-k-eq0
returns-then-k-eq0 c =
    let a = c.args in
    wait-top a.s.filter (rows a.s) (side a.v.y a.v.height) a.k a.n _ (high-at a.s a.k a.v c.requires) c.first_row-r.ensures
    c.if-k-eq0.true

pub overflow_add-result : goal.overflow_add-result
overflow_add-result c =
    let a = c.args in
    let high : Fits w64 a.v.height = search (rules, c.well_formed.1.1.0) in
    wait-fits a.s.filter (rows a.s) (side a.v.y a.v.height) a.k a.n _ (high-at a.s a.k a.v c.requires) c.first_row-r.ensures
    high _

pub returns : goal.returns
returns c =
    let a = c.args in
    wait-row a.s.filter (rows a.s) (side a.v.y a.v.height) a.k a.n _ (high-at a.s a.k a.v c.requires) c.first_row-r.ensures
    _ c.if-k-eq0.false (c.start_at.ensures a.s.height)
