-- `header::is_roundable` meets its contract: its tests in turn. Assumes nothing.
use Rattle.ground_file.proofs.HeaderLaws.{round-one, round-x, round-y, round-filter}
use Rattle.ground_file.proofs.header.is_roundable.Goals as goal

pub returns-then-step-le1 : goal.returns-then-step-le1
returns-then-step-le1 c = let a = c.args in round-one a.s a.step c.if-step-le1.true

pub returns-then-s-ne0 : goal.returns-then-s-ne0
returns-then-s-ne0 c = let a = c.args in round-x a.s a.step c.if-step-le1.false c.if-s-ne0.true

pub returns-then-s-ne0-2 : goal.returns-then-s-ne0-2
returns-then-s-ne0-2 c =
    let a = c.args in
    round-y a.s a.step c.if-step-le1.false c.if-s-ne0.false c.if-s-ne0-2.true

pub returns : goal.returns
returns c =
    let a = c.args in
    round-filter a.s a.step c.if-step-le1.false c.if-s-ne0.false c.if-s-ne0-2.false
