-- `saver::is_plain` meets its contract: test by test. Assumes nothing.
use Rattle.ground_file.proofs.SaverAsks.{plain-one, plain-x, plain-y, plain-filter}
use Rattle.ground_file.proofs.saver.is_plain.Goals as goal

pub returns-then-step-eq1 : goal.returns-then-step-eq1
returns-then-step-eq1 c = let a = c.args in plain-one a.s a.step c.if-step-eq1.true

pub returns-then-s-ne0 : goal.returns-then-s-ne0
returns-then-s-ne0 c = let a = c.args in plain-x a.s a.step c.if-step-eq1.false c.if-s-ne0.true

pub returns-then-s-ne0-2 : goal.returns-then-s-ne0-2
returns-then-s-ne0-2 c =
    let a = c.args in
    plain-y a.s a.step c.if-step-eq1.false c.if-s-ne0.false c.if-s-ne0-2.true

pub returns : goal.returns
returns c =
    let a = c.args in
    plain-filter a.s a.step c.if-step-eq1.false c.if-s-ne0.false c.if-s-ne0-2.false
