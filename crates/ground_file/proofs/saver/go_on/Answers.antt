-- `saver::go_on` meets its contract: after the header the first row, after a group what follows it, after the checksum nothing. Assumes nothing.
use mathlib.Core.Path.{◌∙◌, ap}
use Rattle.ground_file.specs.Saving.{at_row}
use Rattle.ground_file.proofs.SaverLaws.{on-head, on-group, on-sum}
use Rattle.ground_file.proofs.saver.go_on.Goals as goal

pub returns-then-s-eq0 : goal.returns-then-s-eq0
returns-then-s-eq0 c =
    let a = c.args in
    c.at_row.ensures ∙ ap (λ p. at_row a.s p a.sum) c.first.ensures ∙ on-head a.s a.length a.sum c.if-s-eq0.true

pub returns-then-s-eq1 : goal.returns-then-s-eq1
returns-then-s-eq1 c =
    let a = c.args in
    c.past_group.ensures ∙ on-group a.s a.length a.sum c.if-s-eq0.false c.if-s-eq1.true

pub returns : goal.returns
returns c =
    let a = c.args in
    on-sum a.s a.length a.sum c.if-s-eq0.false c.if-s-eq1.false
