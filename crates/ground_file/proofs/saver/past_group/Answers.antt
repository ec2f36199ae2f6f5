-- `saver::past_group` meets its contract: the next group, or the next row. Assumes nothing.
use mathlib.Core.Path.{◌∙◌, ap}
use Rattle.ground_file.specs.Saving.{at_row}
use Rattle.ground_file.proofs.SaverLaws.{group-more, group-last}
use Rattle.ground_file.proofs.saver.past_group.Goals as goal

pub returns-then-group-length : goal.returns-then-group-length
returns-then-group-length c =
    let a = c.args in
    group-more a.s a.length a.sum c.if-group-length.true

pub returns : goal.returns
returns c =
    let a = c.args in
    c.at_row.ensures ∙ ap (λ p. at_row a.s p a.sum) c.next.ensures ∙ group-last a.s a.length a.sum c.if-group-length.false
