-- `draws::looked` meets its contract. Assumes nothing.
use mathlib.Core.Path.{sym, ◌∙◌}
use Rattle.level.proofs.Places.{prev-is}
use Rattle.writer.proofs.DrawLaws.{told}
use Rattle.writer.proofs.draws.looked.Goals as goal

pub returns : goal.returns
returns c =
    let a = c.args in
    told a.s a.q c.requires.2 c.requires.1 _ _ _ _ (c.minus-i.ensures ∙ sym (prev-is _)) c.code-band.ensures
    c.set_row.ensures c.columns.ensures
