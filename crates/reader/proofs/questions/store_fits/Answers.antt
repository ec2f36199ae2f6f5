-- `reader::questions::store_fits` meets its contract: the spare numbers, then its own. Assumes nothing.
use mathlib.Core.Path.{◌∙◌}
use Rattle.reader.proofs.QuestionLaws.{store-less, store-past}
use Rattle.reader.proofs.questions.store_fits.Goals as goal

pub returns-then-length-s : goal.returns-then-length-s
returns-then-length-s c = let a = c.args in store-less a.s a.length c.if-length-s.true

pub own_fits-requires : goal.own_fits-requires
own_fits-requires c = c.requires

pub returns : goal.returns
returns c =
    let a = c.args in
    c.own_fits.ensures ∙ store-past a.s a.length c.if-length-s.false
