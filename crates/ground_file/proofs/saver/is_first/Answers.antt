-- `saver::is_first` meets its contract: the three tests, one after the other. Assumes nothing.
use Rattle.ground_file.proofs.SaverLaws.{first-phase, first_group, first_part}
use Rattle.ground_file.proofs.saver.is_first.Goals as goal

pub returns-then-s-ne1 : goal.returns-then-s-ne1
returns-then-s-ne1 c = first-phase c.args.s c.if-s-ne1.true

pub returns-then-s-ne0 : goal.returns-then-s-ne0
returns-then-s-ne0 c =
    first_group c.args.s c.if-s-ne1.false c.if-s-ne0.true

pub returns : goal.returns
returns c =
    first_part c.args.s c.if-s-ne1.false c.if-s-ne0.false
