-- `reader::steps::row_number` meets its contract: the band's row of the set that the level is at. Assumes nothing.
use Rattle.reader.proofs.StepLaws.{number_is}
use Rattle.reader.proofs.steps.row_number.Goals as goal

pub returns : goal.returns
returns c =
    let n = c.args.n in
    let due = c.requires.0 in
    number_is c.args.s n.spot due.spot n.at _ (due.at c.requires.1) (due.set c.requires.1) c.band_row.ensures
