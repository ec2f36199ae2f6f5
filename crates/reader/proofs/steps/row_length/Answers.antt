-- `reader::steps::row_length` meets its contract: the columns of the band, at its level. Assumes nothing.
use Rattle.reader.proofs.StepLaws.{length-is}
use Rattle.reader.proofs.steps.row_length.Goals as goal

pub returns : goal.returns
returns c =
    let n = c.args.n in
    length-is c.args.s n.spot c.requires.0.spot n.at _ (c.requires.0.at c.requires.1) c.band_columns.ensures
