-- `saver::at_row` meets its contract. Assumes nothing.
use Rattle.ground_file.proofs.SaverLaws.{at-row}
use Rattle.ground_file.proofs.saver.at_row.Goals as goal

pub returns : goal.returns
returns c = let a = c.args in at-row a.s a.place a.sum _ c.phase_of.ensures
