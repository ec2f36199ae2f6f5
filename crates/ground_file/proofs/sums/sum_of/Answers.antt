-- `sums::sum_of` meets its contract: the fours, then what is left. Assumes nothing.
use native.Mathlib.Omega.{arith}
use Rattle.ground_file.proofs.SumLaws.{sum_is}
use Rattle.ground_file.proofs.sums.sum_of.Goals as goal

pub sum_fours-requires : goal.sum_fours-requires
sum_fours-requires c = (omega arith, c.requires)

pub returns : goal.returns
returns c = sum_is _ _ _ _ _ c.sum_fours.ensures.0 c.sum_rest.ensures
