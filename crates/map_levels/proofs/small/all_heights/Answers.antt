-- `small::all_heights` meets its contract: a quick yes, or each number asked. Assumes nothing.
use mathlib.Core.Path.{sym}
use Rattle.wavelet.specs.Limits.{max_sample}
use Rattle.wavelet.proofs.MapTheorems.{each-every}
use Rattle.map_levels.proofs.small.all_heights.Goals as goal

pub returns-then-surely_heights : goal.returns-then-surely_heights
returns-then-surely_heights c = sym (each-every _ _ (c.surely_heights.ensures c.if-surely_heights.true))

pub returns : goal.returns
unfolding max_sample
returns c = c.all_between.ensures
