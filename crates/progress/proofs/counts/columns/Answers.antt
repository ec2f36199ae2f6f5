-- `counts::columns` meets its contract. Assumes nothing.
use Rattle.std.proofs.Common.{◌∙◌, arith}
use Rattle.lifting.specs.Grid.{side, count}
use Rattle.wavelet.specs.Bands.{across}
use Rattle.progress.specs.Counts.{band_at}
use Rattle.progress.proofs.CountLaws.{same-band}
use Rattle.progress.proofs.counts.columns.Goals as goal

pub returns-in-0 : goal.returns-in-0
unfolding across band_at
returns-in-0 c = let a = c.args in c.high_count.ensures ∙ same-band (λ b. count (across b) (side a.x a.w)) 0 a.i (omega arith)

pub returns-in-1 : goal.returns-in-1
unfolding across band_at
returns-in-1 c = let a = c.args in c.low_count.ensures ∙ same-band (λ b. count (across b) (side a.x a.w)) 1 a.i (omega arith)

pub returns-in-2 : goal.returns-in-2
unfolding across band_at
returns-in-2 c = let a = c.args in c.high_count-in-2.ensures ∙ same-band (λ b. count (across b) (side a.x a.w)) 2 a.i (omega arith)

pub returns-in_default : goal.returns-in_default
unfolding across band_at
returns-in_default c = let a = c.args in c.low_count-in_default.ensures ∙ same-band (λ b. count (across b) (side a.x a.w)) 3 a.i (omega arith)
