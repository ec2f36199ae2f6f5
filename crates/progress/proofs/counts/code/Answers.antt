-- `counts::code` meets its contract. Assumes nothing.
use Rattle.std.proofs.Common.{arith}
use Rattle.wavelet.specs.Bands.{code}
use Rattle.progress.specs.Counts.{band_at}
use Rattle.progress.proofs.CountLaws.{same-band}
use Rattle.progress.proofs.counts.code.Goals as goal

pub returns-in-0 : goal.returns-in-0
unfolding code band_at
returns-in-0 c = same-band code 0 c.args.i (omega arith)

pub returns-in-1 : goal.returns-in-1
unfolding code band_at
returns-in-1 c = same-band code 1 c.args.i (omega arith)

pub returns-in-2 : goal.returns-in-2
unfolding code band_at
returns-in-2 c = same-band code 2 c.args.i (omega arith)

pub returns-in_default : goal.returns-in_default
unfolding code band_at
returns-in_default c = same-band code 3 c.args.i (omega arith)
