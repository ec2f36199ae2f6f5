-- `counts::most` meets its contract. Assumes nothing.
use Rattle.std.proofs.Common.{arith}
use Rattle.progress.proofs.CountLaws.{most-last, most-more}
use Rattle.progress.proofs.counts.most.Goals as goal

pub returns-then-l-eq0 : goal.returns-then-l-eq0
returns-then-l-eq0 c = most-last _ (omega arith)

pub returns-else-l-eq0 : goal.returns-else-l-eq0
returns-else-l-eq0 c = most-more _ (omega arith)
