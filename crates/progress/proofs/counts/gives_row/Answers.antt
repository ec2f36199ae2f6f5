-- `counts::gives_row` meets its contract. Assumes nothing.
use Rattle.std.proofs.Common.{◌∙◌, arith, le-ltb}
use Rattle.progress.proofs.CountLaws.{goes_none, goes_some}
use Rattle.progress.proofs.counts.gives_row.Goals as goal

pub returns-else-l-gt0 : goal.returns-else-l-gt0
returns-else-l-gt0 c = let a = c.args in le-ltb 0 a.l (omega arith) ∙ goes_none a.l a.y a.n (omega arith)

pub returns-then-l-gt0 : goal.returns-then-l-gt0
returns-then-l-gt0 c = let a = c.args in goes_some a.l a.y a.n (omega arith)
