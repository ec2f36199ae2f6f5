-- `reader::runs::where_some` meets its contract: none, or some. Assumes nothing.
use mathlib.Core.Path.{sym, ap}
use Rattle.reader.specs.RunSteps.{where_some}
use Rattle.refusal.specs.Numbers.{number}
use Rattle.reader.proofs.RunLaws.{some_is}
use Rattle.reader.proofs.runs.where_some.Goals as goal

pub returns-then-m-eq0 : goal.returns-then-m-eq0
returns-then-m-eq0 c = sym (ap (where_some (number c.args.why)) c.if-m-eq0.true)

pub returns-else-m-eq0 : goal.returns-else-m-eq0
returns-else-m-eq0 c = some_is _ _ c.if-m-eq0.false
