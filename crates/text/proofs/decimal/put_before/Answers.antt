-- `decimal::put_before` meets its contract: one store. Assumes nothing.
use borrow.Author.Rules.{rules}
use Rattle.text.proofs.TextLaws.{one}
use Rattle.text.proofs.decimal.put_before.Goals as goal

pub returns : goal.returns
returns c = one _ _ _ c.requires.0 c.requires.1
