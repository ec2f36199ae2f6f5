-- `reader::questions::own_fits` meets its contract: enough for every number of levels, or for this one. Assumes nothing.
use mathlib.Core.Path.{sym, ◌∙◌}
use Rattle.reader.proofs.QuestionLaws.{store-any, store-own}
use Rattle.reader.proofs.questions.own_fits.Goals as goal

pub returns-then-holds_any : goal.returns-then-holds_any
returns-then-holds_any c = store-any _ _ c.requires (sym c.holds_any.ensures ∙ c.if-holds_any.true)

pub returns : goal.returns
returns c = store-own _ _ c.requires _ c.store_length.ensures
