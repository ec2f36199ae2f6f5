-- `single::halve_even` meets its contract: a number is odd, or all are halved. Assumes nothing.
use mathlib.Core.Path.{refl, sym, ◌∙◌}
use borrow.Author.Tests.{not-true, not-false}
use Rattle.lifting.proofs.single.halve_even.Goals as goal

pub returns-then-not-all_even : goal.returns-then-not-all_even
returns-then-not-all_even c = record { even = sym (not-true _ c.if-not-all_even.true-raw) ∙ c.all_even.ensures; row = refl }

pub returns : goal.returns
returns c =
    record { even = sym (not-false _ c.if-not-all_even.false-raw) ∙ c.all_even.ensures; row = c.halve_all.ensures.row }
