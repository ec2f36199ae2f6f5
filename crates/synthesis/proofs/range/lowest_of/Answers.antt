-- `synthesis::range::lowest_of` meets its contract: 0, or the range with its sign turned. Assumes nothing.
use mathlib.Core.Path.{◌∙◌, ap}
use native.Mathlib.Omega.{arith}
use lib.IntN.{ℤ, pos, ◌-ℤ◌}
use mir.Syntax.{w32}
use mir.ValLaws.{to_z-of_z}
use borrow.Author.Rules.{sfits_of}
use Rattle.numbers.proofs.Words.{read_back}
use Rattle.filters.specs.Filters.{filter_of}
use Rattle.level.proofs.AdmitLaws.{neg-fits, low-zero, low-more}
use Rattle.synthesis.proofs.CallLaws.{some_level}
use Rattle.synthesis.proofs.range.lowest_of.Goals as goal

pub overflow_sub-result : goal.overflow_sub-result
overflow_sub-result c = rw (read_back c.range_of.result c.range_of.type_inv) (neg-fits _ _ c.range_of.ensures (sfits_of c.range_of.type_inv))

pub returns-then-k-eq0 : goal.returns-then-k-eq0
returns-then-k-eq0 c = low-zero (filter_of c.args.filter) _ (omega arith)

pub returns-else-k-eq0 : goal.returns-else-k-eq0
returns-else-k-eq0 c =
    to_z-of_z w32 _ (overflow_sub-result c)
    ∙ ap (λ (z : ℤ). pos 0 -ℤ z) (read_back c.range_of.result c.range_of.type_inv ∙ c.range_of.ensures)
    ∙ low-more (filter_of c.args.filter) _ (λ e. c.if-k-eq0.false (some_level c.args.filter _ e))
