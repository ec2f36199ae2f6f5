-- `tolerant::limit_row` meets its contract: the row lent as a part, each of its numbers limited (`limit-part`). Assumes nothing.
use mathlib.Core.Path.{◌∙◌}
use Prim.Native.Nat.{◌+◌, ◌-◌}
use native.Mathlib.Omega.{arith}
use borrow.Author.Rules.{rules}
use Rattle.numbers.proofs.Words.{read_back}
use Rattle.filters.specs.Filters.{filter_of}
use Rattle.level.proofs.AdmitLaws.{same-range}
use Rattle.synthesis.proofs.CallLaws.{same-lowest}
use Rattle.synthesis.proofs.TolerantCalls.{limit-part}
use Rattle.synthesis.proofs.tolerant.limit_row.Goals as goal

pub returns : goal.returns
returns c =
    let a = c.args in
    let at = c.row_place-a.result in
    let F = filter_of 0 in
    limit-part a.k a.w a.q at (at + a.w - at) a.stretch.now c.limit_all.new.row _ _
    c.row_place-a.ensures.0 (omega arith) (omega arith)
    (omega arith)
    (read_back c.lowest_of.result c.lowest_of.type_inv ∙ c.lowest_of.ensures ∙ same-lowest F F.levels a.k c.requires.2)
    (read_back c.range_of.result c.range_of.type_inv ∙ c.range_of.ensures ∙ same-range F F.levels a.k c.requires.2)
    c.limit_all.ensures
