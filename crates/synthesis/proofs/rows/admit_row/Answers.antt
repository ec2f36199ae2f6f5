-- `synthesis::rows::admit_row` meets its contract: every number of the row between the bounds. Assumes nothing.
use mathlib.Core.Path.{◌∙◌}
use Prim.Native.Nat.{◌+◌, ◌-◌}
use native.Mathlib.Omega.{arith}
use Rattle.numbers.proofs.Words.{read_back}
use Rattle.filters.specs.Filters.{filter_of}
use Rattle.level.proofs.AdmitLaws.{admit-is, same-range}
use Rattle.synthesis.proofs.CallLaws.{same-lowest}
use Rattle.synthesis.proofs.rows.admit_row.Goals as goal

pub returns : goal.returns
returns c =
    let a = c.args in
    let at = c.row_place-a.result in
    let F = filter_of a.filter in
    c.all_between.ensures
    ∙ admit-is F.rows F a.k a.w a.q at (at + a.w - at) a.stretch.now _ _ c.row_place-a.ensures.0 (omega arith) (omega arith)
    (read_back c.lowest_of.result c.lowest_of.type_inv ∙ c.lowest_of.ensures ∙ same-lowest F F.levels a.k c.requires.2)
    (read_back c.range_of.result c.range_of.type_inv ∙ c.range_of.ensures ∙ same-range F F.levels a.k c.requires.2)
