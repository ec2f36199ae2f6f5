-- `level_ranges::lowest` meets its contract: a range is small, so its negative fits. Assumes nothing.
use mathlib.Core.Path.{◌≡◌, ap, ◌∙◌}
use Prim.Native.Nat.{◌<◌}
use lib.IntN.{pos, neg_ℤ, ◌-ℤ◌}
use mir.Syntax.{w32}
use mir.Val.{to_z, of_z}
use mir.ValLaws.{to_z-of_z}
use Rattle.numbers.proofs.Words.{read_back}
use Rattle.wavelet.specs.Limits.{range}
use Rattle.wavelet.proofs.Bridge.{range_small}
use Rattle.filters.specs.Filters.{filter_of}
use Rattle.filters.proofs.Filters.{filter-laws}
use Rattle.map_levels.proofs.ByFilterLaws.{range_at}
use Rattle.map_levels.proofs.LevelSteps.{neg-fits, neg_is}
use Rattle.map_levels.proofs.level_ranges.lowest.Goals as goal

pub overflow_sub-result : goal.overflow_sub-result
overflow_sub-result c =
    let largest : to_z w32 (of_z w32 c.range_of.result) ≡ pos (range (filter_of c.args.filter) c.args.level) = read_back _ c.range_of.type_inv ∙ range_at c.args.filter c.args.level _ c.requires c.range_of.ensures in
    let k = c.args.level in
    let f = c.args.filter in
    let small : range (filter_of f) k < 2147483648 = range_small (filter_of f) (filter-laws f) k c.requires in
    neg-fits (range (filter_of f) k) _ small (largest)

pub returns : goal.returns
returns c =
    let largest : to_z w32 (of_z w32 c.range_of.result) ≡ pos (range (filter_of c.args.filter) c.args.level) = read_back _ c.range_of.type_inv ∙ range_at c.args.filter c.args.level _ c.requires c.range_of.ensures in
    let v = to_z w32 (of_z w32 c.range_of.result) in
    to_z-of_z w32 (pos 0 -ℤ v) (overflow_sub-result c) ∙ neg_is v ∙ ap neg_ℤ (largest)
