-- `level_ranges::plane_in_range` meets its contract: the least range surely held by all numbers, or the levels asked. Assumes nothing.
use mathlib.Core.Path.{sym}
use native.Mathlib.Omega.{arith}
use borrow.Author.Rules.{rules}
use Rattle.lifting.specs.Grid.{side}
use Rattle.filters.proofs.Filters.{filter-laws}
use Rattle.filters.specs.Filters.{filter_of}
use Rattle.map_levels.proofs.TestLaws.{region-least}
use Rattle.map_levels.proofs.CallLaws.{map-rows}
use Rattle.map_levels.proofs.level_ranges.plane_in_range.Goals as goal

pub surely_least-requires : goal.surely_least-requires
surely_least-requires c = (c.requires.1, omega (arith, c.requires.0.levels.0, c.requires.2))

pub returns-then-surely_least : goal.returns-then-surely_least
returns-then-surely_least c =
    sym (region-least (filter_of c.args.filter) (filter-laws c.args.filter) _ (side c.args.sides.x c.args.sides.width)
    (side c.args.sides.y c.args.sides.height) _ c.requires.0.levels.0 (c.surely_least.ensures c.if-surely_least.true))

pub in_range-requires : goal.in_range-requires
in_range-requires c =
    let s = c.requires.0 in
    (map-rows _ _ _ _ s c.requires.1, s.levels.0, omega arith, omega (arith, c.requires.2))

pub returns : goal.returns
returns c = search rules
