use mathlib.Core.Path.{refl, sym, ◌∙◌}
use native.Mathlib.Omega.{arith}
use Rattle.lifting.specs.Grid.{side}
use Rattle.lifting.proofs.GridLaws.{counts}
use Rattle.wavelet.proofs.LimitLaws.{levels-small}
use Rattle.filters.proofs.Filters.{filter-laws}
use Rattle.filters.proofs.FigureLaws.{levels-most}
use Rattle.filters.specs.Filters.{filter_of}
use Rattle.map_levels.proofs.CellLaws.{fewer-rows}
use Rattle.map_levels.proofs.TestLaws.{goes-as, goes-yes}
use Rattle.map_levels.proofs.LevelSteps.{next-side, rows-corner, range-end, range-first, range-second, range-third}
use Rattle.map_levels.proofs.level_ranges.+in_range.Goals as goal

pub returns-then-not-has_next : goal.returns-then-not-has_next
returns-then-not-has_next t c =
    let a = c.args in
    range-end (filter_of a.filter) (filter-laws a.filter) _ _ (side a.sides.x a.sides.width) (side a.sides.y a.sides.height) _ _ c.requires.2 c.requires.1
    (goes-as _ _ _ _ _ _ _ c.low-low.ensures.width c.low-low.ensures.height c.has_next.ensures c.if-not-has_next.true)
    c.rows_in_range.ensures

pub overflow_add-level : goal.overflow_add-level
overflow_add-level t c = omega (arith, levels-small, levels-most c.args.filter)

pub in_range-requires : goal.in_range-requires
in_range-requires t c =
    let a = c.args in
    let yes' = goes-yes _ _ _ (sym c.has_next.ensures ∙ c.if-not-has_next.false) in (
      omega arith,
      (
        rows-corner _ _ _ (side a.sides.x a.sides.width) (side a.sides.y a.sides.height) _ _ c.low-low.ensures.width c.low-low.ensures.height yes'.2 c.requires.0 refl,
        omega arith,
        omega arith,
        omega arith,
      ),
    )

pub returns-then-not-in_range : goal.returns-then-not-in_range
returns-then-not-in_range t c =
    let a = c.args in
    let W = side a.sides.x a.sides.width in
    let H = side a.sides.y a.sides.height in
    let yes' = goes-yes _ _ _ (sym c.has_next.ensures ∙ c.if-not-has_next.false) in
    range-first (filter_of a.filter) (filter-laws a.filter) _ _ W H _ _ _ _ c.requires.2 yes'.0
    c.low-low.ensures.columns
    c.low-low.ensures.rows c.in_range.ensures c.if-not-in_range.true

pub rows_in_range-requires-2 : goal.rows_in_range-requires-2
rows_in_range-requires-2 t c =
    let a = c.args in
    let W = side a.sides.x a.sides.width in
    let H = side a.sides.y a.sides.height in
    let yes' = goes-yes _ _ _ (sym c.has_next.ensures ∙ c.if-not-has_next.false) in
    let lw = counts W in
    let lh = counts H in (
      fewer-rows _ _ _ _ _ c.requires.0 yes'.2 (omega (arith, c.low-low.ensures.height)),
      omega arith,
      omega (arith, c.low-low.ensures.width),
      omega arith,
    )

pub returns-then-not-rows_in_range : goal.returns-then-not-rows_in_range
returns-then-not-rows_in_range t c =
    let a = c.args in
    let W = side a.sides.x a.sides.width in
    let H = side a.sides.y a.sides.height in
    let yes' = goes-yes _ _ _ (sym c.has_next.ensures ∙ c.if-not-has_next.false) in
    range-second (filter_of a.filter) (filter-laws a.filter) _ _ W H _ _ _ _ c.requires.2 yes'.0
    c.low-low.ensures.columns
    c.low-low.ensures.rows c.in_range.ensures
    c.if-not-in_range.false _ c.rows_in_range-2.ensures c.if-not-rows_in_range.true

pub rows_in_range-requires-3 : goal.rows_in_range-requires-3
rows_in_range-requires-3 t c =
    let lh = counts (side c.args.sides.y c.args.sides.height) in
    (c.requires.0, omega (arith, c.low-low.ensures.height), omega arith, omega arith)

pub returns : goal.returns
returns t c =
    let a = c.args in
    let W = side a.sides.x a.sides.width in
    let H = side a.sides.y a.sides.height in
    let yes' = goes-yes _ _ _ (sym c.has_next.ensures ∙ c.if-not-has_next.false) in
    range-third (filter_of a.filter) (filter-laws a.filter) _ _ W H _ _ _ _ c.requires.2 yes'.0
    c.low-low.ensures.columns
    c.low-low.ensures.rows c.in_range.ensures
    c.if-not-in_range.false _ c.rows_in_range-2.ensures c.if-not-rows_in_range.false _ c.rows_in_range-3.ensures
