-- `map_levels::heights::finish_row` meets its contract: numbers that fit are drawn as they are, and the row is cleared. Assumes nothing.
use mathlib.Core.Path.{◌∙◌}
use native.Mathlib.Omega.{arith}
use lib.ListN.{length}
use borrow.Author.Tests.{le-leb}
use Rattle.numbers.specs.Signal.{at}
use Rattle.lifting.specs.Grid.{side}
use Rattle.areas.proofs.AreaLaws.{did}
use Rattle.map_levels.proofs.HeightLaws.{drawn-heights}
use Rattle.map_levels.proofs.heights.finish_row.Goals as goal

pub returns : goal.returns
returns c =
    let drawn = c.interleave_line in
    let row = c.args.row.now in
    let n = length row in
    record {
      heights_after = did _ _ _ _ (le-leb n (length c.args.heights.now) (omega arith)) drawn.ensures.area ∙
          drawn-heights (side c.args.x n) (at row) _ c.requires.1;
      row_after = did _ _ _ _ (le-leb n n (omega arith)) c.clear.ensures.area;
    }
