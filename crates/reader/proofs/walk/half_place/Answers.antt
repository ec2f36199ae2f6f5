-- `reader::walk::half-place` meets its contract: the slot, and the half of it. Assumes nothing.
use mathlib.Core.Path.{◌∙◌, ap}
use native.Mathlib.Omega.{arith}
use borrow.Author.Tests.{le-leb}
use Rattle.areas.proofs.AreaLaws.{did}
use Rattle.lifting.specs.Grid.{side}
use Rattle.lifting.proofs.GridLaws.{counts}
use Rattle.level.specs.Rebuilding.{widest}
use Rattle.synthesis.specs.Back.{row_place_of}
use Rattle.filters.proofs.FigureLaws.{row-few}
use Rattle.reader_steps.proofs.SetLaws.{set-row, half-even, half-odd}
use Rattle.reader.proofs.walk.half_place.Goals as goal

pub overflow_mul-n : goal.overflow_mul-n
overflow_mul-n c = omega arith

pub overflow_add-n : goal.overflow_add-n
overflow_add-n c = omega arith

pub overflow_add-result : goal.overflow_add-result
overflow_add-result c =
    let a = c.args in
    omega (arith, counts (side a.x a.w), c.low_count.ensures, c.row_place-a.ensures.room, row-few a.filter a.w)

pub returns-then-band-eq0 : goal.returns-then-band-eq0
returns-then-band-eq0 c =
    let a = c.args in
    let is = did _ _ _ _ (le-leb a.w widest (omega arith)) c.row_place-a.ensures.place in
    let place = is ∙ ap (row_place_of a.filter a.w) (set-row a.n a.band c.requires.0) in
    omega (arith, place, half-even (side a.x a.w) a.band c.requires.0 c.if-band-eq0.true)

pub returns-else-band-eq0 : goal.returns-else-band-eq0
returns-else-band-eq0 c =
    let a = c.args in
    let is = did _ _ _ _ (le-leb a.w widest (omega arith)) c.row_place-a.ensures.place in
    let place = is ∙ ap (row_place_of a.filter a.w) (set-row a.n a.band c.requires.0) in
    omega (arith, place, c.low_count.ensures, half-odd (side a.x a.w) a.band c.requires.0 c.if-band-eq0.false)
