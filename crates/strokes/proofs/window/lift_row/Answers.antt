-- `window::lift_row` meets its contract: the row stands at the front of the other line, and is lifted from there. Assumes nothing.
use mathlib.Core.Path.{refl}
use Prim.Native.Nat.{◌-◌}
use native.Mathlib.Omega.{arith}
use lib.ListN.{length}
use borrow.Author.Tests.{le-leb}
use Rattle.numbers.specs.Signal.{at}
use Rattle.areas.proofs.AreaLaws.{did}
use Rattle.strokes.proofs.RowCalls.{forward-through, row-left, row-used}
use Rattle.strokes.proofs.window.lift_row.Goals as goal

pub returns-then-not-used : goal.returns-then-not-used
returns-then-not-used c = let a = c.args in row-left (length a.row.now) (at a.row.now) a.used c.if-not-used.true

pub returns : goal.returns
returns c =
    let row = c.args.row.now in
    let n = length row in
    row-used n _ (at row) c.args.used c.if-not-used.false
    (forward-through n (n - 0) n _ (at row) _ c.copy.new.to (omega arith) (omega (arith, c.copy.auto.to, c.requires)) refl
    (did _ _ _ _ (le-leb n (length c.args.other.now) c.requires) c.copy.ensures.area) c.forward.ensures.out_after)
