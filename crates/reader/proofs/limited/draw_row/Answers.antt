-- `reader::limited::draw_row` meets its contract: by the stop. Assumes nothing.
use native.Mathlib.Omega.{arith}
use lib.ListN.{length}
use borrow.Author.Tests.{le-leb}
use Rattle.areas.proofs.AreaLaws.{did}
use Rattle.reader.proofs.LimitedLaws.{shown-none, shown-some}
use Rattle.reader.proofs.limited.draw_row.Goals as goal

pub shape_of-out-then-stop-eq0 : goal.shape_of-out-then-stop-eq0
shape_of-out-then-stop-eq0 c = c.interleave_line.auto.line

pub returns-then-stop-eq0 : goal.returns-then-stop-eq0
returns-then-stop-eq0 c =
    let a = c.args in
    shown-none a.stop c.if-stop-eq0.true _ _ _ _
    (did _ _ _ _ (le-leb (length a.row.now) (length a.out.now) c.requires) c.interleave_line.ensures.area)

pub interleave_limited-requires : goal.interleave_limited-requires
interleave_limited-requires c = c.requires

pub shape_of-out : goal.shape_of-out
shape_of-out c = c.interleave_limited.auto.out

pub returns : goal.returns
returns c =
    shown-some c.args.stop c.if-stop-eq0.false _ _ _ _ c.interleave_limited.ensures
