-- `synthesis::work::make_most` meets its contract: the 5/3's pair in one pass; else the even row, the first row's test and the pair. Assumes nothing.
use mathlib.Core.Path.{◌∙◌, ap}
use Prim.Native.Nat.{ℕ}
use native.Mathlib.Omega.{arith}
use lib.ListN.{length}
use Rattle.numbers.specs.Signal.{at}
use Rattle.lifting.specs.Grid.{side}
use Rattle.level.proofs.WorkLaws.{told-no, told-yes}
use Rattle.level.proofs.KeptLaws.{kept-is, kept-both}
use Rattle.synthesis.specs.Columns.{columns_of}
use Rattle.synthesis.specs.Work.{pair_before, most_made}
use Rattle.synthesis.proofs.FilterColumns.{ahead-some, columns-laws}
use Rattle.synthesis.proofs.WorkLaws.{most-failed, most-passed}
use Rattle.synthesis.proofs.KeptLaws.{done-kept}
use Rattle.synthesis.proofs.CallLaws.{zero_room, zero-most, done-is}
use Rattle.synthesis.proofs.Clauses.{stretch_after-kept}
use Rattle.synthesis.proofs.work.make_most.Goals as goal

pub make_both-requires : goal.make_both-requires
make_both-requires c =
    let a = c.args in
    let p = c.requires in
    let z = zero_room a.filter a.w (length a.stretch.now) a.k c.if-filter-eq0.true p.1 p.4 in
    (p.0, z.0, p.2, p.3, z.1, c.if-n-gt0.true, p.5)

pub shape_of-stretch-then-n-gt0 : goal.shape_of-stretch-then-n-gt0
shape_of-stretch-then-n-gt0 c = c.make_both.auto.stretch

pub returns-then-n-gt0 : goal.returns-then-n-gt0
returns-then-n-gt0 c =
    let a = c.args in
    stretch_after-kept (zero-most a.k a.w (side a.y a.h) a.n _ a.filter _ _ c.if-filter-eq0.true (c.make_both.ensures.stretch_after, c.make_both.ensures.kept))

pub shape_of-stretch-else-make_first : goal.shape_of-stretch-else-make_first
shape_of-stretch-else-make_first c = c.undo_low.auto.stretch

pub returns-else-make_first : goal.returns-else-make_first
returns-else-make_first c =
    let a = c.args in
    let C = columns_of a.filter in
    let H = side a.y a.h in
    let y = at c.undo_low.new.stretch in
    let e = done-is a.k a.w H a.n (at a.stretch.now) a.filter y c.undo_low.ensures in
    rw c.if-make_first.false (record {
      stretch_after = most-failed C a.k a.w H a.n y (told-no c.make_first.result y _ c.make_first.ensures c.if-make_first.false)
          ∙ ap (most_made C a.k a.w H a.n) e;
      kept = kept-is _ _ _ _ (done-kept C (columns-laws a.filter) a.k a.w H a.n _) e;
    })

pub make_before-requires : goal.make_before-requires
make_before-requires c =
    omega (arith, c.look_ahead.ensures, ahead-some c.args.filter)

pub shape_of-stretch-then-make_first : goal.shape_of-stretch-then-make_first
shape_of-stretch-then-make_first c = c.make_before.auto.stretch ∙ c.undo_low.auto.stretch

pub returns-then-make_first : goal.returns-then-make_first
returns-then-make_first c =
    let a = c.args in
    let C = columns_of a.filter in
    let H = side a.y a.h in
    let y = at c.undo_low.new.stretch in
    let e = done-is a.k a.w H a.n (at a.stretch.now) a.filter y c.undo_low.ensures in
    record {
      stretch_after = c.make_before.ensures.stretch_after ∙ ap (λ (j : ℕ). pair_before C j a.k a.w H a.n y) c.look_ahead.ensures
          ∙ most-passed C a.k a.w H a.n y (told-yes c.make_first.result y _ c.make_first.ensures c.if-make_first.true)
          ∙ ap (most_made C a.k a.w H a.n) e;
      kept = kept-both _ _ _ _ (kept-is _ _ _ _ (done-kept C (columns-laws a.filter) a.k a.w H a.n _) e) c.make_before.ensures.kept;
    }
