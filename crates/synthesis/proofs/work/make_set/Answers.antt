-- `synthesis::work::make_set` meets its contract: along the rows, then the rows made. Assumes nothing.
use mathlib.Core.Path.{◌∙◌}
use native.Mathlib.Omega.{arith}
use Rattle.numbers.specs.Signal.{at}
use Rattle.lifting.specs.Grid.{side}
use Rattle.level.proofs.WorkLaws.{told-no, told-yes}
use Rattle.level.proofs.KeptLaws.{kept-both}
use Rattle.synthesis.specs.Columns.{columns_of}
use Rattle.synthesis.proofs.WorkLaws.{set-failed, set-passed}
use Rattle.synthesis.proofs.work.make_set.Goals as goal

pub shape_of-stretch-else-unlift_set : goal.shape_of-stretch-else-unlift_set
shape_of-stretch-else-unlift_set c = c.unlift_set.auto.stretch

pub returns-else-unlift_set : goal.returns-else-unlift_set
returns-else-unlift_set c =
    let a = c.args in
    rw c.if-unlift_set.false (record {
      stretch_after = set-failed (columns_of a.filter) a.k (side a.x a.w) (side a.y a.h) a.n _
          (told-no c.unlift_set.result (at c.unlift_set.new.stretch) _ c.unlift_set.ensures.stretch_after c.if-unlift_set.false);
      kept = c.unlift_set.ensures.kept;
    })

pub shape_of-stretch-then-unlift_set : goal.shape_of-stretch-then-unlift_set
shape_of-stretch-then-unlift_set c = c.make_rows.auto.stretch ∙ c.unlift_set.auto.stretch

pub returns-then-unlift_set : goal.returns-then-unlift_set
returns-then-unlift_set c =
    let a = c.args in
    record {
      stretch_after = c.make_rows.ensures.stretch_after
          ∙ set-passed (columns_of a.filter) a.k (side a.x a.w) (side a.y a.h) a.n _ _
          (told-yes c.unlift_set.result (at c.unlift_set.new.stretch) _ c.unlift_set.ensures.stretch_after c.if-unlift_set.true);
      kept = kept-both _ _ _ _ c.unlift_set.ensures.kept c.make_rows.ensures.kept;
    }
