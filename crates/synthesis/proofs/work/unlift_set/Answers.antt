-- `synthesis::work::unlift_set` meets its contract: one row after the other, as long as they are lines'. Assumes nothing.
use mathlib.Core.Path.{◌∙◌}
use native.Mathlib.Omega.{arith}
use Rattle.numbers.specs.Signal.{at}
use Rattle.lifting.specs.Grid.{side}
use Rattle.level.proofs.WorkLaws.{told-no, told-yes, set-low, set-high}
use Rattle.level.proofs.KeptLaws.{kept-both}
use Rattle.synthesis.specs.Columns.{along_of}
use Rattle.filters.specs.Filters.{filter_of}
use Rattle.synthesis.proofs.work.unlift_set.Goals as goal

pub shape_of-stretch-else-unlift_low : goal.shape_of-stretch-else-unlift_low
shape_of-stretch-else-unlift_low c = c.unlift_low.auto.stretch

pub returns-else-unlift_low : goal.returns-else-unlift_low
returns-else-unlift_low c =
    let a = c.args in
    rw c.if-unlift_low.false (record {
      stretch_after = set-low (filter_of a.filter).rows (along_of a.filter) (side a.x a.w) (side a.y a.h) a.n _
          (told-no c.unlift_low.result (at c.unlift_low.new.stretch) _ c.unlift_low.ensures.stretch_after c.if-unlift_low.false);
      kept = c.unlift_low.ensures.kept;
    })

pub shape_of-stretch-then-unlift_low : goal.shape_of-stretch-then-unlift_low
shape_of-stretch-then-unlift_low c = c.unlift_high.auto.stretch ∙ c.unlift_low.auto.stretch

pub returns-then-unlift_low : goal.returns-then-unlift_low
returns-then-unlift_low c =
    let a = c.args in
    record {
      stretch_after = c.unlift_high.ensures.stretch_after
          ∙ set-high (filter_of a.filter).rows (along_of a.filter) (side a.x a.w) (side a.y a.h) a.n _ _
          (told-yes c.unlift_low.result (at c.unlift_low.new.stretch) _ c.unlift_low.ensures.stretch_after c.if-unlift_low.true);
      kept = kept-both _ _ _ _ c.unlift_low.ensures.kept c.unlift_high.ensures.kept;
    }
