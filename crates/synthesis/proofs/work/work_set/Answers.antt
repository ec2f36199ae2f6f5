-- `synthesis::work::work_set` meets its contract: the low-low row first, below the last level. Assumes nothing.
use mathlib.Core.Path.{◌∙◌}
use native.Mathlib.Omega.{arith}
use Rattle.lifting.specs.Grid.{side}
use Rattle.synthesis.proofs.WorkLaws.{worked}
use Rattle.level.proofs.KeptLaws.{kept-both}
use Rattle.synthesis.specs.Columns.{columns_of}
use Rattle.synthesis.proofs.work.work_set.Goals as goal

pub shape_of-stretch : goal.shape_of-stretch
shape_of-stretch c = c.make_set.auto.stretch ∙ c.take_low.auto.stretch

pub returns : goal.returns
returns c =
    let a = c.args in
    record {
      stretch_after = c.make_set.ensures.stretch_after ∙ worked (columns_of a.filter) a.k (side a.x a.w) (side a.y a.h) a.n _ a.last _
          c.take_low.ensures.stretch_after;
      kept = kept-both _ _ _ _ c.take_low.ensures.kept c.make_set.ensures.kept;
    }
