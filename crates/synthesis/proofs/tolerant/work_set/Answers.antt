-- `tolerant::work_set` meets its contract: the low-low row first, below the last level. Assumes nothing.
use mathlib.Core.Path.{◌∙◌}
use native.Mathlib.Omega.{arith}
use Rattle.lifting.specs.Grid.{side}
use Rattle.level.proofs.KeptLaws.{kept-both}
use Rattle.synthesis.specs.Tolerant.{tolerant_columns}
use Rattle.synthesis.proofs.WorkLaws.{worked}
use Rattle.synthesis.proofs.tolerant.work_set.Goals as goal

pub shape_of-stretch : goal.shape_of-stretch
shape_of-stretch c = c.make_set.auto.stretch ∙ c.take_low.auto.stretch

pub returns : goal.returns
returns c =
    let a = c.args in
    record {
      stretch_after = c.make_set.ensures.stretch_after ∙ worked tolerant_columns a.k (side 0 a.w) (side 0 a.h) a.n _ a.last _
          c.take_low.ensures.stretch_after;
      kept = kept-both _ _ _ _ c.take_low.ensures.kept c.make_set.ensures.kept;
    }
