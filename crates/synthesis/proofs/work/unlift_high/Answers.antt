-- `synthesis::work::unlift_high` meets its contract: no row, or one lifted back. Assumes nothing.
use mathlib.Core.Path.{◌∙◌}
use native.Mathlib.Omega.{arith}
use Rattle.lifting.specs.Grid.{side}
use Rattle.level.proofs.WorkLaws.{high-none, high-some}
use Rattle.level.proofs.KeptLaws.{kept-none}
use Rattle.synthesis.specs.Columns.{along_of}
use Rattle.filters.specs.Filters.{filter_of}
use Rattle.synthesis.proofs.work.unlift_high.Goals as goal

pub returns-then-y-h : goal.returns-then-y-h
returns-then-y-h c = let a = c.args in
    record {
      stretch_after = high-none (filter_of a.filter).rows (along_of a.filter) (side a.x a.w) (side a.y a.h) a.n _
          c.if-y-h.true;
      kept = kept-none _ _;
    }

pub shape_of-stretch : goal.shape_of-stretch
shape_of-stretch c = c.unlift_row.auto.stretch

pub returns : goal.returns
returns c =
    let a = c.args in
    record {
      stretch_after = c.unlift_row.ensures.stretch_after ∙ high-some (filter_of a.filter).rows (along_of a.filter) (side a.x a.w) (side a.y a.h) a.n _
          (omega arith);
      kept = c.unlift_row.ensures.kept;
    }
