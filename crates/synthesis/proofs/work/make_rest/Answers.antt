-- `synthesis::work::make_rest` meets its contract: nothing, or the rows that are left, as long as they fit. Assumes nothing.
use mathlib.Core.Path.{◌∙◌}
use native.Mathlib.Omega.{arith}
use Rattle.numbers.specs.Signal.{at}
use Rattle.lifting.specs.Grid.{side}
use Rattle.level.proofs.WorkLaws.{told-no, told-yes}
use Rattle.level.proofs.KeptLaws.{kept-none, kept-both}
use Rattle.synthesis.proofs.WorkLaws.{rest-none, rest-failed, rest-last}
use Rattle.synthesis.specs.Columns.{columns_of}
use Rattle.synthesis.proofs.work.make_rest.Goals as goal

pub returns-then-n-y : goal.returns-then-n-y
returns-then-n-y c = let a = c.args in
    record { stretch_after = rest-none (columns_of a.filter) a.k a.w (side a.y a.h) a.n _ c.if-n-y.true; kept = kept-none _ _ }

pub shape_of-stretch-else-make_own : goal.shape_of-stretch-else-make_own
shape_of-stretch-else-make_own c = c.make_own.auto.stretch

pub returns-else-make_own : goal.returns-else-make_own
returns-else-make_own c =
    let a = c.args in
    rw c.if-make_own.false (record {
      stretch_after = rest-failed (columns_of a.filter) a.k a.w (side a.y a.h) a.n _ (omega arith)
          (told-no c.make_own.result (at c.make_own.new.stretch) _ c.make_own.ensures.stretch_after c.if-make_own.false);
      kept = c.make_own.ensures.kept;
    })

pub shape_of-stretch-then-make_own : goal.shape_of-stretch-then-make_own
shape_of-stretch-then-make_own c = c.make_last.auto.stretch ∙ c.make_own.auto.stretch

pub returns-then-make_own : goal.returns-then-make_own
returns-then-make_own c =
    let a = c.args in
    record {
      stretch_after = c.make_last.ensures.stretch_after
          ∙ rest-last (columns_of a.filter) a.k a.w (side a.y a.h) a.n _ _ (omega arith)
          (told-yes c.make_own.result (at c.make_own.new.stretch) _ c.make_own.ensures.stretch_after c.if-make_own.true);
      kept = kept-both _ _ _ _ c.make_own.ensures.kept c.make_last.ensures.kept;
    }
