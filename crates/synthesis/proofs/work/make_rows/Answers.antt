-- `synthesis::work::make_rows` meets its contract: most rows and the rest, as long as they fit. Assumes nothing.
use mathlib.Core.Path.{◌∙◌}
use native.Mathlib.Omega.{arith}
use Rattle.numbers.specs.Signal.{at}
use Rattle.lifting.specs.Grid.{side}
use Rattle.level.proofs.WorkLaws.{told-no, told-yes}
use Rattle.level.proofs.KeptLaws.{kept-both}
use Rattle.synthesis.specs.Columns.{columns_of}
use Rattle.synthesis.proofs.WorkLaws.{rows-failed, rows-passed}
use Rattle.synthesis.proofs.work.make_rows.Goals as goal

pub shape_of-stretch-else-make_most : goal.shape_of-stretch-else-make_most
shape_of-stretch-else-make_most c = c.make_most.auto.stretch

pub returns-else-make_most : goal.returns-else-make_most
returns-else-make_most c =
    let a = c.args in
    rw c.if-make_most.false (record {
      stretch_after = rows-failed (columns_of a.filter) a.k a.w (side a.y a.h) a.n _
          (told-no c.make_most.result (at c.make_most.new.stretch) _ c.make_most.ensures.stretch_after c.if-make_most.false);
      kept = c.make_most.ensures.kept;
    })

pub shape_of-stretch-then-make_most : goal.shape_of-stretch-then-make_most
shape_of-stretch-then-make_most c = c.make_rest.auto.stretch ∙ c.make_most.auto.stretch

pub returns-then-make_most : goal.returns-then-make_most
returns-then-make_most c =
    let a = c.args in
    record {
      stretch_after = c.make_rest.ensures.stretch_after
          ∙ rows-passed (columns_of a.filter) a.k a.w (side a.y a.h) a.n _ _
          (told-yes c.make_most.result (at c.make_most.new.stretch) _ c.make_most.ensures.stretch_after c.if-make_most.true);
      kept = kept-both _ _ _ _ c.make_most.ensures.kept c.make_rest.ensures.kept;
    }
