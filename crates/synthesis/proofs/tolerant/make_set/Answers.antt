-- `tolerant::make_set` meets its contract: along the rows, then the rows made. Assumes nothing.
use mathlib.Core.Path.{◌∙◌}
use native.Mathlib.Omega.{arith}
use borrow.Author.Tests.{not-true, not-false}
use Rattle.numbers.specs.Signal.{at}
use Rattle.lifting.specs.Grid.{side}
use Rattle.level.proofs.WorkLaws.{told-no, told-yes}
use Rattle.level.proofs.KeptLaws.{kept-both}
use Rattle.synthesis.specs.Tolerant.{tolerant_columns}
use Rattle.synthesis.proofs.WorkLaws.{set-failed, set-passed}
use Rattle.synthesis.proofs.tolerant.make_set.Goals as goal

pub shape_of-stretch-then-not-unlift_set : goal.shape_of-stretch-then-not-unlift_set
shape_of-stretch-then-not-unlift_set c = c.unlift_set.auto.stretch

pub returns-then-not-unlift_set : goal.returns-then-not-unlift_set
returns-then-not-unlift_set c =
    let a = c.args in
    record {
      stretch_after = set-failed tolerant_columns a.k (side 0 a.w) (side 0 a.h) a.n _
          (told-no c.unlift_set.result (at c.unlift_set.new.stretch) _ c.unlift_set.ensures.stretch_after (not-true _ c.if-not-unlift_set.true-raw));
      kept = c.unlift_set.ensures.kept;
    }

pub shape_of-stretch : goal.shape_of-stretch
shape_of-stretch c = c.make_rows.auto.stretch ∙ c.unlift_set.auto.stretch

pub returns : goal.returns
returns c =
    let a = c.args in
    record {
      stretch_after = c.make_rows.ensures.stretch_after
          ∙ set-passed tolerant_columns a.k (side 0 a.w) (side 0 a.h) a.n _ _
          (told-yes c.unlift_set.result (at c.unlift_set.new.stretch) _ c.unlift_set.ensures.stretch_after (not-false _ c.if-not-unlift_set.false-raw));
      kept = kept-both _ _ _ _ c.unlift_set.ensures.kept c.make_rows.ensures.kept;
    }
