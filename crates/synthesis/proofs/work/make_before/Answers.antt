-- `synthesis::work::make_before` meets its contract: the two rows, or none. Assumes nothing.
use mathlib.Core.Path.{refl, ◌∙◌}
use native.Mathlib.Omega.{arith}
use Rattle.lifting.specs.Grid.{side}
use Rattle.level.proofs.KeptLaws.{kept-none}
use Rattle.synthesis.specs.Columns.{columns_of}
use Rattle.synthesis.specs.Work.{pair_of}
use Rattle.synthesis.proofs.WorkLaws.{before-none, before-pair}
use Rattle.synthesis.proofs.work.make_before.Goals as goal

pub returns-then-n-j : goal.returns-then-n-j
returns-then-n-j c = let a = c.args in
    record { stretch_after = before-none (columns_of a.filter) a.k a.w (side a.y a.h) a.n _ a.j c.if-n-j.true; kept = kept-none _ _ }

pub shape_of-stretch : goal.shape_of-stretch
shape_of-stretch c = c.make_pair.auto.stretch

pub returns : goal.returns
unfolding pair_of
returns c =
    let a = c.args in
    record {
      stretch_after = c.make_pair.ensures.stretch_after ∙ before-pair (columns_of a.filter) a.k a.w (side a.y a.h) a.n _ _ a.j refl
          (omega arith);
      kept = c.make_pair.ensures.kept;
    }
