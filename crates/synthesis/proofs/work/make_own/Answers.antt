-- `synthesis::work::make_own` meets its contract, by the filter's number: no pair, or one. Assumes nothing.
use mathlib.Core.Path.{◌∙◌}
use native.Mathlib.Omega.{arith}
use Rattle.lifting.specs.Grid.{side}
use Rattle.level.proofs.KeptLaws.{kept-none}
use Rattle.synthesis.proofs.WorkLaws.{own-none, own-one}
use Rattle.synthesis.proofs.work.make_own.Goals as goal

pub returns-then-filter-eq0 : goal.returns-then-filter-eq0
returns-then-filter-eq0 c = let a = c.args in
    record { stretch_after = own-none a.k a.w (side a.y a.h) a.n _ a.filter c.if-filter-eq0.true; kept = kept-none _ _ }

pub shape_of-stretch : goal.shape_of-stretch
shape_of-stretch c = c.make_before.auto.stretch

pub returns : goal.returns
returns c =
    let a = c.args in
    record { stretch_after = c.make_before.ensures.stretch_after ∙ own-one a.k a.w (side a.y a.h) a.n _ a.filter c.if-filter-eq0.false; kept = c.make_before.ensures.kept }
