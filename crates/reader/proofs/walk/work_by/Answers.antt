-- `reader::walk::work_by` meets its contract: the level of the admission. Assumes nothing.
use mathlib.Core.Path.{◌∙◌, ap}
use native.Mathlib.Omega.{arith}
use lib.ListN.{length}
use Rattle.numbers.specs.Signal.{at}
use Rattle.lifting.specs.Grid.{side}
use Rattle.level.specs.Tried.{outcome}
use Rattle.synthesis.proofs.Clauses.{by-answer}
use Rattle.synthesis.specs.Back.{workable_of}
use Rattle.reader.proofs.AdmissionLaws.{strict-work, tolerant-work, rows_of}
use Rattle.reader.proofs.walk.work_by.Goals as goal

pub shape_of-stretch-then-admission-ne0 : goal.shape_of-stretch-then-admission-ne0
shape_of-stretch-then-admission-ne0 c = c.work_tolerant.auto.stretch

pub returns-then-admission-ne0 : goal.returns-then-admission-ne0
returns-then-admission-ne0 c =
    let a = c.args in
    let is = c.requires (omega (arith, c.if-admission-ne0.true)) in
    record {
      stretch_after = ap (λ b. outcome b (at c.work_tolerant.new.stretch)) (c.is_ok.ensures.value ∙ by-answer c.work_tolerant.result)
          ∙ c.work_tolerant.ensures.memory ∙ tolerant-work a.admission a.filter a.x a.w a.y a.h a.last a.k a.n _ (at a.stretch.now) c.if-admission-ne0.true is;
      kept = rows_of a.filter a.w _ _ is.0 c.work_tolerant.ensures.kept;
    }

pub shape_of-stretch : goal.shape_of-stretch
shape_of-stretch c = c.work_set.auto.stretch

pub returns : goal.returns
returns c =
    let a = c.args in
    let W = side a.x a.w in
    let H = side a.y a.h in
    let room = workable_of a.filter a.last a.k W H a.n (length a.stretch.now) in
    record {
      stretch_after = ap (λ b. outcome b (at c.work_set.new.stretch)) (c.is_ok-2.ensures.value ∙ by-answer c.work_set.result)
          ∙ c.work_set.ensures.memory ∙ strict-work a.admission a.filter room a.last a.k W H a.n (at a.stretch.now) c.if-admission-ne0.false;
      kept = c.work_set.ensures.kept;
    }
