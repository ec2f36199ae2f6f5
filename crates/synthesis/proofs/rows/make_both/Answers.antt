-- `synthesis::rows::make_both` meets its contract: the pair call, on slots. Assumes nothing.
use mathlib.Core.Path.{◌∙◌, ap}
use Rattle.numbers.specs.Signal.{at}
use Rattle.level.specs.Tried.{outcome}
use native.Mathlib.Omega.{arith}
use Rattle.numbers.proofs.Words.{read_back}
use Rattle.lifting.specs.Grid.{side}
use Rattle.filters.specs.Filters.{filter_of}
use Rattle.level.proofs.AdmitLaws.{same-range}
use Rattle.synthesis.proofs.CallLaws.{same-lowest}
use Rattle.synthesis.proofs.PairMade.{pair-call}
use Rattle.synthesis.proofs.Clauses.{stretch_after-kept, by-answer}
use Rattle.synthesis.proofs.rows.make_both.Goals as goal

pub shape_of-stretch : goal.shape_of-stretch
shape_of-stretch c = c.unlift_pair.auto.area

pub returns : goal.returns
returns c =
    let a = c.args in
    let F = filter_of 0 in
    let p = pair-call a.k a.w (side a.y a.h) a.n c.requires.5 c.requires.6 _ _ _ _ _ _ _ _ c.requires.1 c.row_after-r.ensures.0
    c.row_before-b.ensures.0
    (read_back c.lowest_of-least.result c.lowest_of-least.type_inv ∙ c.lowest_of-least.ensures ∙ same-lowest F F.levels a.k c.requires.4)
    (read_back c.range_of-most.result c.range_of-most.type_inv ∙ c.range_of-most.ensures ∙ same-range F F.levels a.k c.requires.4)
    c.unlift_pair.ensures.value c.unlift_pair.ensures.area_after in
    stretch_after-kept (ap (λ b. outcome b (at c.unlift_pair.new.area)) (c.is_ok.ensures.value ∙ by-answer c.unlift_pair.result) ∙ p.0, p.1)
