-- `reader::Reader::set_up_tolerant` meets its contract: as `set_up` of the 5/3 from the origin on. Assumes nothing.
use mathlib.Core.Path.{ap, ◌∙◌, sym}
use native.Mathlib.Omega.{arith}
use lib.ListN.{length}
use borrow.Author.Tests.{le-leb}
use Rattle.numbers.specs.Signal.{at}
use Rattle.lifting.specs.Grid.{side}
use Rattle.wavelet.specs.Limits.{max_width, max_height}
use Rattle.wavelet.proofs.LimitLaws.{width_small, height-small}
use Rattle.wavelet.proofs.QuestionLaws.{within-true}
use Rattle.filters.specs.Filters.{filter_of}
use Rattle.filters.proofs.FigureLaws.{levels-most}
use Rattle.areas.proofs.AreaLaws.{did}
use Rattle.reader.proofs.StoreLaws.{length-is}
use Rattle.reader.proofs.QuestionLaws.{up_in, tolerant-is}
use Rattle.reader.proofs.CallLaws.{tolerant-no, tolerant-yes}
use Rattle.reader.proofs.Keeps.{tolerant-also}
use Rattle.reader.proofs.Clauses.{answer-kept-meaning}
use Rattle.reader.specs.Answers.{of_set_up}
use Rattle.refusal.proofs.Laws.{number-some, handed-on}
use Rattle.reader.proofs.Reader.set_up_tolerant.Goals as goal

pub returns-in_err-set_up_question : goal.returns-in_err-set_up_question
returns-in_err-set_up_question c =
    let a = c.args in
    let asked = c.in_err-set_up_question.ensures ∙ tolerant-is a.width a.height a.levels (length a.store.now) in
    let p = (tolerant-also a.width a.height a.levels _ (at a.store.now) (tolerant-no a.width a.height a.levels _ _ _ asked (number-some _))) in
    let e = handed-on c.from_residual.result c.from_residual.ensures.1 in
    record { answer = ap of_set_up e ∙ p.0; kept = p.1.0; meaning = rw e p.1.1 }

pub begun-requires : goal.begun-requires
begun-requires c =
    let a = c.args in
    let ok = up_in 0 (side 0 a.width) (side 0 a.height) a.levels _ (sym c.in_ok-set_up_question.ensures) in
    let w = within-true 1 max_width a.width ok.0 in
    let l = within-true 1 (filter_of 0).levels a.levels ok.1 in
    let h = within-true 1 max_height a.height ok.3 in (
      (omega (arith, w.1, width_small), omega arith, omega (arith, h.1, height-small), omega arith, omega arith),
      omega (arith, l.1, levels-most 0),
    )

pub shape_of-store : goal.shape_of-store
shape_of-store c = c.clear.auto.area

pub returns : goal.returns
returns c =
    let a = c.args in
    let W = side 0 a.width in
    let q = sym c.in_ok-set_up_question.ensures in
    let ok = up_in 0 W (side 0 a.height) a.levels _ q in
    let n = c.store_length-n.ensures ∙ length-is 0 W a.levels ok.4 ok.0 ok.1 in
    let room = le-leb c.store_length-n.result (length a.store.now) (omega (arith, ok.2, n)) in
    answer-kept-meaning (tolerant-also a.width a.height a.levels _ (at a.store.now)
    (tolerant-yes a.width a.height a.levels _ _ _ _ _ c.begun.ensures (sym (tolerant-is a.width a.height a.levels _) ∙ q) n
    (did _ _ _ _ room c.clear.ensures.area)))
