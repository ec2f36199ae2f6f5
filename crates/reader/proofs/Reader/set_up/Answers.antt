-- `reader::Reader::set_up` meets its contract: refused by a question, or the needed part of the store cleared. Assumes nothing.
use mathlib.Core.Path.{ap, ◌∙◌, sym}
use native.Mathlib.Omega.{arith}
use lib.ListN.{length}
use Rattle.reader.specs.declared.Reader.{Reader}
use borrow.Author.Rules.{rules}
use borrow.Author.Tests.{le-leb}
use Rattle.numbers.specs.Signal.{at}
use Rattle.lifting.specs.Grid.{side}
use Rattle.wavelet.specs.Limits.{max_width, max_height}
use Rattle.wavelet.proofs.LimitLaws.{width_small, height-small}
use Rattle.wavelet.proofs.QuestionLaws.{within-true}
use Rattle.filters.specs.Filters.{filter_of}
use Rattle.filters.proofs.FigureLaws.{levels-most}
use Rattle.areas.proofs.AreaLaws.{did}
use Rattle.reader.proofs.StoreLaws.{length-is}
use Rattle.reader.proofs.QuestionLaws.{up_in}
use Rattle.reader.proofs.CallLaws.{set-up-no, set-up-yes}
use Rattle.reader.proofs.Keeps.{set-up-also}
use Rattle.reader.proofs.Clauses.{answer-kept-meaning}
use Rattle.reader.specs.Answers.{of_set_up}
use Rattle.refusal.proofs.Laws.{number-some, handed-on}
use Rattle.reader.proofs.Reader.set_up.Goals as goal

pub returns-in_err-set_up_question : goal.returns-in_err-set_up_question
returns-in_err-set_up_question c =
    let a = c.args in
    let W = side a.map.x a.map.width in
    let H = side a.map.y a.map.height in
    let p = (set-up-also _ W H a.map.levels (length a.store.now) (at a.store.now)
    (set-up-no _ W H a.map.levels _ _ _ c.in_err-set_up_question.ensures (number-some _))) in
    let e = handed-on c.from_residual.result c.from_residual.ensures.1 in
    record { answer = ap of_set_up e ∙ p.0; kept = p.1.0; meaning = rw e p.1.1 }

pub begun-requires : goal.begun-requires
begun-requires c =
    let a = c.args in
    let ok = up_in a.map.filter (side a.map.x a.map.width) (side a.map.y a.map.height) a.map.levels _
    (sym c.in_ok-set_up_question.ensures) in
    let w = within-true 1 max_width a.map.width ok.0 in
    let l = within-true 1 (filter_of a.map.filter).levels a.map.levels ok.1 in
    let h = within-true 1 max_height a.map.height ok.3 in (
      (omega (arith, w.1, width_small), omega arith, omega (arith, h.1, height-small), omega arith, omega arith),
      omega (arith, l.1, levels-most a.map.filter),
    )

pub shape_of-store : goal.shape_of-store
shape_of-store c = c.clear.auto.area

pub returns : goal.returns
returns c =
    let a = c.args in
    let W = side a.map.x a.map.width in
    let H = side a.map.y a.map.height in
    let asked = sym c.in_ok-set_up_question.ensures in
    let ok = up_in _ W H a.map.levels _ asked in
    let n = c.store_length-n.ensures ∙ length-is _ W a.map.levels ok.4 ok.0 ok.1 in
    let room = le-leb c.store_length-n.result (length a.store.now) (omega (arith, ok.2, n)) in
    answer-kept-meaning (set-up-also _ W H a.map.levels (length a.store.now) (at a.store.now)
    (set-up-yes _ W H a.map.levels _ _ _ _ _ c.begun.ensures asked n (did _ _ _ _ room c.clear.ensures.area)))
