-- `reader::Reader::set_up_at` meets its contract: refused by a question, or the store cleared and the reader of the low-low part. Assumes nothing.
use mathlib.Core.Path.{ap, ◌≡◌, sym, ◌∙◌}
use native.Mathlib.Omega.{arith}
use lib.ListN.{length}
use borrow.Author.Rules.{rules}
use borrow.Author.Tests.{le-leb}
use Rattle.numbers.specs.Signal.{at}
use Rattle.lifting.specs.Grid.{side}
use Rattle.wavelet.specs.Limits.{max_width, max_height}
use Rattle.wavelet.proofs.LimitLaws.{height-small}
use Rattle.wavelet.proofs.QuestionLaws.{within-true}
use Rattle.filters.specs.Filters.{filter_of}
use Rattle.areas.proofs.AreaLaws.{did}
use Rattle.reader.proofs.StoreLaws.{length-is}
use Rattle.reader.proofs.QuestionLaws.{stop-in}
use Rattle.reader.proofs.StopLaws.{stop-no, stop-yes, streams-are}
use Rattle.reader.proofs.Clauses.{answer-kept}
use Rattle.reader.specs.Answers.{of_set_up}
use Rattle.refusal.proofs.Laws.{number-some, handed-on}
use Rattle.reader.proofs.Reader.set_up_at.Goals as goal

pub returns-in_err-stop_question : goal.returns-in_err-stop_question
returns-in_err-stop_question c =
    let a = c.args in
    let p = (stop-no _ (side a.map.x a.map.width) (side a.map.y a.map.height) a.map.levels a.stop _ _ _ c.in_err-stop_question.ensures
    (number-some _)) in
    let e = handed-on c.from_residual.result c.from_residual.ensures.1 in
    record { answer = ap of_set_up e ∙ p.0; kept = p.1 }

pub reader_at-requires : goal.reader_at-requires
reader_at-requires c =
    let a = c.args in
    let W = side a.map.x a.map.width in
    let ok = stop-in a.map.filter W (side a.map.y a.map.height) a.map.levels a.stop _
    (sym c.in_ok-stop_question.ensures) in
    let h = within-true 1 max_height a.map.height ok.1 in
    let j = within-true 1 a.map.levels a.stop ok.4 in (
      streams-are a.map.filter W a.map.levels ok.2 ok.0 ok.3,
      omega (arith, h.1, height-small),
      omega (arith, c.well_formed.0),
      omega (arith, c.well_formed.0),
      j.1,
      c.store_length-n.ensures ∙ length-is _ W a.map.levels ok.2 ok.0 ok.3,
    )

pub shape_of-store : goal.shape_of-store
shape_of-store c = c.clear.auto.area

pub returns : goal.returns
returns c =
    let a = c.args in
    let W = side a.map.x a.map.width in
    let asked = sym c.in_ok-stop_question.ensures in
    let ok = stop-in a.map.filter W (side a.map.y a.map.height) a.map.levels a.stop _ asked in
    let n = c.store_length-n.ensures ∙ length-is _ W a.map.levels ok.2 ok.0 ok.3 in
    let room = le-leb c.store_length-n.result (length a.store.now) (omega (arith, ok.5, n)) in
    answer-kept (stop-yes _ W (side a.map.y a.map.height) a.map.levels a.stop _ _ _ _ _ c.reader_at.ensures asked n
    (did _ _ _ _ room c.clear.ensures.area))
