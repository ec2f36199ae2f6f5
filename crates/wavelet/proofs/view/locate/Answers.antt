-- `view::locate` meets its contract: the questions in the definition's order, and then question 6 with the stretch. Assumes nothing.
use mathlib.Core.Path.{sym, ◌∙◌}
use native.Mathlib.Nat.{mul_comm}
use native.Mathlib.Omega.{arith}
use Rattle.std.proofs.lemmas.Result.{err_from_is_err_and}
use Rattle.refusal.proofs.Laws.{number-some}
use Rattle.wavelet.proofs.QuestionLaws.{sized}
use Rattle.wavelet.proofs.ViewLaws.{product, question-size, question-area, span-no, span-stretch}
use Rattle.wavelet.specs.Shape.{columns, rows}
use Rattle.wavelet.proofs.view.locate.Goals as goal

pub returns-in_err-size_question : goal.returns-in_err-size_question
returns-in_err-size_question c =
    let q = c.in_err-size_question in
    let a = c.args in
    let p = err_from_is_err_and c.from_residual.result c.from_residual.ensures.1 in
    rw (p.1, p.2)
    (span-no a.length (columns a.shape) (rows a.shape) a.shape.levels a.level a.band a.row _
    (question-size a.length (columns a.shape) (rows a.shape) a.shape.levels a.level a.band a.row
    (λ e. number-some _ (q.ensures ∙ e))
    ∙ sym q.ensures)
    (number-some _))

pub overflow_mul-shape : goal.overflow_mul-shape
overflow_mul-shape c =
    let a = c.args in
    let s = sized a.shape.width a.shape.height a.shape.levels (sym c.in_ok-size_question.ensures) in
    let h = s.height.1 in
    omega (arith, product a.shape.height a.shape.width (omega arith) s.width.1, mul_comm a.shape.width a.shape.height)

pub returns-then-length-shape : goal.returns-then-length-shape
returns-then-length-shape c =
    let a = c.args in
    span-no a.length (columns a.shape) (rows a.shape) a.shape.levels a.level a.band a.row 5
    (question-area a.length (columns a.shape) (rows a.shape) a.shape.levels a.level a.band a.row
    (sym c.in_ok-size_question.ensures) c.if-length-shape.true)
    (λ e. omega arith)

pub stretch-requires : goal.stretch-requires
stretch-requires c =
    let a = c.args in
    let s = sized a.shape.width a.shape.height a.shape.levels (sym c.in_ok-size_question.ensures) in
    (s.width.1, s.height.1, s.levels.1)

pub returns : goal.returns
returns c =
    let a = c.args in
    c.stretch.ensures
    ∙ span-stretch a.length (columns a.shape) (rows a.shape) a.shape.levels a.level a.band a.row
    (sym c.in_ok-size_question.ensures) c.if-length-shape.false
