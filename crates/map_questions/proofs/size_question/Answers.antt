-- `size_question` meets its contract: the questions in their order. Assumes nothing.
use mathlib.Core.Path.{sym, ◌∙◌}
use native.Mathlib.Nat.{mul_comm}
use native.Mathlib.Omega.{arith}
use Rattle.std.proofs.lemmas.Result.{err_from_is_err_and}
use Rattle.refusal.proofs.Laws.{number-some}
use Rattle.wavelet.proofs.ViewLaws.{product}
use Rattle.map_questions.proofs.QuestionLaws.{shaped, sizes-no, short-first, short-second, short-third, long-enough}
use Rattle.map_questions.proofs.size_question.Goals as goal
use Rattle.map_questions.proofs.size_question.Goals.{then-a-n-via-then-a-n, then-a-n-via-else-a-n+then-b-n, then-a-n-via-else-a-n+else-b-n+then-c-n}

pub returns-in_err-shape_question : goal.returns-in_err-shape_question
returns-in_err-shape_question c =
    let p = err_from_is_err_and c.from_residual.result c.from_residual.ensures.1 in
    let q = c.in_err-shape_question.ensures in
    rw (p.1, p.2) (q ∙ sym (sizes-no _ _ _ _ _ _ _ (λ e. number-some _ (q ∙ e))))

pub overflow_mul-n : goal.overflow_mul-n
overflow_mul-n c =
    let a = c.args in
    let s = (shaped a.filter a.width a.height a.levels (sym c.in_ok-shape_question.ensures)).0 in
    let h = s.height.1 in
    omega (arith, product a.height a.width (omega arith) s.width.1, mul_comm a.width a.height)

pub returns-then-a-n : goal.returns-then-a-n
returns-then-a-n c =
    let shape = sym c.in_ok-shape_question.ensures in
    elim c.then-a-n.branch [
      | then-a-n-via-then-a-n w ↦ short-first _ _ _ _ _ _ _ shape w.if-a-n.true
      | then-a-n-via-else-a-n+then-b-n w ↦ short-second _ _ _ _ _ _ _ shape w.if-a-n.false w.if-b-n.true
      | then-a-n-via-else-a-n+else-b-n+then-c-n w ↦ short-third _ _ _ _ _ _ _ shape w.if-a-n.false w.if-b-n.false w.if-c-n.true
    ]

pub returns : goal.returns
returns c = long-enough _ _ _ _ _ _ _ (sym c.in_ok-shape_question.ensures) c.if-a-n.false c.if-b-n.false c.if-c-n.false
