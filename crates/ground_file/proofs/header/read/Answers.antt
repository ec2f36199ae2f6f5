-- `header::read` meets its contract: the questions, then what the bytes say. Assumes nothing.
use native.Mathlib.Omega.{arith}
use Rattle.std.proofs.lemmas.Result.{err_from_is_err_and}
use Rattle.ground_file.proofs.HeaderLaws.{header-short, step_is}
use Rattle.ground_file.proofs.header.read.Goals as goal

pub returns-then-bytes-lt24 : goal.returns-then-bytes-lt24
returns-then-bytes-lt24 c = record { value = header-short c.args.bytes.now c.if-bytes-lt24.true; header = tt }

pub question-requires : goal.question-requires
question-requires c =
    (omega arith, c.shape_in.ensures, step_is c.args.bytes.now _ c.number_in.ensures.0)

pub returns-in_err-question : goal.returns-in_err-question
returns-in_err-question c =
    let p = err_from_is_err_and c.from_residual.result c.from_residual.ensures.1 in
    rw (p.1, p.2) (record { value = c.in_err-question.ensures; header = tt })

pub returns : goal.returns
returns c =
    record { value = c.in_ok-question.ensures; header = (c.shape_in.ensures, step_is c.args.bytes.now _ c.number_in.ensures.0) }
