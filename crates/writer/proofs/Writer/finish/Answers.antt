-- `Writer::finish` meets its contract. Assumes nothing.
use Rattle.std.proofs.Common.{◌≡◌, refl, sym, length, arith}
use Rattle.std.proofs.lemmas.Result.{err_from_is_err_and}
use Rattle.writer.specs.Questions.{finish_question}
use Rattle.writer.proofs.CallLaws.{number-past, sound-room, finish-sound, finish-no, finish-yes}
use Rattle.writer.proofs.CallsKeep.{finish-kept}
use Rattle.writer.proofs.Writer.finish.Goals as goal

pub returns-in_err-finish_question : goal.returns-in_err-finish_question
returns-in_err-finish_question c =
    let p = err_from_is_err_and c.from_residual.result c.from_residual.ensures.1 in
    let t = finish-no _ _ _ _ c.in_err-finish_question.ensures (number-past _) in
    rw (p.1, p.2) (record { result_value = t.0; store_after = t.1; finish_keeps = finish-kept _ _ _ _ _ t.0 t.1 })

pub flush-r-requires : goal.flush-r-requires
flush-r-requires c =
    let a = c.args in
    let q : finish_question a.self (length a.store.now) ≡ 0 = sym c.in_ok-finish_question.ensures in
    (sound-room a.self (length a.store.now) (finish-sound a.self (length a.store.now) q), omega arith)

pub shape_of-store : goal.shape_of-store
shape_of-store c = c.flush-r.auto.store

pub returns : goal.returns
returns c =
    let t = finish-yes _ _ _ _ c.in_ok-finish_question.ensures _ _ refl c.flush-r.ensures in
    record { result_value = t.0; store_after = t.1; finish_keeps = finish-kept _ _ _ _ _ t.0 t.1 }
