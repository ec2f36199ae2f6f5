-- `Writer::set_up` meets its contract. Assumes nothing.
use Rattle.std.proofs.Common.{refl, arith}
use Rattle.std.proofs.lemmas.Result.{err_from_is_err_and}
use Rattle.writer.proofs.CallLaws.{number-past, set-up-fits, set-up-no, set-up-yes}
use Rattle.writer.proofs.CallsKeep.{set-up-kept}
use Rattle.writer.proofs.Writer.set_up.Goals as goal

pub returns-in_err-set_up_question : goal.returns-in_err-set_up_question
returns-in_err-set_up_question c =
    let p = err_from_is_err_and c.from_residual.result c.from_residual.ensures.1 in
    let t = set-up-no _ _ _ _ _ c.in_err-set_up_question.ensures _ _ (number-past _) in
    rw (p.1, p.2) (record { result_value = t.0; store_after = t.1; set_up_holds = set-up-kept _ _ _ _ _ _ _ t.0 })

pub clear-requires : goal.clear-requires
clear-requires c =
    let f = set-up-fits _ _ _ _ _ c.in_ok-set_up_question.ensures _ refl c.writer_store_length-n.ensures in
    omega (arith, f.room)

pub shape_of-store : goal.shape_of-store
shape_of-store c = c.clear.auto.store

pub returns : goal.returns
returns c =
    let e = c.in_ok-set_up_question.ensures in
    let t = set-up-yes _ _ _ _ _ e _ _ _ _ refl (set-up-fits _ _ _ _ _ e _ refl c.writer_store_length-n.ensures) c.clear.ensures in
    record { result_value = t.0; store_after = t.1; set_up_holds = set-up-kept _ _ _ _ _ _ _ t.0 }
