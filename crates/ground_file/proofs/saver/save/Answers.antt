-- `saver::save` meets its contract: 1 and 5, then the pieces. Assumes nothing.
use mathlib.Core.Path.{refl, sym}
use Rattle.std.proofs.lemmas.Result.{err_from_is_err_and}
use Rattle.ground_file.proofs.SaverAsks.{fits-inside, save-fits, saves-not, saves-ran}
use Rattle.ground_file.proofs.saver.save.Goals as goal

pub returns-in_err-question : goal.returns-in_err-question
returns-in_err-question c =
    let p = err_from_is_err_and c.from_residual.result c.from_residual.ensures.1 in
    rw (p.1, p.2) (saves-not _ _ _ _ c.in_err-question.ensures)

pub run-requires : goal.run-requires
run-requires c = fits-inside _ (save-fits _ _ (sym c.in_ok-question.ensures)).0

pub returns : goal.returns
returns c = saves-ran _ _ _ _ 0 _ c.in_ok-question.ensures refl c.run.ensures
