-- `view::band_row_question` meets its contract: the number in `locate`'s answer. Assumes nothing.
use mathlib.Core.Path.{sym}
use lib.ListN.{length}
use Rattle.std.proofs.lemmas.Result.{err_from_is_err_and}
use Rattle.wavelet.specs.Shape.{columns, rows}
use Rattle.wavelet.proofs.ViewLaws.{span-at, span-refused}
use Rattle.wavelet.proofs.view.band_row_question.Goals as goal

pub returns : goal.returns
returns c =
    let a = c.args in
    sym (span-at (length a.plane.now) (columns a.shape) (rows a.shape) a.shape.levels a.level a.band a.row _ _ (sym c.in_ok-locate.ensures)).passes

pub returns-in_err-locate : goal.returns-in_err-locate
returns-in_err-locate c =
    let a = c.args in
    let p = err_from_is_err_and c.from_residual.result c.from_residual.ensures.1 in
    rw (p.1, p.2)
    (sym (span-refused (length a.plane.now) (columns a.shape) (rows a.shape) a.shape.levels a.level a.band a.row _ (sym c.in_err-locate.ensures)).0)
