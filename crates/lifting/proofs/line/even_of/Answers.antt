-- `lifting::line::even_of` meets its contract: what is read are 32-bit numbers read back. Assumes nothing.
use Rattle.numbers.specs.Signal.{at}
use Rattle.numbers.specs.Word.{wrap32}
use Rattle.numbers.proofs.Words.{read_back}
use Rattle.lifting.specs.Line.{unupdated}
use Rattle.lifting.proofs.PlaceLaws.{step-read}
use Rattle.lifting.proofs.line.even_of.Goals as goal

pub returns : goal.returns
returns c =
    let a = c.args in
    let l = a.coefficients.now in
    step-read (unupdated wrap32) _ _ _ _ _ _ _ _ (read_back _ c.unupdate.type_inv) c.unupdate.ensures
    (read_back (at l a.n) c.unupdate-arg-1.given)
    (read_back (at l a.a) c.unupdate-arg-2-1.given) (read_back (at l a.b) c.unupdate-arg-3-1.given)
