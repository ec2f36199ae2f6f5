-- `lifting::halves::unupdate_by` meets its contract: what is read and stored are 32-bit numbers read back. Assumes nothing.
use mathlib.Core.Path.{ap}
use lib.ListN.{set}
use Rattle.numbers.specs.Signal.{at}
use Rattle.numbers.specs.Word.{wrap32}
use Rattle.numbers.proofs.Words.{read_back}
use Rattle.lifting.specs.Line.{unupdated}
use Rattle.lifting.proofs.PlaceLaws.{step-read}
use Rattle.lifting.proofs.halves.unupdate_by.Goals as goal

pub returns : goal.returns
returns c =
    let a = c.args in
    let l = a.row.now in
    let o = a.out.now in
    ap (set o a.p)
    (step-read (unupdated wrap32) _ _ _ _ _ _ _ _ (read_back _ c.unupdate.type_inv) c.unupdate.ensures
    (read_back (at o a.p) c.unupdate-arg-1.given)
    (read_back (at l a.a) c.unupdate-arg-2-1.given) (read_back (at l a.b) c.unupdate-arg-3-1.given))
