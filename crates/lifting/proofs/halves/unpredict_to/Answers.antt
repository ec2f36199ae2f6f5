-- `lifting::halves::unpredict_to` meets its contract: what is read and stored are 32-bit numbers read back. Assumes nothing.
use mathlib.Core.Path.{ap}
use lib.ListN.{set}
use Rattle.numbers.specs.Signal.{at}
use Rattle.numbers.specs.Word.{wrap32}
use Rattle.numbers.proofs.Words.{read_back}
use Rattle.lifting.specs.Line.{unpredicted}
use Rattle.lifting.proofs.PlaceLaws.{step-read}
use Rattle.lifting.proofs.halves.unpredict_to.Goals as goal

pub returns : goal.returns
returns c =
    let a = c.args in
    let l = a.row.now in
    let o = a.out.now in
    ap (set o a.p)
    (step-read (unpredicted wrap32) _ _ _ _ _ _ _ _ (read_back _ c.unpredict.type_inv) c.unpredict.ensures
    (read_back (at l a.p) c.unpredict-arg-1.given)
    (read_back (at o a.a) c.unpredict-arg-2-1.given) (read_back (at o a.b) c.unpredict-arg-3-1.given))
