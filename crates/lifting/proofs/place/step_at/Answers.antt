-- `lifting::place::step_at` meets its contract: what is read and stored are 32-bit numbers read back. Assumes nothing.
use Rattle.std.proofs.Common.{ap, set}
use Rattle.numbers.specs.Signal.{at}
use Rattle.numbers.proofs.Words.{read_back}
use Rattle.lifting.proofs.PlaceLaws.{step-read}
use Rattle.lifting.proofs.place.step_at.Goals as goal

pub returns : goal.returns
returns g c =
    let a = c.args in
    let l = a.area.now in
    ap (set l a.p)
    (step-read g.S.Step.op _ _ _ _ _ _ _ _ (read_back _ c.step.type_inv) c.step.ensures
    (read_back (at l a.p) c.step-arg-1.given)
    (read_back (at l a.a) c.step-arg-2-1.given) (read_back (at l a.b) c.step-arg-3-1.given))
