-- The step of `LiftAndCopy` meets its contract: another store, of the number that `lift_at` answers. Assumes nothing.
use Rattle.std.proofs.Common.{ap, ◌∙◌, ℤ, arith}
use Rattle.numbers.specs.Signal.{at, stored}
use Rattle.numbers.proofs.Words.{read_back}
use Rattle.numbers.proofs.Stores.{at_stored}
use Rattle.lifting.specs.Pairs.{first, changed_at}
use Rattle.lifting.proofs.pairs.LiftAndCopyPairStep.lift.Goals as goal

pub returns : goal.returns
returns c =
    let k = c.lift_at-d in
    let p = c.args.p in
    let m = k.new.area in
    at_stored m p.before _ (omega arith)
    ∙ ap (λ (v : ℤ). stored p.before v (at m)) (read_back k.result k.type_inv ∙ k.ensures.value)
    ∙ ap (changed_at first p.before p.high p.high) k.ensures.area_after
