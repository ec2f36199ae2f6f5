-- `reader::steps::spot_fed` meets its contract: another band of the set, or past the set. Assumes nothing.
use mathlib.Core.Path.{◌∙◌, ap}
use Prim.Native.Nat.{ℕ, ◌-◌}
use native.Mathlib.Omega.{arith}
use borrow.Author.Tests.{not-true, not-false}
use Rattle.reader_steps.specs.Places.{last_of_set}
use Rattle.reader.specs.State.{columns, rows}
use Rattle.reader.proofs.StepLaws.{spot_in, spot_of, beyond-is}
use Rattle.reader.proofs.WalkLaws.{is-spot, beyond-more, beyond-set}
use Rattle.reader.proofs.steps.spot_fed.Goals as goal

pub overflow_add-result : goal.overflow_add-result
overflow_add-result c = omega (arith, (spot_in _ _ c.requires.1.spot c.requires.2).1)

pub returns-then-not-complete : goal.returns-then-not-complete
returns-then-not-complete c =
    let s = c.args.s in
    let p = c.args.n.spot in
    let same = c.requires.1.set c.requires.2 in
    is-spot _ _
    (beyond-more _ (columns s) (rows s) s.levels (p.level - 1) p.set p.band p.level _
    (c.requires.3 ∙ ap (λ (n : ℕ). last_of_set (columns s) (rows s) s.levels (p.level - 1) n p.band) same) (omega arith) (not-true _ c.if-not-complete.true-raw)
    ∙ beyond-is s p c.requires.1.spot c.requires.2)

pub spot_past-requires : goal.spot_past-requires
spot_past-requires c = (c.requires.0, c.requires.1, c.requires.2)

pub returns : goal.returns
returns c =
    let s = c.args.s in
    let p = c.args.n.spot in
    let same = c.requires.1.set c.requires.2 in
    is-spot _ _
    (spot_of _ _ c.spot_past.ensures
    ∙ beyond-set _ (columns s) (rows s) s.levels (p.level - 1) p.set p.band _
    (c.requires.3 ∙ ap (λ (n : ℕ). last_of_set (columns s) (rows s) s.levels (p.level - 1) n p.band) same) (not-false _ c.if-not-complete.false-raw)
    ∙ beyond-is s p c.requires.1.spot c.requires.2)
