-- `reader::run_steps::spot_past` meets its contract: where the next set begins, or the finer level that waits. Assumes nothing.
use mathlib.Core.Path.{◌∙◌, ap, sym}
use Prim.Native.Nat.{◌+◌, ◌-◌}
use native.Mathlib.Omega.{arith}
use borrow.Author.Tests.{not-true, not-false}
use Rattle.lifting.specs.Grid.{Side}
use Rattle.reader_steps.specs.Sets.{makes}
use Rattle.reader.specs.State.{columns, rows}
use Rattle.reader.proofs.PartLaws.{level-high}
use Rattle.reader.proofs.QuestionLaws.{counts-small}
use Rattle.reader.proofs.StepLaws.{spot_in, spot_of, begins-at, past-begin, past_top, past-finer}
use Rattle.reader.proofs.WalkLaws.{is-spot}
use Rattle.reader.proofs.run_steps.spot_past.Goals as goal

pub overflow_sub-k : goal.overflow_sub-k
overflow_sub-k c = omega arith

pub overflow_add-n : goal.overflow_add-n
overflow_add-n c = omega (arith, (c.requires.1.at c.requires.2).set)

pub returns-then-not-is_making : goal.returns-then-not-is_making
returns-then-not-is_making c =
    let s = c.args.s in
    let n = c.args.n in
    let at = c.requires.1.at c.requires.2 in
    let none = sym (ap (λ (S : Side). makes s.filter S n.at.set) (level-high _ _ _ _ _ n.at at)) ∙ sym c.is_making.ensures
    ∙ not-true _ c.if-not-is_making.true-raw in
    is-spot _ _
    (spot_of _ _ c.begin.ensures
    ∙ begins-at s.filter (columns s) (rows s) s.levels s.drawn n.spot.level (n.at.set + 1) n.at c.requires.2 at
    ∙ past-begin s.filter (columns s) (rows s) s.levels n.spot.level n.at.set n.spot.set c.requires.2
    (c.requires.1.set c.requires.2) none)

pub returns-then-k-eq0 : goal.returns-then-k-eq0
returns-then-k-eq0 c =
    let s = c.args.s in
    let n = c.args.n in
    let at = c.requires.1.at c.requires.2 in
    let high = level-high _ _ _ _ _ n.at at in
    let some = sym (ap (λ (S : Side). makes s.filter S n.at.set) high) ∙ sym c.is_making.ensures ∙ not-false _ c.if-not-is_making.false-raw in
    is-spot _ _
    (past_top s.filter (columns s) (rows s) s.levels n.spot.level n.at.set n.spot.set _ n.at (omega arith) c.requires.2
    (c.requires.1.set c.requires.2) high c.first_row-r.ensures some)

pub finer-m-requires : goal.finer-m-requires
finer-m-requires c =
    let s = c.args.s in
    let counts = c.requires.0 in
    let near = spot_in _ _ c.requires.1.spot c.requires.2 in
    (counts-small s counts, c.requires.1.at c.requires.2, omega arith, omega (arith, near.0, counts.at, counts.few))

pub returns : goal.returns
returns c =
    let s = c.args.s in
    let n = c.args.n in
    let at = c.requires.1.at c.requires.2 in
    let high = level-high _ _ _ _ _ n.at at in
    let some = sym (ap (λ (S : Side). makes s.filter S n.at.set) high) ∙ sym c.is_making.ensures ∙ not-false _ c.if-not-is_making.false-raw in
    is-spot _ _
    (past-finer s.filter (columns s) (rows s) s.levels (n.spot.level - 1) n.at.set n.spot.set _ (c.requires.1.set c.requires.2)
    c.finer-m.ensures.1 some)
