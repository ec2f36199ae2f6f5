use native.Mathlib.Omega.{arith}
use borrow.Author.Tests.{not-false}
use mathlib.Core.Path.{refl, sym, ◌∙◌}
use Rattle.rounds.proofs.RoundLaws.{looped-start, looped-then}
use Rattle.rounds.proofs.run.all_rounds.Goals as goal

pub loop-init : goal.loop-init
loop-init g c = (looped-start _ _ _ _ c.start-last.ensures, refl, refl)

pub loop-preserved : goal.loop-preserved
loop-preserved g c =
    let i = c.loop.invariant in
    let k = c.one_round-last.auto in
    (looped-then (omega arith) i.2 (sym c.continues.ensures ∙ not-false _ c.if-not-continues.false-raw) i.0 c.one_round-last.ensures, k.chunk ∙ i.1, k.out ∙ i.2)
