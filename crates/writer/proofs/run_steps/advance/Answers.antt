-- `run_steps::advance` meets its contract: from the offset on, the next band of the set, or its LL row gone on. Assumes nothing.
use mathlib.Core.Path.{sym, ◌∙◌}
use native.Mathlib.Omega.{arith}
use Rattle.numbers.specs.Signal.{at}
use Rattle.level.proofs.RestLaws.{at_rest, at_join}
use Rattle.level.proofs.Places.{prev-is}
use Rattle.progress.proofs.WaitLaws.{seen-fits}
use Rattle.writer.proofs.DrawLaws.{advance-waits, advance-goes}
use borrow.Author.Rules.{rules}
use Rattle.writer.proofs.run_steps.advance.Goals as goal

pub returns-then-i-gt0 : goal.returns-then-i-gt0
returns-then-i-gt0 c =
    let a = c.args in
    advance-waits a.s a.q c.requires.1 c.requires.0.placed (at a.store.now) _ _ (c.minus.ensures ∙ sym (prev-is _))
    c.next_band-i.ensures (omega arith) (omega arith)

pub overflow_sub-below : goal.overflow_sub-below
overflow_sub-below c = omega (arith, c.requires.0.walk)

pub pass_on-r-requires : goal.pass_on-r-requires
pass_on-r-requires c =
    omega (arith, c.requires.1.room, c.requires.1.wide, c.requires.1.sets, c.requires.0.walk, c.requires.0.placed)

pub returns : goal.returns
returns c =
    let a = c.args in
    let l = a.store.now in
    let e = c.requires in
    advance-goes a.s a.q e.1 e.0.placed (at l) _ _ (c.minus.ensures ∙ sym (prev-is _)) c.next_band-i.ensures
    _ _ (at c.pass_on-r.new.store) _ e.0.walk (omega arith) (rw (at_rest a.s.offset l) at c.pass_on-r.ensures)
    (at_join a.s.offset l c.pass_on-r.new.store (omega (arith, e.1.room, e.0.placed))) (seen-fits _ _ _ c.seen_from.ensures)
