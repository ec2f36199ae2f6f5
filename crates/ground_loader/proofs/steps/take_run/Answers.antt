use mathlib.Core.Path.{◌≡◌, refl, sym, ap, ◌∙◌}
use native.Mathlib.Omega.{arith}
use lib.ListN.{length}
use Rattle.numbers.specs.Signal.{at}
use Rattle.std.proofs.Common.{Ok}
use Rattle.ground_loader.specs.Loader.{world_of, ran_answer}
use Rattle.ground_loader.specs.Local.{of_step}
use Rattle.ground_loader.proofs.RunLaws.{running-start, turn-sound, turn-areas, turn, goes-by, turn-stopped, run-over, stopping, told-passed}
use Rattle.ground_loader.proofs.steps.take_run.Goals as goal

pub loop-at-init : goal.loop-at-init
loop-at-init c = rw c.taken-next.ensures (running-start _ _ _ _ _ _ _ refl c.requires.0 c.requires.1)

pub take_byte-requires : goal.take_byte-requires
take_byte-requires c =
    let r = c.loop-at.invariant in
    let goes = goes-by c.loop-at.next.due _ _ c.if-next-ge3.false (omega arith) in
    let room = turn-areas r goes in
    (turn-sound r goes, (omega (arith, room.0, c.loop-at.auto.store), omega (arith, room.1, c.loop-at.auto.row)))

pub loop-at-preserved : goal.loop-at-preserved
loop-at-preserved c =
    let e = c.in-Ok.ensures in
    turn c.loop-at.invariant (goes-by c.loop-at.next.due _ _ c.if-next-ge3.false (omega arith)) (of_step c.loop-at.next.loader c.loop-at.next.due (Ok c.in-Ok.on))
    _ 1 _ _ _ refl c.loop-at.auto.store e.became e.onward refl

pub returns-then-next-ge3 : goal.returns-then-next-ge3
returns-then-next-ge3 c =
    let l = c.loop-at in
    let end = run-over l.invariant (λ h g. omega (arith, h, c.if-next-ge3.true)) in
    record {
      result_value = told-passed 0 l.at l.next.loader (λ e. omega arith) (λ h. absurd (omega arith)) (at l.store) (at l.row) ∙ ap ran_answer (sym end);
      store_after = ap (λ r. r.world.store) (sym end);
      row_after = ap (λ r. r.world.row) (sym end);
    }

pub returns-in-Err : goal.returns-in-Err
returns-in-Err c =
    let e = c.in-Err.ensures in
    let end = turn-stopped c.loop-at.invariant (goes-by c.loop-at.next.due _ _ c.if-next-ge3.false (omega arith)) c.in-Err.stop _ _ _ _ refl c.loop-at.auto.store e.became
    e.onward in
    record {
      result_value = c.stopped.ensures _ _ ∙ ap ran_answer (sym end);
      store_after = ap (λ r. r.world.store) (sym end);
      row_after = ap (λ r. r.world.row) (sym end);
    }

pub returns : goal.returns
returns c =
    let l = c.loop-at in
    let all : l.at ≡ length c.args.run.now = omega (arith, l.auto.at-end) in
    let end = run-over l.invariant (λ h g. omega (arith, g)) ∙ ap (λ k. stopping k 0 (world_of l.next.loader (at l.store) (at l.row))) all in
    record {
      result_value = told-passed 0 _ l.next.loader (λ e. omega arith) (λ h. absurd (omega arith)) (at l.store) (at l.row) ∙ ap ran_answer (sym end);
      store_after = ap (λ r. r.world.store) (sym end);
      row_after = ap (λ r. r.world.row) (sym end);
    }
