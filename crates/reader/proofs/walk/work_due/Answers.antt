use mathlib.Core.Path.{◌≡◌, ◌∙◌, refl, sym}
use Prim.Native.Nat.{◌-◌, ◌≤◌, ◌<◌, ◌+◌}
use native.Mathlib.Nat.{le_trans, le_of_eq}
use native.Mathlib.Omega.{arith}
use lib.ListN.{length}
use borrow.Author.Tests.{not-true, not-false}
use Rattle.numbers.specs.Signal.{at}
use Rattle.lifting.specs.Grid.{side}
use Rattle.filters.specs.Filters.{filter_of}
use Rattle.filters.specs.Figures.{store_by}
use Rattle.filters.proofs.FigureLaws.{levels-most}
use Rattle.level.specs.Rebuilding.{Kept}
use Rattle.level.proofs.WorkLaws.{told-no, told-yes}
use Rattle.level.proofs.KeptLaws.{kept-none, kept-both}
use Rattle.reader.specs.Admission.{Admits}
use Rattle.reader.specs.Machine.{settled}
use Rattle.reader.specs.Inside.{Small, IsLevel}
use Rattle.reader.proofs.WalkLaws.{step_down, none_left, work-due-none, work-due-failed, work-due-on}
use Rattle.reader.proofs.walk.work_due.Goals as goal

pub loop-k-init : goal.loop-k-init
loop-k-init c = let p = c.requires in (p.0, p.1, p.2, p.4, refl, p.3, refl, kept-none _ _, p.5)

pub work_at-requires : goal.work_at-requires
work_at-requires c =
    let l = c.loop-k in
    let inv = l.invariant in
    let down = step_down _ l.k _ c.loop-k-test.true inv.2 in
    (inv.0, inv.1, down.1, inv.5 down.0, le_trans inv.3 (le_of_eq (sym inv.4)), inv.8)

pub shape_of-store-then-not-work_at : goal.shape_of-store-then-not-work_at
shape_of-store-then-not-work_at c =
    c.work_at.auto.store ∙ c.loop-k.invariant.4

pub returns-then-not-work_at : goal.returns-then-not-work_at
returns-then-not-work_at c =
    let l = c.loop-k in
    let failed = told-no c.work_at.result
    (at c.work_at.new.store) _ c.work_at.ensures.store_after (not-true _ c.if-not-work_at.true-raw) in
    record { store_after = work-due-failed _ _ _ _ _ _ _ l.k l.m.set (at l.store) c.loop-k-test.true failed ∙ l.invariant.6; kept = kept-both _ _ _ _ l.invariant.7 c.work_at.ensures.kept }

pub finer-m-requires : goal.finer-m-requires
finer-m-requires c =
    let l = c.loop-k in
    let inv = l.invariant in
    let down = step_down _ l.k _ c.loop-k-test.true inv.2 in
    (inv.0, inv.5 down.0, c.if-k-gt0.true, omega (arith, down.2, inv.1, levels-most c.args.filter))

pub loop-k-preserved-then-k-gt0 : goal.loop-k-preserved-then-k-gt0
loop-k-preserved-then-k-gt0 c =
    let l = c.loop-k in
    let inv = l.invariant in
    let left = at c.work_at.new.store in
    let worked = told-yes c.work_at.result left _ c.work_at.ensures.store_after (not-false _ c.if-not-work_at.false-raw) in (
      inv.0,
      inv.1,
      (step_down _ l.k _ c.loop-k-test.true inv.2).2,
      inv.3,
      c.work_at.auto.store ∙ inv.4,
      λ _. c.finer-m.ensures.0,
      work-due-on _ _ _ _ _ _ _ l.k l.m.set c.finer-m.result.set (at l.store) _ c.loop-k-test.true
          (λ _. c.finer-m.ensures.1) worked ∙ inv.6,
      kept-both _ _ _ _ inv.7 c.work_at.ensures.kept,
      inv.8,
    )

pub loop-k-preserved : goal.loop-k-preserved
loop-k-preserved c =
    let l = c.loop-k in
    let inv = l.invariant in
    let left = at c.work_at.new.store in
    let worked = told-yes c.work_at.result left _ c.work_at.ensures.store_after (not-false _ c.if-not-work_at.false-raw) in (
      inv.0,
      inv.1,
      (step_down _ l.k _ c.loop-k-test.true inv.2).2,
      inv.3,
      c.work_at.auto.store ∙ inv.4,
      none_left _ c.if-k-gt0.false,
      work-due-on _ _ _ _ _ _ _ l.k l.m.set l.m.set (at l.store) _ c.loop-k-test.true (none_left _ c.if-k-gt0.false) worked ∙ inv.6,
      kept-both _ _ _ _ inv.7 c.work_at.ensures.kept,
      inv.8,
    )

pub shape_of-store : goal.shape_of-store
shape_of-store c = c.loop-k.invariant.4

pub returns : goal.returns
returns c = let l = c.loop-k in
    record { store_after = work-due-none _ _ _ _ _ _ _ l.k l.m.set (at l.store) c.loop-k-test.false ∙ l.invariant.6; kept = l.invariant.7 }
