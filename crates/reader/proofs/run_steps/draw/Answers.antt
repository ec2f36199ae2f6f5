-- `reader::run_steps::draw` meets its contract: the row drawn and the place after it, or the reader ended. Assumes nothing.
use mathlib.Core.Path.{sym, refl, ◌∙◌}
use native.Mathlib.Nat.{le_trans, le_of_eq}
use native.Mathlib.Omega.{arith}
use Prim.Native.Nat.{◌+◌}
use Rattle.numbers.specs.Signal.{at}
use Rattle.filters.specs.Figures.{store_by}
use Rattle.level.proofs.WorkLaws.{told-no, told-yes}
use Rattle.reader.specs.State.{columns, needs}
use Rattle.reader.proofs.CallLaws.{zero-kept}
use Rattle.reader.proofs.RunPlaces.{own-kept, drawn-place, false-not-true}
use Rattle.reader.proofs.run_steps.draw.Goals as goal

pub work_due-requires : goal.work_due-requires
work_due-requires c = let p = c.requires in (p.0, p.1, p.2, p.4)

pub hand_out-requires : goal.hand_out-requires
hand_out-requires c =
    let p = c.requires in
    (p.0, p.3, le_trans p.4 (le_of_eq (sym c.work_due.auto.store)), p.6)

pub shape_of-store-then-work_due : goal.shape_of-store-then-work_due
shape_of-store-then-work_due c = c.work_due.auto.store

pub shape_of-out-then-work_due : goal.shape_of-out-then-work_due
shape_of-out-then-work_due c = c.hand_out.auto.out

pub returns-then-work_due : goal.returns-then-work_due
returns-then-work_due c =
    let s = c.args.s in
    let q = c.hand_out.ensures.place in
    record {
      passes = λ _. (
        told-yes c.work_due.result (at c.work_due.new.store) _ c.work_due.ensures.store_after c.if-work_due.true,
        drawn-place s c.hand_out.result q,
        c.hand_out.ensures.out_after,
      );
      ends = λ e. false-not-true q.ended e;
      own = own-kept s (s.drawn + 1) _ c.hand_out.result q;
    }

pub ending-requires : goal.ending-requires
ending-requires c =
    let p = c.requires in
    (p.0, le_trans p.5 (le_of_eq (sym c.work_due.auto.store)), p.1)

pub shape_of-store : goal.shape_of-store
shape_of-store c = c.ending.auto.store ∙ c.work_due.auto.store

pub returns : goal.returns
returns c =
    let a = c.args in
    let s = a.s in
    let x = at a.store.now in
    let y = at c.work_due.new.store in
    let q = c.ending.ensures.result_value in
    record {
      passes = λ e. false-not-true e q.1;
      ends = λ _. (
        told-no c.work_due.result y _ c.work_due.ensures.store_after c.if-work_due.false,
        q.0,
        zero-kept (store_by s.filter (columns s) s.levels) (needs s) x y _ (omega arith) c.work_due.ensures.kept c.ending.ensures.store_after,
        refl,
      );
      own = q.2;
    }
