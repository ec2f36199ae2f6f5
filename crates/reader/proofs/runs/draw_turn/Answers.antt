-- `reader::runs::draw_turn` meets its contract: turned away by 12, or drawn. Assumes nothing.
use mathlib.Core.Path.{sym, subst}
use Prim.Native.Nat.{ℕ, ◌-◌, ◌*◌}
use native.Mathlib.Omega.{arith}
use lib.IntN.{ℤ}
use lib.ListN.{length}
use borrow.Rule.Slice.PartMut.{put_mid}
use Rattle.numbers.specs.Signal.{at}
use Rattle.areas.specs.Areas.{heights_at}
use Rattle.reader.specs.declared.run_steps.Place.{Place}
use Rattle.std.specs.Prelude.{is_none}
use Rattle.reader.specs.RunSteps.{reader_at, Own, run_at, DrawnTo, Turned, told}
use Rattle.reader.proofs.QuestionLaws.{counts-in}
use Rattle.reader.proofs.RunLaws.{turn-stays, own-stays, row-wide, drew-turn, rows_few}
use Rattle.reader.proofs.RunOver.{own_room, heights-rest, heights-join, rest-length}
use Rattle.reader.proofs.runs.draw_turn.Goals as goal

pub overflow_mul-a : goal.overflow_mul-a
overflow_mul-a c = omega (arith, c.requires.7, c.well_formed.1.1.1.0.1)

pub overflow_sub-out : goal.overflow_sub-out
overflow_sub-out c = c.requires.7

pub returns-then-out-a : goal.returns-then-out-a
returns-then-out-a c =
    let a = c.args in
    let s = a.s in
    let p = c.requires in
    let e = c.stays.ensures in
    let some = (counts-in s p.0).deep.0 in
    record {
      by_index = λ m v within.
          let u = row-wide (length a.store.now) m v (length a.out.now) a.done s (at a.store.now) (heights_at a.out.now) some p.0 p.1
          p.2 p.3 (sym p.6) c.if-out-a.true in
          turn-stays (length a.store.now) m v (length a.out.now) a.done s (at a.store.now) (heights_at a.out.now) a.p _ _ 12 _ _ e.0
          e.1 e.2 e.3 p.4 u.0 (λ _ _. u.1) within p.7;
      own = own-stays s a.p _ e.3 p.4 p.5;
    }

pub offset_bounds-out-a : goal.offset_bounds-out-a
offset_bounds-out-a c = omega (arith, c.requires.7, c.well_formed.1.1.1.0.1)

pub slice_bounds-draw-count : goal.slice_bounds-draw-count
slice_bounds-draw-count c = c.requires.7

pub slice_bounds-draw-start : goal.slice_bounds-draw-start
slice_bounds-draw-start c = c.requires.7

pub draw-q-requires : goal.draw-q-requires
draw-q-requires c =
    let a = c.args in
    let p = c.requires in
    let long = rest-length (a.done.rows * a.s.width) a.out.now p.7 in (
      counts-in a.s p.0,
      p.5,
      p.6,
      p.3,
      own_room a.s _ p.1,
      p.1,
      omega (arith, long, c.if-out-a.false),
    )

pub overflow_add-done : goal.overflow_add-done
overflow_add-done c =
    let p = c.requires in
    let few = rows_few c.args.done.rows c.args.s.width (counts-in _ p.0).wide.0 in
    omega (arith, few, p.7, c.if-out-a.false, c.well_formed.1.1.1.0.1)

pub shape_of-store : goal.shape_of-store
shape_of-store c = c.draw-q.auto.store

pub returns : goal.returns
returns c =
    let a = c.args in
    let s = a.s in
    let p = c.requires in
    let g = c.goes.ensures in
    let some = (counts-in s p.0).deep.0 in
    let from = a.done.rows * s.width in
    let n = length a.store.now in
    let k = length a.out.now in
    let x = at a.store.now in
    let z = heights_at a.out.now in
    let y = at c.draw-q.new.store in
    let part = c.draw-q.new.out in
    let q = c.draw-q.result in
    let f = subst (λ (u : ℕ → ℤ). DrawnTo s x y u (heights_at part) q) (heights-rest from a.out.now) c.draw-q.ensures in
    let after = heights-join from a.out.now part p.7 in
    record {
      by_index = λ m v within.
          subst (λ (o : Place). Turned n m v k (run_at a.done s x z) (run_at c.goes.result.done (reader_at s o) y (heights_at (put_mid from (k - from)
          a.out.now part))) (is_none c.goes.result.over) (told c.goes.result.over)) (sym g.1)
          (drew-turn n m v k a.done s x z some p.0 p.1 p.2 p.3 (sym p.6) (omega (arith, c.if-out-a.false)) p.7 within y (heights_at part) _ q f
          after c.goes.result.done (is_none c.goes.result.over) (told c.goes.result.over) g.0 g.2 g.3);
      own = subst (λ (o : Place). Own (reader_at s o) o.at) (sym g.1) f.own;
    }
