-- `reader::runs::last_draw` meets its contract: turned away by 12, or drawn. Assumes nothing.
use mathlib.Core.Path.{◌≡◌, sym, ap, subst, ◌∙◌}
use mathlib.Core.Bool.{false}
use Prim.Native.Nat.{ℕ, ◌+◌, ◌-◌, ◌*◌, ◌<◌}
use native.Mathlib.Omega.{arith}
use lib.IntN.{ℤ}
use lib.ListN.{length}
use borrow.Rule.Slice.PartMut.{mid_of, put_mid}
use Rattle.numbers.specs.Signal.{at}
use Rattle.numbers.proofs.Parts.{length-mid}
use Rattle.areas.specs.Areas.{heights_at}
use Rattle.lifting.specs.Halves.{fronted}
use Rattle.reader.specs.declared.Reader.{Reader}
use Rattle.reader.specs.declared.run_steps.Place.{Place}
use Rattle.reader.specs.Limited.{limited}
use Rattle.std.specs.Prelude.{is_none}
use Rattle.reader.specs.RunSteps.{reader_at, Own, run_at, Turned, told}
use Rattle.reader.proofs.LastLaws.{room_in, front-limited}
use Rattle.reader.proofs.RunLaws.{turn-stays, own-stays, rows_few}
use Rattle.reader.proofs.RunLast.{last-narrow, last-wide, last-drew, place-moved}
use Rattle.reader.proofs.RunOver.{heights-rest, heights-join, rest-length}
use Rattle.reader.proofs.runs.last_draw.Goals as goal

pub returns-then-w-eq0 : goal.returns-then-w-eq0
returns-then-w-eq0 c =
    let a = c.args in
    let s = a.s in
    let p = c.requires in
    let e = c.stays.ensures in
    let fed : s.band ≡ 0 → ⊥ = λ h. omega (arith, p.3) in
    record {
      by_index = λ m v within.
          let u = last-narrow (length a.store.now) m v (length a.out.now) a.done s (at a.store.now) (heights_at a.out.now) p.0 p.1
          p.2 fed c.if-w-eq0.true in
          turn-stays (length a.store.now) m v (length a.out.now) a.done s (at a.store.now) (heights_at a.out.now) a.p _ _ 0 _ _ e.0
          e.1 e.2 e.3 p.4 u.0 (λ _ _. u.1) within p.6;
      own = own-stays s a.p _ e.3 p.4 p.5;
    }

pub overflow_mul-a : goal.overflow_mul-a
overflow_mul-a c = omega (arith, c.requires.6, c.well_formed.1.1.1.0.1)

pub overflow_sub-out : goal.overflow_sub-out
overflow_sub-out c = c.requires.6

pub returns-then-out-a : goal.returns-then-out-a
returns-then-out-a c =
    let a = c.args in
    let s = a.s in
    let p = c.requires in
    let e = c.stays-then-out-a.ensures in
    let fed : s.band ≡ 0 → ⊥ = λ h. omega (arith, p.3) in
    record {
      by_index = λ m v within.
          let u = last-wide (length a.store.now) m v (length a.out.now) a.done s (at a.store.now) (heights_at a.out.now) p.0 p.1 p.2
          fed c.if-out-a.true in
          turn-stays (length a.store.now) m v (length a.out.now) a.done s (at a.store.now) (heights_at a.out.now) a.p _ _ 12 _ _ e.0
          e.1 e.2 e.3 p.4 u.0 (λ _ _. u.1) within p.6;
      own = own-stays s a.p _ e.3 p.4 p.5;
    }

pub slice_bounds-limit_row-end : goal.slice_bounds-limit_row-end
slice_bounds-limit_row-end c = room_in c.args.s _ c.requires.1

pub offset_bounds-out-a : goal.offset_bounds-out-a
offset_bounds-out-a c = omega (arith, c.requires.6, c.well_formed.1.1.1.0.1)

pub slice_bounds-limit_row-count-2 : goal.slice_bounds-limit_row-count-2
slice_bounds-limit_row-count-2 c = c.requires.6

pub slice_bounds-limit_row-start-2 : goal.slice_bounds-limit_row-start-2
slice_bounds-limit_row-start-2 c = c.requires.6

pub limit_row-requires : goal.limit_row-requires
limit_row-requires c =
    let a = c.args in
    let p = c.requires in
    let w = a.s.width in
    let room = room_in a.s _ p.1 in
    omega (arith, length-mid 0 (w - 0) a.store.now (omega (arith, room)), rest-length (a.done.rows * w) a.out.now p.6, c.if-out-a.false)

pub overflow_add-done : goal.overflow_add-done
overflow_add-done c =
    let few = rows_few c.args.done.rows c.args.s.width (omega (arith, c.if-w-eq0.false)) in
    omega (arith, few, c.requires.6, c.if-out-a.false, c.well_formed.1.1.1.0.1)

pub returns : goal.returns
returns c =
    let a = c.args in
    let s = a.s in
    let p = c.requires in
    let g = c.goes.ensures in
    let n = length a.store.now in
    let k = length a.out.now in
    let x = at a.store.now in
    let z = heights_at a.out.now in
    let from = a.done.rows * s.width in
    let part = c.limit_row.new.out in
    let q = c.place_at.result in
    let fed : s.band ≡ 0 → ⊥ = λ h. omega (arith, p.3) in
    let some : 0 < s.width = omega (arith, c.if-w-eq0.false) in
    let ez = c.limit_row.ensures ∙ front-limited s.width a.store.now (heights_at (mid_of from (k - from) a.out.now)) (room_in s n p.1)
    ∙ ap (λ (u : ℕ → ℤ). fronted s.width (λ i. limited (x i)) u) (heights-rest from a.out.now) in
    let after = heights-join from a.out.now part p.6 in
    let es = place-moved s c.moved.result q (s.drawn + 1) 0 c.moved.ensures c.place_at.ensures.0 in
    let alive : q.ended ≡ false = ap (λ (t : Reader). t.ended) es in
    let flat : q.level ≡ 0 = ap (λ (t : Reader). t.level) es in
    let d = g.3 alive in
    record {
      by_index = λ m v within.
          subst (λ (o : Place). Turned n m v k (run_at a.done s x z) (run_at c.goes.result.done (reader_at s o) x (heights_at (put_mid from (k - from)
          a.out.now part))) (is_none c.goes.result.over) (told c.goes.result.over)) (sym g.1)
          (last-drew n m v k a.done s x z p.0 p.1 p.2 fed some (omega (arith, c.if-out-a.false)) p.6 within (heights_at part) _ q
          c.goes.result.done (is_none c.goes.result.over) (told c.goes.result.over) g.0 ez after es d.0 d.1);
      own = subst (λ (o : Place). Own (reader_at s o) o.at) (sym g.1) (λ h. absurd (omega (arith, flat, h)));
    }
