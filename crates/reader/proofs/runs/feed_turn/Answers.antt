-- `reader::runs::feed_turn` meets its contract: turned away by 13 or 7, or fed. Assumes nothing.
use mathlib.Core.Path.{◌≡◌, sym, ap, subst, ◌∙◌}
use Prim.Native.Nat.{ℕ, ◌+◌, ◌-◌, ◌≤◌, ◌<◌}
use native.Mathlib.Omega.{arith}
use lib.IntN.{ℤ}
use lib.ListN.{length}
use borrow.Author.Tests.{not-true, not-false}
use Rattle.numbers.specs.Signal.{at, windowed}
use Rattle.numbers.proofs.Parts.{length-mid, at_mid}
use Rattle.reader.specs.State.{next_length}
use Rattle.reader.specs.State as state
use Rattle.reader.specs.declared.run_steps.Place.{Place}
use Rattle.std.specs.Prelude.{is_none}
use Rattle.reader.specs.RunSteps.{reader_at, Own, run_at, FedTo, Turned, told}
use Rattle.reader.proofs.QuestionLaws.{counts-in}
use Rattle.reader.proofs.StepLaws.{level-fits, near}
use Rattle.reader.proofs.RunLaws.{turn-stays, own-stays, row-empty, row-short, row-large, fed-turn}
use Rattle.reader.proofs.RunOver.{part-fits, own_room}
use Rattle.reader.proofs.runs.feed_turn.Goals as goal

pub row_length-length-requires : goal.row_length-length-requires
row_length-length-requires c = (c.requires.6, c.requires.7)

pub returns-then-length-eq0 : goal.returns-then-length-eq0
returns-then-length-eq0 c =
    let a = c.args in
    let s = a.s in
    let p = c.requires in
    let e = c.stays.ensures in
    let some = (counts-in s p.0).deep.0 in
    let wanted : 0 < (state.next s).level = omega (arith, p.6.spot.level, p.7) in
    record {
      by_index = λ k z wide.
          let u = row-empty (length a.store.now) (length a.run.now) (at a.run.now) k a.done s (at a.store.now) z some p.0 p.1 p.2
          p.3 wanted (sym c.row_length-length.ensures ∙ c.if-length-eq0.true) in
          turn-stays (length a.store.now) (length a.run.now) (at a.run.now) k a.done s (at a.store.now) z a.p _ _ 0 _ _ e.0 e.1
          e.2 e.3 p.4 u.0 (λ _ _. u.1) p.8 wide;
      own = own-stays s a.p _ e.3 p.4 p.5;
    }

pub overflow_sub-run : goal.overflow_sub-run
overflow_sub-run c = c.requires.8

pub returns-then-run-a : goal.returns-then-run-a
returns-then-run-a c =
    let a = c.args in
    let s = a.s in
    let p = c.requires in
    let e = c.stays-then-run-a.ensures in
    let some = (counts-in s p.0).deep.0 in
    let wanted : 0 < (state.next s).level = omega (arith, p.6.spot.level, p.7) in
    record {
      by_index = λ k z wide.
          let u = row-short (length a.store.now) (length a.run.now) (at a.run.now) k a.done s (at a.store.now) z some p.0 p.1 p.2
          p.3 wanted (omega (arith, c.if-run-a.true, c.row_length-length.ensures)) in
          turn-stays (length a.store.now) (length a.run.now) (at a.run.now) k a.done s (at a.store.now) z a.p _ _ _ _ _ e.0
          (e.1 ∙ c.where_some.ensures) e.2 e.3 p.4 u.0 (λ _ _. u.1) p.8 wide;
      own = own-stays s a.p _ e.3 p.4 p.5;
    }

pub slice_bounds-run_fits-end : goal.slice_bounds-run_fits-end
slice_bounds-run_fits-end c = omega arith

pub overflow_add-s : goal.overflow_add-s
overflow_add-s c =
    level-fits c.args.s c.args.n.spot (counts-in _ c.requires.0) c.requires.6.spot

pub run_fits-requires : goal.run_fits-requires
run_fits-requires c =
    let counts = counts-in c.args.s c.requires.0 in
    omega (arith, c.requires.6.spot.level, (near c.args.s).within, counts.at, counts.stops)

pub returns-then-not-run_fits : goal.returns-then-not-run_fits
returns-then-not-run_fits c =
    let a = c.args in
    let s = a.s in
    let p = c.requires in
    let e = c.stays-then-not-run_fits.ensures in
    let some = (counts-in s p.0).deep.0 in
    let wanted : 0 < (state.next s).level = omega (arith, p.6.spot.level, p.7) in
    let long : next_length s ≤ length a.run.now - a.done.used = omega (arith, c.if-run-a.false, c.row_length-length.ensures) in
    let large = part-fits s.filter s.stop a.n.spot.level (state.next s).level a.run.now a.done.used c.row_length-length.result (next_length s)
    p.6.spot.level c.row_length-length.ensures (omega (arith, p.8)) _ c.run_fits.ensures in
    record {
      by_index = λ k z wide.
          let u = row-large (length a.store.now) (length a.run.now) (at a.run.now) k a.done s (at a.store.now) z some p.0 p.1 p.2
          p.3 wanted long (sym large ∙ not-true _ c.if-not-run_fits.true-raw) in
          turn-stays (length a.store.now) (length a.run.now) (at a.run.now) k a.done s (at a.store.now) z a.p _ _ _ _ _ e.0
          (e.1 ∙ c.where_some-then-not-run_fits.ensures) e.2 e.3 p.4 u.0 (λ _ _. u.1) p.8 wide;
      own = own-stays s a.p _ e.3 p.4 p.5;
    }

pub slice_bounds-feed-end : goal.slice_bounds-feed-end
slice_bounds-feed-end c = omega arith

pub feed-q-requires : goal.feed-q-requires
feed-q-requires c =
    let a = c.args in
    let p = c.requires in
    let counts = counts-in a.s p.0 in
    let j = a.done.used + c.row_length-length.result - a.done.used in
    let count : j ≡ next_length a.s = omega (arith, c.row_length-length.ensures) in (
      counts,
      p.5,
      p.6,
      p.7,
      own_room a.s _ p.1,
      p.1,
      length-mid a.done.used j a.run.now (omega (arith, p.8, c.if-run-a.false)) ∙ count,
    )

pub shape_of-store : goal.shape_of-store
shape_of-store c = c.feed-q.auto.store

pub returns : goal.returns
returns c =
    let a = c.args in
    let s = a.s in
    let p = c.requires in
    let g = c.goes.ensures in
    let some = (counts-in s p.0).deep.0 in
    let wanted : 0 < (state.next s).level = omega (arith, p.6.spot.level, p.7) in
    let len = c.row_length-length.ensures in
    let long : next_length s ≤ length a.run.now - a.done.used = omega (arith, c.if-run-a.false, len) in
    let nonempty : 0 < next_length s = omega (arith, c.if-length-eq0.false, len) in
    let small = part-fits s.filter s.stop a.n.spot.level (state.next s).level a.run.now a.done.used c.row_length-length.result (next_length s)
    p.6.spot.level len (omega (arith, p.8)) _ c.run_fits.ensures in
    let count : a.done.used + c.row_length-length.result - a.done.used ≡ next_length s = omega (arith, len) in
    let w = at_mid a.done.used (a.done.used + c.row_length-length.result - a.done.used) a.run.now
    ∙ ap (λ (i : ℕ). windowed a.done.used i (at a.run.now)) count in
    let x = at a.store.now in
    let y = at c.feed-q.new.store in
    let q = c.feed-q.result in
    let f = subst (λ (u : ℕ → ℤ). FedTo s u x y q) w c.feed-q.ensures in
    record {
      by_index = λ k z wide.
          subst (λ (o : Place). Turned (length a.store.now) (length a.run.now) (at a.run.now) k (run_at a.done s x z)
          (run_at c.goes.result.done (reader_at s o) y z) (is_none c.goes.result.over) (told c.goes.result.over)) (sym g.1)
          (fed-turn (length a.store.now) (length a.run.now) (at a.run.now) k a.done s x z some p.0 p.1 p.2 p.3 wanted long
          nonempty (sym small ∙ not-false _ c.if-not-run_fits.false-raw) wide p.8 y q f c.goes.result.done (is_none c.goes.result.over) (told c.goes.result.over) g.0
          g.2 (λ e. ((g.3 e).0 ∙ ap (λ i. a.done.used + i) len, (g.3 e).1)));
      own = subst (λ (o : Place). Own (reader_at s o) o.at) (sym g.1) f.own;
    }
