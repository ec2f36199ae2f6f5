-- `reader::runs::last_feed` meets its contract: turned away by 13 or 7, or fed. Assumes nothing.
use mathlib.Core.Path.{◌≡◌, sym, ap, subst, ◌∙◌}
use mathlib.Core.Bool.{false}
use Prim.Native.Nat.{◌+◌, ◌-◌, ◌≤◌, ◌<◌}
use native.Mathlib.Omega.{arith}
use lib.ListN.{length}
use borrow.Author.Tests.{not-true, not-false, le-leb}
use borrow.Rule.Slice.PartMut.{mid_of}
use Rattle.numbers.specs.Signal.{at}
use Rattle.numbers.proofs.Parts.{length-mid}
use Rattle.areas.proofs.AreaLaws.{did}
use Rattle.reader.specs.declared.Reader.{Reader}
use Rattle.reader.specs.declared.run_steps.Place.{Place}
use Rattle.std.specs.Prelude.{is_none}
use Rattle.reader.specs.RunSteps.{reader_at, Own, run_at, Turned, told}
use Rattle.reader.proofs.LastLaws.{store_in, last-in, room_in}
use Rattle.reader.proofs.RunLaws.{turn-stays, own-stays}
use Rattle.reader.proofs.RunLast.{last_empty, last-short, last-large, last-fed, place-moved}
use Rattle.reader.proofs.RunOver.{part-fits-at, part-front}
use Rattle.reader.proofs.runs.last_feed.Goals as goal

pub returns-then-s-eq0 : goal.returns-then-s-eq0
returns-then-s-eq0 c =
    let a = c.args in
    let s = a.s in
    let p = c.requires in
    let e = c.stays.ensures in
    record {
      by_index = λ k z wide.
          let u = last_empty (length a.store.now) (length a.run.now) (at a.run.now) k a.done s (at a.store.now) z p.0 p.1 p.2
          p.3 c.if-s-eq0.true in
          turn-stays (length a.store.now) (length a.run.now) (at a.run.now) k a.done s (at a.store.now) z a.p _ _ 0 _ _ e.0 e.1
          e.2 e.3 p.4 u.0 (λ _ _. u.1) p.6 wide;
      own = own-stays s a.p _ e.3 p.4 p.5;
    }

pub overflow_sub-run : goal.overflow_sub-run
overflow_sub-run c = c.requires.6

pub returns-then-run-a : goal.returns-then-run-a
returns-then-run-a c =
    let a = c.args in
    let s = a.s in
    let p = c.requires in
    let e = c.stays-then-run-a.ensures in
    record {
      by_index = λ k z wide.
          let u = last-short (length a.store.now) (length a.run.now) (at a.run.now) k a.done s (at a.store.now) z p.0 p.1 p.2
          p.3 c.if-run-a.true in
          turn-stays (length a.store.now) (length a.run.now) (at a.run.now) k a.done s (at a.store.now) z a.p _ _ _ _ _ e.0
          (e.1 ∙ c.where_some.ensures) e.2 e.3 p.4 u.0 (λ _ _. u.1) p.6 wide;
      own = own-stays s a.p _ e.3 p.4 p.5;
    }

pub run_fits-requires : goal.run_fits-requires
run_fits-requires c =
    (last-in c.args.s (store_in c.args.s _ c.requires.1).0).0

pub returns-then-not-run_fits : goal.returns-then-not-run_fits
returns-then-not-run_fits c =
    let a = c.args in
    let s = a.s in
    let p = c.requires in
    let e = c.stays-then-not-run_fits.ensures in
    let long : s.width ≤ length a.run.now - a.done.used = omega (arith, c.if-run-a.false) in
    let large = part-fits-at s.filter s.stop a.run.now a.done.used s.width (omega (arith, p.6)) _ c.run_fits.ensures in
    record {
      by_index = λ k z wide.
          let u = last-large (length a.store.now) (length a.run.now) (at a.run.now) k a.done s (at a.store.now) z p.0 p.1 p.2
          p.3 long (sym large ∙ not-true _ c.if-not-run_fits.true-raw) in
          turn-stays (length a.store.now) (length a.run.now) (at a.run.now) k a.done s (at a.store.now) z a.p _ _ _ _ _ e.0
          (e.1 ∙ c.where_some-then-not-run_fits.ensures) e.2 e.3 p.4 u.0 (λ _ _. u.1) p.6 wide;
      own = own-stays s a.p _ e.3 p.4 p.5;
    }

pub shape_of-store : goal.shape_of-store
shape_of-store c = c.copy.auto.to

pub returns : goal.returns
returns c =
    let a = c.args in
    let s = a.s in
    let p = c.requires in
    let g = c.goes.ensures in
    let n = length a.store.now in
    let m = length a.run.now in
    let x = at a.store.now in
    let y = at c.copy.new.to in
    let q = c.place_at.result in
    let long : s.width ≤ m - a.done.used = omega (arith, c.if-run-a.false) in
    let some : 0 < s.width = omega (arith, c.if-s-eq0.false) in
    let small = part-fits-at s.filter s.stop a.run.now a.done.used s.width (omega (arith, p.6)) _ c.run_fits.ensures in
    let k' = a.done.used + s.width - a.done.used in
    let size : k' ≡ s.width = omega arith in
    let part = mid_of a.done.used k' a.run.now in
    let size_of : length part ≡ k' = length-mid a.done.used k' a.run.now (omega (arith, p.6)) in
    let room = le-leb (length part) n (omega (arith, size_of, room_in s n p.1)) in
    let ey = did _ _ _ _ room c.copy.ensures.area ∙ part-front a.run.now a.done.used s.width x (omega (arith, p.6)) in
    let es = place-moved s c.moved.result q s.drawn 4 c.moved.ensures c.place_at.ensures.0 in
    let alive : q.ended ≡ false = ap (λ (t : Reader). t.ended) es in
    let flat : q.level ≡ 0 = ap (λ (t : Reader). t.level) es in
    let d = g.3 alive in
    record {
      by_index = λ k z wide.
          subst (λ (o : Place). Turned n m (at a.run.now) k (run_at a.done s x z) (run_at c.goes.result.done (reader_at s o) y z)
          (is_none c.goes.result.over) (told c.goes.result.over)) (sym g.1)
          (last-fed n m (at a.run.now) k a.done s x z p.0 p.1 p.2 p.3 long (sym small ∙ not-false _ c.if-not-run_fits.false-raw) some wide p.6 y q
          c.goes.result.done (is_none c.goes.result.over) (told c.goes.result.over) g.0 ey es d.0 d.1);
      own = subst (λ (o : Place). Own (reader_at s o) o.at) (sym g.1) (λ h. absurd (omega (arith, flat, h)));
    }
