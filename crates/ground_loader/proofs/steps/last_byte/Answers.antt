-- `steps::last_byte` meets its contract: 7 before anything is changed, then the row is fed. Assumes nothing.
use mathlib.Core.Path.{◌≡◌, refl, sym, ap, subst, ◌∙◌}
use native.Mathlib.Omega.{arith}
use Prim.Native.Nat.{ℕ, ◌≤◌}
use native.Mathlib.Nat.{le_trans}
use lib.ListN.{length, take}
use borrow.Author.Tests.{not-true, not-false}
use Rattle.numbers.specs.Signal.{at, windowed}
use Rattle.numbers.proofs.Words.{read_back}
use Rattle.reader.specs.Answers.{refused}
use Rattle.reader.specs.Questions.{run_fits}
use Rattle.reader.specs.Reading.{feed_question, feed_reply}
use Rattle.ground_loader.specs.Local.{of_step}
use Rattle.ground_loader.specs.Loader.{world_of, row_over}
use Rattle.ground_loader.proofs.ReaderLaws.{row-half, row-deep, feed-seven, feed-on}
use Rattle.ground_loader.proofs.DueLaws.{in_row}
use Rattle.ground_loader.proofs.RangeLaws.{pos-abs, range-is, seven_is, over-put, front-is, take_long}
use Rattle.ground_loader.proofs.StepLaws.{row-seven, row-fed-by}
use Rattle.ground_loader.proofs.Clauses.{became-onward}
use Rattle.ground_loader.proofs.steps.last_byte.Goals as goal

pub all_within-requires : goal.all_within-requires
all_within-requires c =
    let p = c.requires in
    let r = c.range_of-most in (
      (p.0.comes p.1).standing,
      le_trans (row-half (in_row c.args.l c.args.d p.0 p.1)) p.2.1,
      pos-abs _ _ (read_back r.result r.type_inv ∙ r.ensures),
      p.4,
    )

pub returns-then-not-all_within : goal.returns-then-not-all_within
returns-then-not-all_within c =
    let p = c.requires in
    let g = c.args in
    let d = g.d in
    let r = c.range_of-most in
    let x = at g.store.now in
    let y = at g.row.now in
    let n = length g.store.now in
    let one : g.l.step ≡ 1 = omega (arith, p.0.step.0, p.0.step.1) in
    let due = in_row g.l d p.0 p.1 in
    let most = range-is g.l.reader.filter d.level _ (row-deep due) (read_back r.result r.type_inv ∙ r.ensures) in
    let off = sym (seven_is g.l x y n g.byte d.band d.count one g.l.reader.filter d.level _ most) ∙ sym
    c.all_within.ensures
    ∙ not-true _ c.if-not-all_within.true-raw in
    became-onward (row-seven g.l x y n g.byte d.band d.count d _ p.0 p.3 p.4
    (feed-seven due p.0.stop.0 n p.2.0 x (windowed 0 d.count (row_over (world_of g.l x y) n g.byte d.band d.count)) off)
    refl)

pub put_byte-requires : goal.put_byte-requires
put_byte-requires c =
    let p = c.requires in
    ((p.0.comes p.1).standing, le_trans (row-half (in_row c.args.l c.args.d p.0 p.1)) p.2.1)

pub slice_bounds-feed-end : goal.slice_bounds-feed-end
slice_bounds-feed-end c =
    let p = c.requires in
    omega (arith, row-half (in_row c.args.l c.args.d p.0 p.1), p.2.1, c.put_byte.auto.row)

pub slice_bounds-feed-end-2 : goal.slice_bounds-feed-end-2
slice_bounds-feed-end-2 c = take_long _ _ (slice_bounds-feed-end c)

pub feed-requires : goal.feed-requires
feed-requires c =
    let p = c.requires in
    let g = c.args in
    let d = g.d in
    let m = d.count in
    let r = c.range_of-most in
    let x = at g.store.now in
    let y = at g.row.now in
    let n = length g.store.now in
    let one : g.l.step ≡ 1 = omega (arith, p.0.step.0, p.0.step.1) in
    let due = in_row g.l d p.0 p.1 in
    let most = range-is g.l.reader.filter d.level _ (row-deep due) (read_back r.result r.type_inv ∙ r.ensures) in
    let fits = sym (seven_is g.l x y n g.byte d.band m one g.l.reader.filter d.level _ most) ∙ sym
    c.all_within.ensures
    ∙ not-false _ c.if-not-all_within.false-raw in
    let came = c.put_byte.ensures ∙ sym (over-put g.l x y n g.byte d.band m one) in
    let fed = front-is m _ ∙ ap (windowed 0 m) came in
    let row_in : m ≤ length c.put_byte.new.row = omega (arith, row-half due, p.2.1, c.put_byte.auto.row) in (
      p.0,
      p.1,
      subst (λ (k : ℕ). (q : ℕ) → feed_reply g.l.reader (feed_question g.l.reader n x k (at (take m c.put_byte.new.row))) ≡ refused q → ⊥)
          (take_long _ _ row_in)
          (feed-on due p.0.stop.0 n p.2.0 x _ (ap (run_fits g.l.reader.filter d.level m) fed ∙ fits)),
    )

pub returns : goal.returns
returns c =
    let p = c.requires in
    let g = c.args in
    let d = g.d in
    let m = d.count in
    let r = c.range_of-most in
    let f = c.feed in
    let put = c.put_byte.ensures in
    let x = at g.store.now in
    let y = at g.row.now in
    let n = length g.store.now in
    let one : g.l.step ≡ 1 = omega (arith, p.0.step.0, p.0.step.1) in
    let due = in_row g.l d p.0 p.1 in
    let most = range-is g.l.reader.filter d.level _ (row-deep due) (read_back r.result r.type_inv ∙ r.ensures) in
    let fits = sym (seven_is g.l x y n g.byte d.band m one g.l.reader.filter d.level _ most) ∙ sym
    c.all_within.ensures
    ∙ not-false _ c.if-not-all_within.false-raw in
    let came = put ∙ sym (over-put g.l x y n g.byte d.band m one) in
    let fed = front-is m _ ∙ ap (windowed 0 m) came in
    let row_in : m ≤ length c.put_byte.new.row = omega (arith, row-half due, p.2.1, c.put_byte.auto.row) in
    record {
      became = row-fed-by g.l x y n g.byte d.band m (of_step g.l d f.result) _ _ _ _ (sym (take_long _ _ row_in)) p.3 p.4 fed came f.ensures.store_after f.ensures.fed_step;
      onward = f.ensures.onward;
    }
