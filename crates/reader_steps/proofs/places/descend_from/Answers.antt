use mathlib.Core.Path.{◌≡◌, refl, ap, ◌∙◌, sym}
use native.Mathlib.Omega.{arith}
use borrow.Author.Tests.{not-true, not-false}
use Rattle.reader_steps.specs.Places.{spot}
use Rattle.reader_steps.proofs.SetLaws.{down-opens}
use Rattle.reader_steps.proofs.EnterLaws.{down-end, down_out, down-alone, down-on}
use Rattle.reader_steps.proofs.places.descend_from.Goals as goal

pub loop-k-init : goal.loop-k-init
loop-k-init c = (λ _. refl, refl)

pub returns-then-not-goes_down : goal.returns-then-not-goes_down
returns-then-not-goes_down c =
    let l = c.loop-k in
    down_out _ _ _ _ _ _ _ _ _ _ l.invariant.1 c.loop-k-test.true
    (sym (down-opens _ _ _ _ _ _ c.sets_before-s.ensures (c.goes_down.ensures l.wx)) ∙ not-true _ c.if-not-goes_down.true-raw)

pub returns-then-s-hy : goal.returns-then-s-hy
returns-then-s-hy c =
    let l = c.loop-k in
    down-alone _ _ _ _ _ _ _ _ _ _ l.invariant.1 c.loop-k-test.true
    (sym (down-opens _ _ _ _ _ _ c.sets_before-s.ensures (c.goes_down.ensures l.wx)) ∙ not-false _ c.if-not-goes_down.false-raw)
    _ c.sets_before-s.ensures c.if-s-hy.true

pub loop-k-preserved : goal.loop-k-preserved
loop-k-preserved c =
    let l = c.loop-k in (
      λ e. absurd (omega arith),
      down-on _ _ _ _ _ _ _ _ _ _ l.invariant.1 c.loop-k-test.true
          (sym (down-opens _ _ _ _ _ _ c.sets_before-s.ensures (c.goes_down.ensures l.wx)) ∙ not-false _ c.if-not-goes_down.false-raw)
          _ c.sets_before-s.ensures (omega arith) _ _ _ _ _ (omega arith) c.low_count-w.ensures (c.next_start-wx.ensures l.w)
          c.low_count-h.ensures (c.next_start-hy.ensures l.h),
    )

pub returns-then-level-levels : goal.returns-then-level-levels
returns-then-level-levels c =
    let l = c.loop-k in
    let e : c.args.levels ≡ l.k = omega (arith, l.invariant.0) in
    ap (λ k. spot k l.m 0) e ∙ down-end _ _ _ _ _ _ _ _ _ _ l.invariant.1 (omega arith)

pub returns-else-level-levels : goal.returns-else-level-levels
returns-else-level-levels c =
    let l = c.loop-k in
    let e : c.args.level ≡ l.k = sym (l.invariant.0 (omega arith)) in
    ap (λ k. spot k l.m 0) e ∙ down-end _ _ _ _ _ _ _ _ _ _ l.invariant.1 (omega arith)
