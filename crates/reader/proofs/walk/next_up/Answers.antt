use mathlib.Core.Path.{◌≡◌, ◌∙◌, refl}
use Prim.Native.Nat.{◌+◌, ◌-◌, ◌≤◌, ◌<◌}
use native.Mathlib.Nat.{le_refl, le_trans}
use native.Mathlib.Omega.{arith}
use Rattle.lifting.specs.Grid.{side}
use Rattle.wavelet.specs.Limits.{max_levels}
use Rattle.reader_steps.specs.Places.{next_up}
use Rattle.reader.specs.Inside.{Small, IsLevel}
use Rattle.reader.proofs.WalkLaws.{step_down, none_left, no-next, up-here, up-finer, up_none, up_next}
use Rattle.reader.proofs.walk.next_up.Goals as goal

pub loop-k-init : goal.loop-k-init
loop-k-init c = let p = c.requires in (p.0, p.2, λ _. p.3, refl)

pub band_at-c-requires : goal.band_at-c-requires
band_at-c-requires c = let inv = c.loop-k.invariant in
    let l = c.loop-k in
    (inv.0, inv.2 c.loop-k-test.true, omega (arith, inv.1))

pub returns-then-c-lt4 : goal.returns-then-c-lt4
returns-then-c-lt4 c =
    let l = c.loop-k in
    let a = c.args in
    let e : l.k - 1 + 1 ≡ l.k = omega arith in
    rw e (up_next a.filter (side a.x a.width) (side a.y a.height) a.levels a.drawn _ l.k c.band_at-c.result
    l.m (l.invariant.2 c.loop-k-test.true)
    (up-here _ _ _ _ l.k l.b c.band_at-c.result l.m.set c.loop-k-test.true c.band_at-c.ensures c.if-c-lt4.true ∙ l.invariant.3))

pub finer-m-requires : goal.finer-m-requires
finer-m-requires c =
    let l = c.loop-k in
    let inv = l.invariant in
    (inv.0, inv.2 c.loop-k-test.true, c.if-k-gt0.true, omega (arith, inv.1))

pub loop-k-preserved-then-k-gt0 : goal.loop-k-preserved-then-k-gt0
loop-k-preserved-then-k-gt0 c =
    let l = c.loop-k in
    let goes = up-finer _ _ _ _ l.k l.b c.band_at-c.result l.m.set c.finer-m.result.set c.loop-k-test.true c.band_at-c.ensures
    c.if-c-lt4.false (λ _. c.finer-m.ensures.1) in
    (l.invariant.0, l.invariant.1, λ _. c.finer-m.ensures.0, goes ∙ l.invariant.3)

pub loop-k-preserved : goal.loop-k-preserved
loop-k-preserved c =
    let l = c.loop-k in
    let goes = up-finer _ _ _ _ l.k l.b c.band_at-c.result l.m.set l.m.set c.loop-k-test.true c.band_at-c.ensures
    c.if-c-lt4.false (none_left _ c.if-k-gt0.false) in
    (l.invariant.0, l.invariant.1, none_left _ c.if-k-gt0.false, goes ∙ l.invariant.3)

pub returns : goal.returns
returns c =
    let l = c.loop-k in
    let n = c.no_row.ensures in
    no-next _ _ _ _ _ _ (up_none _ _ _ _ l.k l.m.set l.b (omega arith) ∙ l.invariant.3) n.0 n.1 n.2
