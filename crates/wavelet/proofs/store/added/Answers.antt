use mathlib.Core.Path.{◌≡◌, sym, ap, ap₂, ◌∙◌}
use Prim.Native.Nat.{ℕ, ◌<◌, ◌+◌}
use native.Mathlib.Omega.{arith}
use native.Mathlib.Numerals.{add-one}
use Rattle.lifting.specs.Grid.{Side, side}
use Rattle.wavelet.proofs.LimitLaws.{width_small, levels-small}
use Rattle.wavelet.specs.Levels.{next, side_at}
use Rattle.wavelet.specs.Store.{widths}
use Rattle.wavelet.proofs.SideLaws.{size-zero, size-suc, next-length, size-le}
use Rattle.wavelet.proofs.StoreLaws.{widths-none, widths-more, widths-le}
use Rattle.wavelet.proofs.store.added.Invariants.{Summed}
use Rattle.wavelet.proofs.store.added.Goals as goal

length-is : (k width x from length : ℕ) → side from length ≡ side_at k (side x width) → length ≡ (side_at k (side x width)).length
length-is k width x from length e = ap (λ (S : Side). S.length) e

-- one level more
turn : (width x levels sum from length k from' length' : ℕ) → Summed width x levels sum from length k → k < levels → from' ≡ (next (side from length)).start
    → length' ≡ (next (side from length)).length → Summed width x levels (sum + length) from' length' (k + 1)
turn width x levels sum from length k from' length' v b es el =
    let W = side x width in
    let next-is : side from' length' ≡ side_at (k + 1) W = rw add-one (ap₂ side es el ∙ ap next v.level ∙ sym (size-suc k W)) in
    record {
      most = omega arith;
      narrow = v.narrow;
      few = v.few;
      total = rw add-one (omega (arith, widths-more W k, length-is k width x from length v.level, v.total));
      level = next-is;
      shorter = omega (arith, size-le (k + 1) W, length-is (k + 1) width x from' length' next-is);
    }

pub loop-init : goal.loop-init
loop-init c =
    record {
      most = omega arith;
      narrow = omega (arith, width_small);
      few = omega (arith, levels-small);
      total = sym (widths-none _);
      level = sym (size-zero _);
      shorter = omega arith;
    }

pub overflow_add-sum : goal.overflow_add-sum
overflow_add-sum c =
    let a = c.args in
    omega (arith, widths-le (side a.x a.width) c.loop.counter)

pub loop-preserved : goal.loop-preserved
loop-preserved c =
    let l = c.loop in
    let a = c.args in
    turn a.width a.x a.levels l.sum l.from l.length l.counter _ _ l.invariant c.loop-test.true
    (c.next_start-from.ensures l.length)
    (c.low_count-length.ensures ∙ sym (next-length (side l.from l.length)))

pub returns : goal.returns
returns c =
    let l = c.loop in
    let a = c.args in
    let e : l.counter ≡ a.levels = omega arith in
    l.invariant.total ∙ ap (widths (side a.x a.width)) e
