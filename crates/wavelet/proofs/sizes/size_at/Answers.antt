use mathlib.Core.Path.{◌≡◌, sym, ap, ap₂, ◌∙◌}
use Prim.Native.Nat.{ℕ, min}
use native.Mathlib.Omega.{arith}
use native.Mathlib.Numerals.{add-one}
use Rattle.lifting.specs.Grid.{Side, side}
use Rattle.wavelet.specs.Levels.{next, side_at}
use Rattle.wavelet.proofs.SideLaws.{size-zero, next-length, size-suc}
use Rattle.wavelet.proofs.SideTurns.{side-turns}
use Rattle.wavelet.proofs.sizes.size_at.Goals as goal

pub loop-init : goal.loop-init
loop-init c = sym (size-zero _)

pub loop-preserved : goal.loop-preserved
loop-preserved c =
    let l = c.loop in
    rw add-one
    (ap₂ side (c.next_start-from.ensures l.length) (c.low_count-length.ensures ∙ sym (next-length (side l.from l.length)))
    ∙ ap next l.invariant
    ∙ sym (size-suc l.counter _))

pub returns : goal.returns
returns c =
    let l = c.loop in
    let S = side c.args.start c.args.n in
    let e : l.counter ≡ min c.args.level 65 = omega (arith, c.min-end.ensures) in
    ap (λ (T : Side). T.length)
    (l.invariant ∙ ap (λ (k : ℕ). side_at k S) e ∙ side-turns c.args.level S c.ranges.start.fits c.ranges.n.fits)
