use mathlib.Core.Path.{◌≡◌, sym, ap, ◌∙◌}
use Prim.Native.Nat.{ℕ, min}
use native.Mathlib.Omega.{arith}
use native.Mathlib.Numerals.{add-one}
use Rattle.lifting.specs.Grid.{Side, side}
use Rattle.wavelet.specs.Levels.{side_at}
use Rattle.wavelet.proofs.SideLaws.{size-zero, next_start, start-suc, start-same}
use Rattle.wavelet.proofs.SideTurns.{side-turns}
use Rattle.wavelet.proofs.sizes.start_at.Goals as goal

pub loop-init : goal.loop-init
loop-init c = ap (λ (S : Side). S.start) (sym (size-zero _))

pub loop-preserved : goal.loop-preserved
loop-preserved c =
    let l = c.loop in
    let e = c.next_start-from.ensures 0 in
    let S = side c.args.start 0 in
    rw add-one (omega (arith, e, next_start (side l.from 0), start-suc l.counter S, l.invariant))

pub returns : goal.returns
returns c =
    λ n.
    let l = c.loop in
    let S = side c.args.start 0 in
    let e : l.counter ≡ min c.args.level 65 = omega (arith, c.min-end.ensures) in
    l.invariant
    ∙ ap (λ (k : ℕ). (side_at k S).start) e
    ∙ ap (λ (T : Side). T.start) (side-turns c.args.level S c.ranges.start.fits (omega arith))
    ∙ start-same c.args.level c.args.start 0 n
