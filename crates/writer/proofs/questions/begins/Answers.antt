use mathlib.Core.Path.{◌≡◌, refl, ◌∙◌}
use Prim.Native.Nat.{◌<◌, ◌^◌, ◌+◌, ◌-◌}
use native.Mathlib.Omega.{arith}
use lib.Dec.{eqb}
use Rattle.lifting.specs.Grid.{side}
use Rattle.wavelet.proofs.SideLaws.{count-lo}
use Rattle.progress.specs.Counts.{start_of}
use Rattle.progress.proofs.CountLaws.{next-is}
use Rattle.writer.proofs.QuestionLaws.{begins-short, begins-on, begins-first}
use Rattle.writer.proofs.questions.begins.Goals as goal

pub loop-above-init : goal.loop-above-init
loop-above-init c = let e : c.args.v + 1 - 1 ≡ c.args.v = omega arith in (c.requires.0, c.requires.1, rw e refl)

pub stretch-a-requires : goal.stretch-a-requires
stretch-a-requires c = omega (arith, c.loop-above.invariant.0)

pub returns-then-rest-a : goal.returns-then-rest-a
returns-then-rest-a c =
    let l = c.loop-above in
    begins-short _ (side l.column l.width) (c.args.v + 1 - l._above) l.rest (omega arith) (omega (arith, c.stretch-a.ensures)) ∙ l.invariant.2

pub loop-above-preserved : goal.loop-above-preserved
loop-above-preserved c =
    let l = c.loop-above in
    let k = c.args.v + 1 - l._above in
    let e : c.args.v + 1 - (l._above + 1) ≡ k - 1 = omega arith in (
      omega (arith, c.low_count-width.ensures, count-lo (side l.column l.width)),
      l.invariant.1,
      rw e
          (begins-on _ (side l.column l.width) k l.rest _ _ c.stretch-a.ensures (omega arith) (omega (arith, c.stretch-a.ensures))
          (next-is l.column l.width _ _ c.next_start-column.ensures c.low_count-width.ensures)) ∙ l.invariant.2,
    )

pub returns : goal.returns
returns c =
    let l = c.loop-above in
    begins-first _ (side l.column l.width) (c.args.v + 1 - l._above) l.rest (omega (arith, l.invariant.1)) ∙ l.invariant.2
