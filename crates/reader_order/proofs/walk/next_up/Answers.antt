use mathlib.Core.Path.{◌∙◌, refl}
use native.Mathlib.Omega.{arith}
use Rattle.reader_order.proofs.WalkLaws.{is-spot, up-here, up-finer, up_none}
use Rattle.reader_order.proofs.walk.next_up.Goals as goal

pub loop-k-init : goal.loop-k-init
loop-k-init c = (c.requires, refl)

pub band_at-c-requires : goal.band_at-c-requires
band_at-c-requires c =
    let l = c.loop-k in
    (c.sides_at-v.ensures, omega (arith, c.loop-k-test.true, l.invariant.0))

pub returns-then-c-lt4 : goal.returns-then-c-lt4
returns-then-c-lt4 c =
    let l = c.loop-k in
    is-spot _ _ (up-here _ _ _ _ l.k l.b _ l.n c.loop-k-test.true c.band_at-c.ensures c.if-c-lt4.true ∙ l.invariant.1)

pub waits-n-requires : goal.waits-n-requires
waits-n-requires c =
    c.sides_at-v.ensures

pub loop-k-preserved : goal.loop-k-preserved
loop-k-preserved c =
    let l = c.loop-k in (
      l.invariant.0,
      up-finer _ _ _ _ l.k l.b _ l.n _ c.loop-k-test.true c.band_at-c.ensures (omega arith) c.waits-n.ensures ∙ l.invariant.1,
    )

pub returns : goal.returns
returns c = let l = c.loop-k in is-spot _ _ (up_none _ _ _ _ l.k l.n l.b (omega arith) ∙ l.invariant.1)
