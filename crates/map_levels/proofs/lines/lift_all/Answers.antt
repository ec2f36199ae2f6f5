use mathlib.Core.Path.{◌≡◌, refl, ◌∙◌}
use mathlib.Core.Bool.{false}
use Prim.Native.Nat.{◌+◌, ◌*◌, ◌/◌}
use native.Mathlib.Omega.{arith}
use Rattle.wavelet.specs.Limits.{max_width}
use Rattle.map_levels.specs.Sweep.{line_half}
use Rattle.map_levels.proofs.SweepLines.{made_none, one-made, pair-made, pairs-made}
use Rattle.map_levels.proofs.lines.lift_all.Goals as goal

pub loop-k-init : goal.loop-k-init
loop-k-init g c = (refl, refl, made_none false _ _ _ _)

pub lift_elements-requires : goal.lift_elements-requires
unfolding line_half max_width
lift_elements-requires g c = (omega arith, omega arith, omega arith, omega arith, omega arith)

pub overflow_add-k : goal.overflow_add-k
unfolding line_half max_width
overflow_add-k g c = omega arith

pub lift_elements-requires-in-loop-k : goal.lift_elements-requires-in-loop-k
unfolding line_half max_width
lift_elements-requires-in-loop-k g c = (omega arith, omega arith, omega arith, omega arith, omega arith)

pub loop-k-preserved : goal.loop-k-preserved
unfolding line_half max_width
loop-k-preserved g c =
    let inv = c.loop-k.invariant in (
      refl,
      c.lift_elements-in-loop-k.auto.lines ∙ c.lift_elements.auto.lines ∙ inv.1,
      pair-made _ _ _ _ c.loop-k.k _ _ _ (omega arith) c.lift_elements.ensures c.lift_elements-in-loop-k.ensures inv.2,
    )

pub lift_elements-requires-then-i-width : goal.lift_elements-requires-then-i-width
unfolding line_half max_width
lift_elements-requires-then-i-width g c = (omega arith, omega arith, omega arith, omega arith, omega arith)

pub shape_of-lines-then-i-width : goal.shape_of-lines-then-i-width
shape_of-lines-then-i-width g c = c.lift_elements-then-i-width.auto.lines ∙ c.loop-k.invariant.1

pub returns-then-i-width : goal.returns-then-i-width
returns-then-i-width g c =
    let W = c.args.width in
    let k = W / 2 in
    let all : c.loop-k.k ≡ k = omega (arith, c.loop-k-test.false) in
    let odd : 2 * k + 1 ≡ W = omega arith in
    rw odd at (one-made _ _ _ _ k _ _ (omega arith) c.lift_elements-then-i-width.ensures (rw all at c.loop-k.invariant.2))

pub shape_of-lines-else-i-width : goal.shape_of-lines-else-i-width
shape_of-lines-else-i-width g c = c.loop-k.invariant.1

pub returns-else-i-width : goal.returns-else-i-width
returns-else-i-width g c = pairs-made _ _ _ _ c.loop-k.k _ _ (omega arith) c.loop-k.invariant.2
