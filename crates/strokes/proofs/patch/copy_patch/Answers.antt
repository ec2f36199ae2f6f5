use Rattle.std.proofs.Common.{refl, ◌∙◌, ◌+◌, ◌*◌, arith}
use native.Mathlib.Nat.{mul-le-mul_left}
use Rattle.numbers.specs.Signal.{at}
use Rattle.map_levels.proofs.GridSweep.{start, finish}
use Rattle.strokes.proofs.PatchLaws.{patch-above, patch-below, patch-turn}
use Rattle.strokes.proofs.patch.copy_patch.Goals as goal

pub loop-i-init : goal.loop-i-init
loop-i-init g c =
    let p = c.requires in
    (refl, p.0, p.1, p.2, p.3, start _ _ _ _ (λ r k lt. patch-above _ _ _ r k (omega arith)))

pub overflow_mul-i : goal.overflow_mul-i
overflow_mul-i g c = omega (arith, c.loop-i.invariant.3 c.loop-i.i (omega arith))

pub overflow_add-a : goal.overflow_add-a
overflow_add-a g c = omega (arith, c.loop-i.invariant.3 c.loop-i.i (omega arith))

pub overflow_add-p : goal.overflow_add-p
overflow_add-p g c =
    omega (arith, c.loop-i.invariant.4 c.loop-i.i (omega arith), mul-le-mul_left (c.args.p.row + c.loop-i.i) c.loop-i.invariant.1)

pub overflow_mul-p : goal.overflow_mul-p
overflow_mul-p g c = omega (arith, c.loop-i.invariant.4 c.loop-i.i (omega arith))

pub overflow_add-p-in-loop-i : goal.overflow_add-p-in-loop-i
overflow_add-p-in-loop-i g c = omega (arith, c.loop-i.invariant.4 c.loop-i.i (omega arith))

pub copy_to-requires : goal.copy_to-requires
copy_to-requires g c =
    let inv = c.loop-i.invariant in
    (inv.3 c.loop-i.i (omega arith), omega (arith, inv.4 c.loop-i.i (omega arith), inv.0))

pub loop-i-preserved : goal.loop-i-preserved
loop-i-preserved g c =
    let a = c.args in
    let inv = c.loop-i.invariant in (
      c.copy_to.auto.to ∙ inv.0,
      inv.1,
      inv.2,
      inv.3,
      inv.4,
      patch-turn a.across a.p.row a.p.column a.p.rows a.p.columns c.loop-i.i (λ j k. g.T.Element.read a.from.now (a.a + j * a.stride + k))
          (at a.to.now)
          (at c.loop-i.to) _ inv.2 (omega arith) c.copy_to.ensures inv.5,
    )

pub shape_of-to : goal.shape_of-to
shape_of-to g c = c.loop-i.invariant.0

pub returns : goal.returns
returns g c = finish c.loop-i.invariant.1 c.loop-i.invariant.5 (λ r k le. patch-below _ _ _ r k (omega arith))
