use mathlib.Core.Path.{◌∙◌}
use native.Mathlib.Omega.{arith}
use Rattle.numbers.proofs.Sweep.{start}
use Rattle.numbers.proofs.Parts.{splice-below}
use Rattle.areas.proofs.InterleaveLaws.{interleave-eight, interleave-end}
use Rattle.areas.proofs.lines.interleave_pairs.Goals as goal

pub loop-j-init : goal.loop-j-init
loop-j-init c = (
  omega arith,
  omega arith,
  omega arith,
  omega arith,
  omega arith,
  omega arith,
  omega arith,
  start _ _ _ (λ j lt. splice-below _ _ _ _ j (omega arith)),
)

pub overflow_add-j : goal.overflow_add-j
overflow_add-j c = omega arith

pub overflow_add-even : goal.overflow_add-even
overflow_add-even c = omega arith

pub overflow_add-odd : goal.overflow_add-odd
overflow_add-odd c = omega arith

pub eight_at-v-requires : goal.eight_at-v-requires
eight_at-v-requires c = omega arith

pub overflow_mul-j : goal.overflow_mul-j
overflow_mul-j c = omega arith

pub overflow_add-to : goal.overflow_add-to
overflow_add-to c = omega arith

pub put_eight-requires : goal.put_eight-requires
put_eight-requires c = omega arith

pub overflow_add-j-in-loop-j : goal.overflow_add-j-in-loop-j
overflow_add-j-in-loop-j c = omega arith

pub loop-j-smaller : goal.loop-j-smaller
loop-j-smaller c = omega arith

pub loop-j-preserved : goal.loop-j-preserved
loop-j-preserved c =
    let inv = c.loop-j.invariant in
    let size = c.put_eight.auto.area ∙ inv.6 in (
      inv.0,
      inv.1,
      inv.2,
      inv.3,
      inv.4,
      omega arith,
      size,
      interleave-eight _ _ _ _ _ _ c.loop-j.j c.loop-j.area inv.0 inv.1 (omega arith) inv.7 c.eight_at-v.result _ (omega arith)
          c.eight_at-v.ensures size c.put_eight.ensures,
    )

pub overflow_mul-j-2 : goal.overflow_mul-j-2
overflow_mul-j-2 c = omega arith

pub overflow_add-to-2 : goal.overflow_add-to-2
overflow_add-to-2 c = omega arith

pub overflow_add-even-2 : goal.overflow_add-even-2
overflow_add-even-2 c = omega arith

pub overflow_add-odd-2 : goal.overflow_add-odd-2
overflow_add-odd-2 c = omega arith

pub overflow_mul-j-3 : goal.overflow_mul-j-3
overflow_mul-j-3 c = omega arith

pub overflow_sub-n : goal.overflow_sub-n
overflow_sub-n c = omega arith

pub interleave_rest-requires : goal.interleave_rest-requires
interleave_rest-requires c = omega arith

pub shape_of-area : goal.shape_of-area
shape_of-area c = c.interleave_rest.auto.area ∙ c.loop-j.invariant.6

pub returns : goal.returns
returns c =
    let inv = c.loop-j.invariant in
    interleave-end _ _ _ _ _ _ c.loop-j.j c.loop-j.area inv.0 inv.1 (omega arith) inv.7 c.interleave_rest.new.area (omega arith)
    (c.interleave_rest.auto.area ∙ inv.6) c.interleave_rest.ensures
