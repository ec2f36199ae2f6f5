use mathlib.Core.Path.{◌≡◌, ◌∙◌}
use Prim.Native.Nat.{◌+◌, ◌/◌}
use native.Mathlib.Omega.{arith}
use lib.ListN.{length-set}
use Rattle.numbers.specs.Signal.{at}
use Rattle.numbers.proofs.Words.{read_back}
use Rattle.numbers.proofs.Sweep.{start, finish}
use Rattle.numbers.proofs.Parts.{splice-below, splice-past}
use Rattle.areas.proofs.InterleaveLaws.{interleave-turn, interleave-last}
use Rattle.areas.proofs.lines.interleave_rest.Goals as goal

pub loop-j-init : goal.loop-j-init
loop-j-init c = (
  omega arith,
  omega arith,
  omega arith,
  omega arith,
  omega arith,
  omega arith,
  start _ _ _ (λ j lt. splice-below _ _ _ _ j (omega arith)),
)

pub bounds-area-to-in-loop-j : goal.bounds-area-to-in-loop-j
bounds-area-to-in-loop-j c = simp length-set (omega arith)

pub loop-j-preserved : goal.loop-j-preserved
loop-j-preserved c =
    let args = c.args in
    let l = c.loop-j.area in
    let j = c.loop-j.j in
    let inv = c.loop-j.invariant in (
      inv.0,
      inv.1,
      inv.2,
      inv.3,
      inv.4,
      simp length-set inv.5,
      rw (read_back (at l (args.even + j)) c.a-1.given, read_back (at l (args.odd + j)) c.b-1.given)
          (interleave-turn _ _ _ _ _ _ j l inv.0 inv.1 (omega arith) inv.6 (omega arith)),
    )

pub shape_of-area-then-end-n : goal.shape_of-area-then-end-n
shape_of-area-then-end-n c = length-set c.loop-j.area _ _ ∙ c.loop-j.invariant.5

pub returns-then-end-n : goal.returns-then-end-n
returns-then-end-n c =
    let args = c.args in
    let l = c.loop-j.area in
    let inv = c.loop-j.invariant in
    let last : c.loop-j.j ≡ args.n / 2 = omega arith in
    let swept = rw last at inv.6 in
    rw (read_back (at l (args.even + args.n / 2)) c.area-1.given)
    (finish (interleave-last _ _ _ _ _ _ (args.n / 2) l inv.0 inv.1 (omega arith) swept (omega arith)) (λ i le. splice-past _ _ _ _ i (omega arith)))

pub shape_of-area-else-end-n : goal.shape_of-area-else-end-n
shape_of-area-else-end-n c = c.loop-j.invariant.5

pub returns-else-end-n : goal.returns-else-end-n
returns-else-end-n c = finish c.loop-j.invariant.6 (λ i le. splice-past _ _ _ _ i (omega arith))
