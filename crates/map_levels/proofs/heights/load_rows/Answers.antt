use mathlib.Core.Path.{◌≡◌, refl, ◌∙◌}
use Prim.Native.Nat.{◌/◌}
use native.Mathlib.Omega.{arith}
use Rattle.map_levels.proofs.GridSweep.{fronts-start}
use Rattle.map_levels.proofs.ForwardCalls.{pairs-of, pair-sums, last-sums, odd-sums, first_load, second-load, odd-load, pairs-on, pairs_end}
use Rattle.map_levels.proofs.ForwardCalls.{laid-turn, laid-even, laid-odd}
use Rattle.map_levels.proofs.heights.load_rows.Goals as goal

pub loop-n-init : goal.loop-n-init
loop-n-init c =
    let pre = c.requires in
    (pairs-of _ _ _ _ _ pre.1 c.low_count-low.ensures (omega arith), refl, pre.0, pre.1, fronts-start _ _ _ _)

pub overflow_mul-n : goal.overflow_mul-n
overflow_mul-n c = (pair-sums _ _ _ _ _ _ _ c.loop-n.invariant.0 c.loop-n-test.true).0

pub overflow_mul-b : goal.overflow_mul-b
overflow_mul-b c = (pair-sums _ _ _ _ _ _ _ c.loop-n.invariant.0 c.loop-n-test.true).1

pub overflow_add-b : goal.overflow_add-b
overflow_add-b c = (pair-sums _ _ _ _ _ _ _ c.loop-n.invariant.0 c.loop-n-test.true).2

pub load_to-requires : goal.load_to-requires
load_to-requires c =
    let inv = c.loop-n.invariant in
    first_load _ _ _ _ _ _ _ inv.0 _ _ _ inv.2 inv.3 inv.1 c.loop-n-test.true

pub overflow_mul-n-in-loop-n : goal.overflow_mul-n-in-loop-n
overflow_mul-n-in-loop-n c = (pair-sums _ _ _ _ _ _ _ c.loop-n.invariant.0 c.loop-n-test.true).0

pub overflow_add-n : goal.overflow_add-n
overflow_add-n c = (pair-sums _ _ _ _ _ _ _ c.loop-n.invariant.0 c.loop-n-test.true).3

pub overflow_sub-b : goal.overflow_sub-b
overflow_sub-b c = (pair-sums _ _ _ _ _ _ _ c.loop-n.invariant.0 c.loop-n-test.true).4

pub overflow_mul-b-in-loop-n : goal.overflow_mul-b-in-loop-n
overflow_mul-b-in-loop-n c = (pair-sums _ _ _ _ _ _ _ c.loop-n.invariant.0 c.loop-n-test.true).5

pub overflow_add-b-in-loop-n : goal.overflow_add-b-in-loop-n
overflow_add-b-in-loop-n c = (pair-sums _ _ _ _ _ _ _ c.loop-n.invariant.0 c.loop-n-test.true).6

pub load_to-requires-in-loop-n : goal.load_to-requires-in-loop-n
load_to-requires-in-loop-n c =
    let inv = c.loop-n.invariant in
    second-load _ _ _ _ _ _ _ inv.0 _ _ _ inv.2 inv.3 (c.load_to.auto.plane ∙ inv.1) c.loop-n-test.true

pub loop-n-preserved : goal.loop-n-preserved
loop-n-preserved c =
    let inv = c.loop-n.invariant in
    let P = inv.0 in (
      P,
      c.load_to-in-loop-n.auto.plane ∙ c.load_to.auto.plane ∙ inv.1,
      inv.2,
      inv.3,
      laid-turn _ _ _ _ _ _ P.lows P.parity _ _ _ _ (omega (arith, P.half)) c.load_to.ensures c.load_to-in-loop-n.ensures
          inv.4,
    )

pub overflow_mul-pairs : goal.overflow_mul-pairs
overflow_mul-pairs c = let inv = c.loop-n.invariant in last-sums _ _ _ _ _ _ _ inv.0 (omega arith)

pub overflow_mul-pairs-then-pairs-sides : goal.overflow_mul-pairs-then-pairs-sides
overflow_mul-pairs-then-pairs-sides c = let inv = c.loop-n.invariant in last-sums _ _ _ _ _ _ _ inv.0 (omega arith)

pub overflow_mul-b-then-pairs-sides : goal.overflow_mul-b-then-pairs-sides
overflow_mul-b-then-pairs-sides c = let inv = c.loop-n.invariant in (odd-sums _ _ _ _ _ _ _ inv.0 (omega arith) c.if-pairs-sides.true).0

pub overflow_add-b-then-pairs-sides : goal.overflow_add-b-then-pairs-sides
overflow_add-b-then-pairs-sides c = let inv = c.loop-n.invariant in (odd-sums _ _ _ _ _ _ _ inv.0 (omega arith) c.if-pairs-sides.true).1

pub load_to-requires-then-pairs-sides : goal.load_to-requires-then-pairs-sides
load_to-requires-then-pairs-sides c =
    let inv = c.loop-n.invariant in
    odd-load _ _ _ _ _ _ _ inv.0 _ _ _ inv.2 inv.3 inv.1 (omega arith) c.if-pairs-sides.true

pub shape_of-plane-then-pairs-sides : goal.shape_of-plane-then-pairs-sides
shape_of-plane-then-pairs-sides c = c.load_to-then-pairs-sides.auto.plane ∙ c.loop-n.invariant.1

pub returns-then-pairs-sides : goal.returns-then-pairs-sides
returns-then-pairs-sides c =
    let inv = c.loop-n.invariant in
    let P = inv.0 in
    let all : c.loop-n.n ≡ c.args.sides.height / 2 = omega (arith, c.loop-n-test.false) in
    laid-odd _ _ _ _ _ _ P.lows P.parity _ _ _ inv.2.apart (omega (arith, c.if-pairs-sides.true)) c.load_to-then-pairs-sides.ensures
    (rw all at inv.4)

pub shape_of-plane-else-pairs-sides : goal.shape_of-plane-else-pairs-sides
shape_of-plane-else-pairs-sides c = c.loop-n.invariant.1

pub returns-else-pairs-sides : goal.returns-else-pairs-sides
returns-else-pairs-sides c =
    let inv = c.loop-n.invariant in
    laid-even _ _ _ _ _ _ inv.0.lows inv.0.parity _ _ inv.2.apart (omega (arith, c.loop-n-test.false, c.if-pairs-sides.false)) inv.4
