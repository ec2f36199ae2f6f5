use mathlib.Core.Path.{◌≡◌, ◌∙◌}
use Prim.Native.Nat.{◌-◌, ◌*◌, ◌/◌, ◌≤◌}
use native.Mathlib.Omega.{arith}
use lib.ListN.{length}
use borrow.Author.Tests.{le-leb, lt-leb}
use Rattle.numbers.specs.Signal.{at}
use Rattle.numbers.proofs.Sweep.{Swept}
use Rattle.lifting.specs.Grid.{side}
use Rattle.areas.specs.Areas.{heights_at, wholes}
use Rattle.reader.specs.Limited.{limited}
use Rattle.areas.proofs.AreaLaws.{front_rest, went, turned}
use Rattle.areas.proofs.HeightLaws.{start-heights, finish-heights}
use Rattle.areas.proofs.PartLaws.{Halves, halves-front}
use Rattle.areas.proofs.InterleaveLaws.{laid, lay-turn, lay-last, finish-drawn}
use Rattle.reader.proofs.limited.interleave_limited.Goals as goal

pub loop-j-init : goal.loop-j-init
loop-j-init c =
    let args = c.args in (
      c.requires,
      omega arith,
      omega arith,
      halves-front (side args.start (length args.row.now)) _ _ c.evens-even.ensures c.odds-odd.ensures,
      omega arith,
      start-heights args.out.now _ 0 (λ j lt. absurd (omega arith)),
    )

pub loop-j-preserved : goal.loop-j-preserved
loop-j-preserved c =
    let args = c.args in
    let x = args.row.now in
    let inv = c.loop-j.invariant in (
      inv.0,
      inv.1,
      inv.2,
      inv.3,
      c.limit_at-in-loop-j.auto.out ∙ c.limit_at.auto.out ∙ inv.4,
      rw (c.limit_at-in-loop-j.ensures, c.limit_at.ensures)
          (lay-turn (side args.start (length x)) limited (at x) _ _ _ inv.3 _ c.loop-j.j _ inv.0 inv.5 (omega arith)),
    )

pub shape_of-out-then-end-n : goal.shape_of-out-then-end-n
shape_of-out-then-end-n c = c.limit_at-then-end-n.auto.out ∙ c.loop-j.invariant.4

pub returns-then-end-n : goal.returns-then-end-n
returns-then-end-n c =
    let args = c.args in
    let x = args.row.now in
    let inv = c.loop-j.invariant in
    let S = side args.start (length x) in
    let made = lay-last S limited (at x) _ _ _ inv.3 _ c.loop-j.j _ inv.0 inv.5 (omega arith) in
    let e : length x / 2 ≡ c.loop-j.j = omega arith in
    (finish-drawn S limited (at x) _ _ c.loop-j.j c.limit_at-then-end-n.new.out _ made (rw e at c.limit_at-then-end-n.ensures)
    (omega arith))

pub shape_of-out-else-end-n : goal.shape_of-out-else-end-n
shape_of-out-else-end-n c = c.loop-j.invariant.4

pub returns-else-end-n : goal.returns-else-end-n
returns-else-end-n c =
    let inv = c.loop-j.invariant in
    let args = c.args in
    (finish-heights c.loop-j.out inv.5 (λ j le. front_rest _ _ _ j (omega arith)))
