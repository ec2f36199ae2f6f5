use mathlib.Core.Path.{◌≡◌, ap, ◌∙◌}
use Prim.Native.Nat.{ℕ, ◌+◌, ◌*◌, ◌≤◌}
use native.Mathlib.Omega.{arith}
use lib.ListN.{length, set}
use Rattle.numbers.specs.Signal.{at}
use Rattle.numbers.proofs.Words.{read_back}
use Rattle.numbers.proofs.Sweep.{Swept}
use Rattle.areas.proofs.AreaLaws.{front_rest}
use Rattle.areas.proofs.InterleaveLaws.{turns, pair_turn, pair-last}
use Rattle.areas.proofs.ElementLaws.{start-read, finish-read, put-one, put-two}
use Rattle.areas.proofs.lines.put_pairs.Goals as goal

pub loop-j-init : goal.loop-j-init
loop-j-init g c = (omega arith, omega arith, omega arith, omega arith, start-read g.T.Element.laws _ _ 0 (λ j lt. absurd (omega arith)))

pub loop-j-preserved : goal.loop-j-preserved
loop-j-preserved g c =
    let e = g.T.Element in
    let args = c.args in
    let a = args.first.now in
    let b = args.second.now in
    let j = c.loop-j.j in
    let inv = c.loop-j.invariant in
    let laid = put-two e.laws c.loop-j.line (2 * j) c.of.result (e.kept (at a j)) (2 * j + 1) c.of-in-loop-j.result (e.kept (at b j))
    (c.of.ensures ∙ ap e.kept (read_back (at a j) c.of-arg-1.given)) (c.of-in-loop-j.ensures ∙ ap e.kept (read_back (at b j) c.of-arg-in-loop-j-1.given)) in (
      inv.0,
      inv.1,
      inv.2,
      inv.3,
      rw laid (pair_turn e.kept (length a + length b) (at a) (at b) _ _ j _ inv.2 inv.4 (omega arith)),
    )

pub returns-then-end-first : goal.returns-then-end-first
returns-then-end-first g c =
    let e = g.T.Element in
    let args = c.args in
    let a = args.first.now in
    let b = args.second.now in
    let j = length b in
    let inv = c.loop-j.invariant in
    let last : c.loop-j.j ≡ j = omega arith in
    let swept = rw last at inv.4 in
    let laid = put-one e.laws c.loop-j.line (2 * j) c.of-then-end-first.result (e.kept (at a j))
    (c.of-then-end-first.ensures ∙ ap e.kept (read_back (at a j) c.of-arg-then-end-first-1.given)) in
    let made = pair-last e.kept (length a + length b) (at a) (at b) _ _ j _ inv.2 swept (omega arith) in
    let z = e.read args.line.now in
    let all = turns e.kept (length a + length b) (at a) (at b) z in
    let swept-last : Swept (length args.line.now) all z (2 * j + 1) (e.wholes (set c.loop-j.line (2 * j) c.of-then-end-first.result)) = rw laid made in
    let past : (i : ℕ) → 2 * j + 1 ≤ i → all i ≡ z i =
    λ i le. front_rest _ _ _ i (omega arith) in
    finish-read e.laws _ swept-last past

pub returns-else-end-first : goal.returns-else-end-first
returns-else-end-first g c =
    let inv = c.loop-j.invariant in
    finish-read g.T.Element.laws _ inv.4 (λ i le. front_rest _ _ _ i (omega arith))
