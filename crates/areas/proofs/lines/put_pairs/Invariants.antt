-- `areas::lines::put_pairs` meets its contract: a sweep over the line, two places a turn, the last of an odd line after the loop. Assumes nothing.
use mathlib.Core.Path.{◌≡◌}
use Prim.Native.Nat.{◌+◌, ◌*◌, ◌≤◌}
use lib.ListN.{length}
use Rattle.numbers.specs.Signal.{at}
use Rattle.numbers.proofs.Sweep.{Swept}
use Rattle.areas.proofs.InterleaveLaws.{turns}
use Rattle.areas.proofs.lines.put_pairs.Given as goal

abbrev pub invariant-loop-j : goal.invariant-loop-j
invariant-loop-j g l =
    let e = g.T.Element in
    (length l.second ≤ length l.first)
    × (length l.first ≤ length l.second + 1)
    × (length l.first + length l.second ≤ length l.initial.line)
    × (l.end ≡ length l.second)
    × Swept (length l.initial.line) (turns e.kept (length l.first + length l.second) (at l.first) (at l.second) (e.read l.initial.line)) (e.read l.initial.line) (2 * l.j)
    (e.wholes l.line)
