-- `reader::limited::interleave_limited` meets its contract: a sweep over the heights, a pair a turn, the last of an odd row after the loop. Assumes nothing.
use mathlib.Core.Path.{◌≡◌, ◌∙◌}
use Prim.Native.Nat.{◌-◌, ◌*◌, ◌/◌, ◌≤◌}
use native.Mathlib.Omega.{arith}
use lib.ListN.{length}
use borrow.Author.Tests.{le-leb, lt-leb}
use Rattle.numbers.specs.Signal.{at}
use Rattle.numbers.proofs.Sweep.{Swept}
use Rattle.lifting.specs.Grid.{side}
use Rattle.areas.specs.Areas.{heights_at, wholes}
use Rattle.reader.specs.Limited.{limited}
use Rattle.areas.proofs.AreaLaws.{front_rest, went, turned}
use Rattle.areas.proofs.HeightLaws.{start-heights, finish-heights}
use Rattle.areas.proofs.PartLaws.{Halves, halves-front}
use Rattle.areas.proofs.InterleaveLaws.{laid, lay-turn, lay-last, finish-drawn}
use Rattle.reader.proofs.limited.interleave_limited.Given as goal

abbrev pub invariant-loop-j : goal.invariant-loop-j
invariant-loop-j l =
    (length l.row ≤ length l.initial.out) × (l.n ≡ length l.row) × (l.end ≡ length l.row / 2) × Halves (side l.start (length l.row)) 0 l.even l.odd
    × (length l.out ≡ length l.initial.out) × Swept (length l.initial.out) (laid (side l.start (length l.row)) limited (at l.row) (heights_at l.initial.out)) (heights_at l.initial.out) (2 * l.j) (wholes l.out)
