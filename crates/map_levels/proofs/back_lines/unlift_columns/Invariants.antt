-- `back_lines::unlift_columns` meets its contract: a column a turn, and the or of its numbers with those before. Assumes nothing.
use mathlib.Core.Path.{◌≡◌}
use Prim.Native.Nat.{◌-◌, ◌≤◌}
use lib.ListN.{length}
use mir.Syntax.{w32}
use mir.Val.{of_z}
use Rattle.numbers.specs.Signal.{at}
use Rattle.map_levels.specs.BackLines.{even_of, odd_of}
use Rattle.map_levels.proofs.SmallLaws.{BitsWithin}
use Rattle.map_levels.proofs.BackLineLaws.{PairRun}
use Rattle.map_levels.proofs.back_lines.unlift_columns.Given as goal

abbrev pub invariant-loop-k : goal.invariant-loop-k
invariant-loop-k l =
    (length l.lines ≡ length l.initial.lines) × PairRun l.k (at l.initial.lines) (at l.lines) × BitsWithin l.k (of_z w32 l.all) (even_of (at l.initial.lines))
    × BitsWithin l.k (of_z w32 l.all) (odd_of (at l.initial.lines))
