-- `back_lines::unupdate_columns` meets its contract: a column a turn. Assumes nothing.
use mathlib.Core.Path.{◌≡◌}
use Prim.Native.Nat.{◌-◌, ◌≤◌}
use lib.ListN.{length}
use Rattle.numbers.specs.Signal.{at}
use Rattle.map_levels.proofs.BackLineLaws.{EvenRun}
use Rattle.map_levels.proofs.back_lines.unupdate_columns.Given as goal

abbrev pub invariant-loop-k : goal.invariant-loop-k
invariant-loop-k l = (length l.lines ≡ length l.initial.lines) × EvenRun l.k (at l.initial.lines) (at l.lines)
