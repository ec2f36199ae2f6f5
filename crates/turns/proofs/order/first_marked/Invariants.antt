-- `first_marked` meets its contract: after i readers the search that is left gives what the whole search gives. Assumes nothing.
use Rattle.std.proofs.Common.{◌≡◌, ◌<◌, ◌+◌, ◌-◌}
use Rattle.turns.specs.Marks.{marked}
use Rattle.turns.specs.Order.{first_from, next_after}
use Rattle.turns.proofs.order.first_marked.Given as goal

abbrev pub invariant-loop-i : goal.invariant-loop-i
invariant-loop-i l = (l.last < 16) × (first_from (marked l.marks) (16 - l.i) (l.last + 1 + l.i) ≡ next_after (marked l.marks) l.last)
