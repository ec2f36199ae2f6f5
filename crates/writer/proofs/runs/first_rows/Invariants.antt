-- `runs::first_rows` meets its contract: every turn is a draw after which another row of the set waits. Assumes nothing.
use mathlib.Core.Path.{◌∙◌}
use borrow.Author.Tests.{not-true, not-false}
use Rattle.writer.proofs.RunSets.{Putting, put-start, put-less, put-waits, put-room, put-stops, put-more}
use Rattle.writer.proofs.runs.first_rows.Given as goal

abbrev pub invariant-loop-next : goal.invariant-loop-next
invariant-loop-next l = Putting l.s l.q l.store l.initial.out l.out l.initial.names l.names l.initial.d l.d l.left l.next

abbrev pub decreases-loop-next : goal.decreases-loop-next
decreases-loop-next l = l.next
