-- `array::zero_from` meets its contract: the answer is always what was found so far, and that of the places left. Assumes nothing.
use Rattle.std.proofs.Common.{◌≡◌}
use Rattle.numbers.specs.Signal.{both}
use Rattle.states.specs.States.{zero_to}
use Rattle.states.proofs.array.zero_from.Given as goal

abbrev pub invariant-loop-i : goal.invariant-loop-i
invariant-loop-i g l = zero_to g.row.N l.from l.s ≡ both l.zero (zero_to g.row.N l.i l.s)
