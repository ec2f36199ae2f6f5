-- `rows::round_rows` meets its contract: a row a turn, by `rounded-turn`. Assumes nothing.
use Rattle.rounding.proofs.RoundLaws.{Rounded}
use Rattle.rounding.proofs.rows.round_rows.Given as goal

abbrev pub invariant-loop-r : goal.invariant-loop-r
invariant-loop-r l = Rounded l.initial.plane l.width l.height l.levels l.step l.q l.low l.top l.r l.plane
