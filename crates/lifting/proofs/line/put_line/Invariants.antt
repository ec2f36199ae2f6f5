-- `lifting::line::put_line` meets its contract: a sweep over two places a turn, between its first place and its end. Assumes nothing.
use lib.ListN.{length}
use Rattle.numbers.specs.Signal.{at}
use Rattle.lifting.specs.Grid.{side}
use Rattle.lifting.proofs.AreaLaws.{Carried}
use Rattle.lifting.proofs.line.put_line.Given as goal

-- `out₀` is `out` after the first place
abbrev pub invariant-loop-n : goal.invariant-loop-n
invariant-loop-n l =
    Carried (side l.start (length l.coefficients)) (at l.coefficients) l.initial.out l.low l.high l.b l.from l.end l.n l.even l.out
