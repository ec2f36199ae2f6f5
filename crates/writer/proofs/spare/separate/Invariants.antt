-- `spare::separate` meets its contract: before turn j the first j pairs are taken apart. Assumes nothing.
use mathlib.Core.Path.{◌≡◌, ap, ◌∙◌}
use Prim.Native.Nat.{◌+◌, ◌*◌, ◌-◌}
use native.Mathlib.Omega.{arith}
use lib.ListN.{length-set}
use Rattle.numbers.specs.Signal.{at}
use Rattle.numbers.proofs.Words.{read_back}
use Rattle.writer.proofs.SpareCells.{Pairs, pairs_start, pairs-read, pairs-again, pairs-turn, pairs_end}
use Rattle.writer.proofs.spare.separate.Given as goal

abbrev pub invariant-loop-j : goal.invariant-loop-j
invariant-loop-j l = Pairs l.from l.firsts l.seconds l.count l.initial.store l.j l.store
