-- `run::all_rounds`: each turn of the loop is a round. Assumes nothing.
use mathlib.Core.Path.{◌≡◌}
use lib.ListN.{length}
use Rattle.rounds.proofs.RoundLaws.{Looped}
use Rattle.rounds.proofs.run.all_rounds.Given as goal

abbrev pub invariant-loop : goal.invariant-loop
invariant-loop g l =
    Looped g.P.Program.machine (length l.initial.out) (g.P.Program.state l.initial.program) (g.P.Program.state l.program) l.chunk l.counter l.last
    × (length l.chunk ≡ length l.initial.chunk) × (length l.out ≡ length l.initial.out)
