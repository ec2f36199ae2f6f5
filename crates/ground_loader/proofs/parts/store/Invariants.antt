-- `parts::store` meets its contract: after each turn one number more is stored (`Storing`). Assumes nothing.
use Rattle.ground_loader.proofs.NumberLaws.{Storing}
use Rattle.ground_loader.proofs.parts.store.Given as goal

abbrev pub invariant-loop-i : goal.invariant-loop-i
invariant-loop-i l = Storing l.bits l.w l.k l.from l.initial.row l.row l.rest l.i
