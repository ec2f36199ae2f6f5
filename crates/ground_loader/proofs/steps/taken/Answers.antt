-- `steps::taken` meets its contract. Assumes nothing.
use mathlib.Core.Path.{ap}
use Rattle.ground_loader.specs.declared.loader.Due.{Due}
use Rattle.ground_loader.proofs.steps.taken.Goals as goal

pub returns : goal.returns
returns c = ap (λ (d : Due). record { loader = c.args.l; due = d }) c.due_of.ensures
