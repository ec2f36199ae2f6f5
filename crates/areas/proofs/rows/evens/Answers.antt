-- `areas::rows::evens` meets its contract: by the parity of the start. Assumes nothing.
use native.Mathlib.Omega.{arith}
use Rattle.lifting.specs.Grid.{side}
use Rattle.areas.proofs.HalfLaws.{evens-first, evens-last}
use Rattle.areas.proofs.rows.evens.Goals as goal

pub returns-then-start-eq0 : goal.returns-then-start-eq0
returns-then-start-eq0 c = let args = c.args in evens-first (side args.start args.n) (omega arith)

pub returns : goal.returns
returns c = let args = c.args in evens-last (side args.start args.n) (omega arith)
