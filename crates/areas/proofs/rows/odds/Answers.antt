-- `areas::rows::odds` meets its contract: by the parity of the start. Assumes nothing.
use native.Mathlib.Omega.{arith}
use Rattle.lifting.specs.Grid.{side}
use Rattle.areas.proofs.HalfLaws.{odds-first, odds-last}
use Rattle.areas.proofs.rows.odds.Goals as goal

pub overflow_sub-result : goal.overflow_sub-result
overflow_sub-result c = omega arith

pub returns-then-start-eq0 : goal.returns-then-start-eq0
returns-then-start-eq0 c = let args = c.args in odds-last (side args.start args.n) (omega arith)

pub returns : goal.returns
returns c = let args = c.args in odds-first (side args.start args.n) (omega arith)
