-- `rows::ends_first` meets its contract: case by case. Assumes nothing.
use native.Mathlib.Omega.{arith}
use Rattle.ground_loader.proofs.ByteLaws.{ends_more, ends-all}
use Rattle.ground_loader.proofs.rows.ends_first.Goals as goal

pub returns-then-s-c : goal.returns-then-s-c
returns-then-s-c c = ends_more _ _ (omega arith)

pub returns : goal.returns
returns c = ends-all _ _ (omega arith)
