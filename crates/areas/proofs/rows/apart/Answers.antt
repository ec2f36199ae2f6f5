-- `areas::rows::apart` meets its contract: each difference says what the sum says. Assumes nothing.
use native.Mathlib.Omega.{arith}
use Rattle.areas.proofs.ApartLaws.{not-apart, apart-last}
use Rattle.areas.proofs.rows.apart.Goals as goal

pub returns-then-from-n : goal.returns-then-from-n
returns-then-from-n c = let args = c.args in not-apart args.len args.from args.to args.n (λ a b. omega arith)

pub returns-then-from-n-2 : goal.returns-then-from-n-2
returns-then-from-n-2 c = let args = c.args in not-apart args.len args.from args.to args.n (λ a b. omega arith)

pub returns-then-len-n : goal.returns-then-len-n
returns-then-len-n c = let args = c.args in not-apart args.len args.from args.to args.n (λ a b. omega arith)

pub returns : goal.returns
returns c =
    let args = c.args in
    apart-last args.len args.from args.to args.n (omega arith) (omega arith)
