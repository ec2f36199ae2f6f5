use mathlib.Core.Path.{sym}
use native.Mathlib.Omega.{arith}
use lib.ListN.{length}
use borrow.Author.Tests.{le-leb, lt-leb}
use Rattle.numbers.specs.Signal.{at}
use Rattle.numbers.proofs.Words.{read_back}
use Rattle.numbers.proofs.Sweep.{start, store, finish}
use Rattle.areas.proofs.AreaLaws.{front_at, front_rest, went, turned}
use Rattle.areas.proofs.Clauses.{answer-area}
use Rattle.areas.proofs.copies.copy.Goals as goal

pub returns-then-to-n : goal.returns-then-to-n
returns-then-to-n c = let args = c.args in
    answer-area (turned _ _ _ (lt-leb (length args.from.now) (length args.to.now) (omega arith)))

pub loop-i-init : goal.loop-i-init
loop-i-init c = (omega arith, start _ _ 0 (λ j lt. absurd (omega arith)))

pub bounds-to-i : goal.bounds-to-i
bounds-to-i c = let sw = c.loop-i.invariant.1 in omega (arith, sw.size)

pub loop-i-preserved : goal.loop-i-preserved
loop-i-preserved c =
    let x = c.args.from.now in
    let i = c.loop-i.i in (
      omega arith,
      rw (read_back (at x i) c.to-1.given)
          (store _ c.loop-i.invariant.1 (omega arith) (sym (front_at (length x) (at x) _ i (omega arith)))),
    )

pub shape_of-to : goal.shape_of-to
shape_of-to c = c.loop-i.invariant.1.size

pub returns : goal.returns
returns c =
    let args = c.args in
    answer-area (went _ _ _ _ (le-leb (length args.from.now) (length args.to.now) (omega arith))
    (finish c.loop-i.invariant.1 (λ j le. front_rest _ _ _ j (omega arith))))
