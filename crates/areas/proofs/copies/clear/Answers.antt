use mathlib.Core.Path.{sym, ◌∙◌}
use native.Mathlib.Omega.{arith}
use lib.IntN.{pos}
use lib.ListN.{length}
use borrow.Author.Tests.{le-leb, lt-leb}
use Rattle.numbers.proofs.Sweep.{store}
use Rattle.areas.proofs.AreaLaws.{front_at, front_rest, went, turned}
use Rattle.areas.proofs.ElementLaws.{start-read, finish-read}
use Rattle.areas.proofs.Clauses.{answer-area}
use Rattle.areas.proofs.copies.clear.Goals as goal

pub returns-then-area-n : goal.returns-then-area-n
returns-then-area-n g c =
    let args = c.args in
    answer-area (turned _ _ _ (lt-leb args.n (length args.area.now) (omega arith)))

pub loop-i-init : goal.loop-i-init
loop-i-init g c = (omega arith, start-read g.T.Element.laws _ _ 0 (λ j lt. absurd (omega arith)))

pub loop-i-preserved : goal.loop-i-preserved
loop-i-preserved g c =
    let laws = g.T.Element.laws in
    let none = c.of.ensures ∙ laws.none in (
      c.loop-i.invariant.0,
      rw (laws.put, none) (store (pos 0) c.loop-i.invariant.1 (omega arith) (sym (front_at _ _ _ c.loop-i.i (omega arith)))),
    )

pub returns : goal.returns
returns g c =
    let args = c.args in
    answer-area (went _ _ _ _ (le-leb args.n (length args.area.now) (omega arith))
    (finish-read g.T.Element.laws c.loop-i.area c.loop-i.invariant.1 (λ j le. front_rest _ _ _ j (omega arith))))
