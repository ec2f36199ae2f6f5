-- `areas::lines::part_line` meets its contract: the two passes come to the definition, in either order. Assumes nothing.
use mathlib.Core.Path.{◌≡◌}
use Prim.Native.Nat.{◌%◌}
use native.Mathlib.Omega.{arith}
use lib.ListN.{length}
use borrow.Author.Tests.{le-leb, lt-leb}
use Rattle.numbers.specs.Signal.{at}
use Rattle.lifting.specs.Grid.{side}
use Rattle.areas.proofs.HalfLaws.{evens-within, odds-within}
use Rattle.areas.proofs.AreaLaws.{went, turned}
use Rattle.areas.proofs.PartLaws.{evens-then-odds, odds-then-evens, from_first}
use Rattle.areas.proofs.Clauses.{answer-area}
use Rattle.areas.proofs.lines.part_line.Goals as goal

pub returns-then-row-n : goal.returns-then-row-n
returns-then-row-n g c =
    let args = c.args in
    answer-area (turned _ _ _ (lt-leb (length args.line.now) (length args.row.now) (omega arith)))

pub part-requires : goal.part-requires
part-requires g c =
    let args = c.args in
    (omega (arith, evens-within (side args.start (length args.line.now)) _ c.evens-even.ensures), omega arith)

pub part-requires-then-start-eq0 : goal.part-requires-then-start-eq0
part-requires-then-start-eq0 g c =
    let args = c.args in
    (omega (arith, odds-within (side args.start (length args.line.now)) _ c.odds-odd.ensures), omega arith)

pub returns-then-start-eq0 : goal.returns-then-start-eq0
returns-then-start-eq0 g c =
    let args = c.args in
    let x = args.line.now in
    answer-area (went _ _ _ _ (le-leb (length x) (length args.row.now) c.if-row-n.false)
    (evens-then-odds (side args.start (length x)) (g.T.Element.read x) (at args.row.now) _ _ c.evens-even.ensures c.odds-odd.ensures _ _
    (from_first _ _ (g.T.Element.read x) (at args.row.now) _ c.part.ensures) c.part-then-start-eq0.ensures))

pub part-requires-else-start-eq0 : goal.part-requires-else-start-eq0
part-requires-else-start-eq0 g c =
    let args = c.args in
    (omega (arith, odds-within (side args.start (length args.line.now)) _ c.odds-odd.ensures), omega arith)

pub part-requires-else-start-eq0-2 : goal.part-requires-else-start-eq0-2
part-requires-else-start-eq0-2 g c =
    let args = c.args in
    (omega (arith, evens-within (side args.start (length args.line.now)) _ c.evens-even.ensures), omega arith)

pub returns-else-start-eq0 : goal.returns-else-start-eq0
returns-else-start-eq0 g c =
    let args = c.args in
    let x = args.line.now in
    let one : args.start % 2 ≡ 1 = omega (arith, c.if-start-eq0.false) in
    answer-area (went _ _ _ _ (le-leb (length x) (length args.row.now) c.if-row-n.false)
    (odds-then-evens (side args.start (length x)) (g.T.Element.read x) (at args.row.now) _ _ c.evens-even.ensures c.odds-odd.ensures _ _ one
    c.part-else-start-eq0.ensures (from_first _ _ (g.T.Element.read x) (at c.part-else-start-eq0.new.row) _ c.part-else-start-eq0-2.ensures)))
