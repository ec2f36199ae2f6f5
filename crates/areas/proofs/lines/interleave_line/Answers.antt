-- `areas::lines::interleave_line` meets its contract: the two halves lent, and their numbers laid in turn. Assumes nothing.
use Prim.Native.Nat.{◌+◌, ◌-◌, ◌/◌}
use native.Mathlib.Omega.{arith}
use lib.ListN.{length}
use borrow.Author.Tests.{le-leb, lt-leb}
use Rattle.lifting.specs.Grid.{side}
use Rattle.areas.proofs.AreaLaws.{went, turned}
use Rattle.areas.proofs.HalfLaws.{evens-within, odds-within}
use Rattle.areas.proofs.PartLaws.{halves-front}
use Rattle.areas.proofs.InterleaveLaws.{parts-fit, parts-interleaved}
use Rattle.areas.proofs.Clauses.{answer-area}
use Rattle.areas.proofs.lines.interleave_line.Goals as goal

pub returns-then-line-n : goal.returns-then-line-n
returns-then-line-n g c = let args = c.args in
    answer-area (turned _ _ _ (lt-leb (length args.row.now) (length args.line.now) (omega arith)))

pub overflow_add-e : goal.overflow_add-e
overflow_add-e g c =
    let args = c.args in
    omega (arith, evens-within (side args.start (length args.row.now)) c.evens-a.result c.evens-a.ensures)

pub overflow_add-f : goal.overflow_add-f
overflow_add-f g c =
    let args = c.args in
    omega (arith, odds-within (side args.start (length args.row.now)) c.odds-b.result c.odds-b.ensures)

pub offset_bounds-row-a : goal.offset_bounds-row-a
offset_bounds-row-a g c =
    let args = c.args in
    omega (arith, evens-within (side args.start (length args.row.now)) c.evens-a.result c.evens-a.ensures)

pub slice_bounds-put_pairs-end : goal.slice_bounds-put_pairs-end
slice_bounds-put_pairs-end g c =
    let args = c.args in
    omega (arith, evens-within (side args.start (length args.row.now)) c.evens-a.result c.evens-a.ensures)

pub offset_bounds-row-b : goal.offset_bounds-row-b
offset_bounds-row-b g c =
    let args = c.args in
    omega (arith, odds-within (side args.start (length args.row.now)) c.odds-b.result c.odds-b.ensures)

pub slice_bounds-put_pairs-end-2 : goal.slice_bounds-put_pairs-end-2
slice_bounds-put_pairs-end-2 g c =
    let args = c.args in
    omega (arith, odds-within (side args.start (length args.row.now)) c.odds-b.result c.odds-b.ensures)

pub put_pairs-requires : goal.put_pairs-requires
put_pairs-requires g c =
    let args = c.args in
    let x = args.row.now in
    let S = side args.start (length x) in
    let N = length x in
    let a = c.evens-a.result in
    let b = c.odds-b.result in
    let h = halves-front S a b c.evens-a.ensures c.odds-b.ensures in
    parts-fit S x a b (a + (N - N / 2) - a) (b + N / 2 - b) h (omega arith) (omega arith) (omega arith) (length args.line.now) (omega arith)

pub shape_of-line : goal.shape_of-line
shape_of-line g c = c.put_pairs.auto.line

pub returns : goal.returns
returns g c =
    let args = c.args in
    let x = args.row.now in
    let N = length x in
    let a = c.evens-a.result in
    let b = c.odds-b.result in
    let S = side args.start N in
    let h = halves-front S a b c.evens-a.ensures c.odds-b.ensures in
    answer-area (went _ _ _ _ (le-leb N (length args.line.now) (omega arith))
    (parts-interleaved S x a b (a + (N - N / 2) - a) (b + N / 2 - b) h (omega arith) (omega arith) (omega arith) g.T.Element.kept
    (g.T.Element.read args.line.now) _
    c.put_pairs.ensures))
