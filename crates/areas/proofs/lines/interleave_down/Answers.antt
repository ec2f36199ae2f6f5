-- `areas::lines::interleave_down` meets its contract: where the row begins and ends is asked first, and its halves are then laid in turn. Assumes nothing.
use mathlib.Core.Path.{◌∙◌}
use native.Mathlib.Omega.{arith}
use lib.ListN.{length}
use Rattle.numbers.specs.Signal.{at}
use Rattle.lifting.specs.Grid.{side}
use Rattle.areas.proofs.ApartLaws.{apart-on, apart-off}
use Rattle.areas.proofs.AreaLaws.{went, turned, apart_in}
use Rattle.areas.proofs.HalfLaws.{evens-fit, odds-fit}
use Rattle.areas.proofs.PartLaws.{halves-at}
use Rattle.areas.proofs.InterleaveLaws.{interleaved-line}
use Rattle.areas.proofs.Clauses.{answer-area}
use Rattle.areas.proofs.lines.interleave_down.Goals as goal

pub returns-then-not-apart : goal.returns-then-not-apart
returns-then-not-apart c =
    let args = c.args in
    answer-area (turned _ _ _ (apart-off (length args.area.now) args.from args.to args.n _ c.apart.ensures c.if-not-apart.true-raw))

pub overflow_add-even : goal.overflow_add-even
overflow_add-even c =
    let args = c.args in
    let room = apart-on (length args.area.now) args.from args.to args.n _ c.apart.ensures c.if-not-apart.false-raw in
    omega (arith, room.1, c.evens.ensures, evens-fit (side args.start args.n))

pub overflow_add-odd : goal.overflow_add-odd
overflow_add-odd c =
    let args = c.args in
    let room = apart-on (length args.area.now) args.from args.to args.n _ c.apart.ensures c.if-not-apart.false-raw in
    omega (arith, room.1, c.odds.ensures, odds-fit (side args.start args.n))

pub interleave_pairs-requires : goal.interleave_pairs-requires
interleave_pairs-requires c =
    let args = c.args in
    let room = apart-on (length args.area.now) args.from args.to args.n _ c.apart.ensures c.if-not-apart.false-raw in
    let S = side args.start args.n in
    let h = halves-at S args.from _ _ c.evens.ensures c.odds.ensures in
    (omega arith, omega arith, omega arith, omega arith)

pub shape_of-area : goal.shape_of-area
shape_of-area c = c.interleave_pairs.auto.area

pub returns : goal.returns
returns c =
    let args = c.args in
    let L = length args.area.now in
    let room = apart-on L args.from args.to args.n _ c.apart.ensures c.if-not-apart.false-raw in
    let S = side args.start args.n in
    let h = halves-at S args.from _ _ c.evens.ensures c.odds.ensures in
    answer-area (went _ _ _ _ (apart_in L args.from args.to args.n room.0 room.1)
    (c.interleave_pairs.ensures ∙ interleaved-line S args.from args.to _ _ (at args.area.now) h))
