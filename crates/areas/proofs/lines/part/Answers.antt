use mathlib.Core.Path.{ap, ◌∙◌}
use Prim.Native.Nat.{◌+◌, ◌*◌, ◌<◌}
use native.Mathlib.Omega.{arith}
use lib.ListN.{length}
use Rattle.numbers.proofs.Words.{read_back}
use Rattle.numbers.proofs.Sweep.{start, finish}
use Rattle.numbers.proofs.Parts.{splice-below, splice-past}
use Rattle.areas.proofs.PartLaws.{splice-turn}
use Rattle.areas.proofs.lines.part.Goals as goal

pub loop-j-init : goal.loop-j-init
loop-j-init g c = (omega arith, start _ _ _ (λ j lt. splice-below _ _ _ _ j (omega arith)))

pub bounds-row-to : goal.bounds-row-to
bounds-row-to g c = let sw = c.loop-j.invariant.1 in omega (arith, sw.size)

pub loop-j-preserved : goal.loop-j-preserved
loop-j-preserved g c =
    let e = g.T.Element in
    let x = c.args.line.now in
    let s = g.row.FIRST in
    let j = c.loop-j.j in
    let inv = c.loop-j.invariant in
    let h : 2 * j + s < length x = omega arith in
    let value = c.value.ensures ∙ ap e.whole c.index-line-j.is ∙ e.laws.place x (2 * j + s) c.index-line-j.result h in
    (inv.0, rw (read_back c.value.result c.value.type_inv, value) (splice-turn _ c.args.n (λ i. e.read x (2 * i + s)) _ _ j _ c.loop-j-test.true inv.0 inv.1))

pub shape_of-row : goal.shape_of-row
shape_of-row g c = c.loop-j.invariant.1.size

pub returns : goal.returns
returns g c = finish c.loop-j.invariant.1 (λ j le. splice-past _ _ _ _ j (omega arith))
