use Rattle.std.proofs.Common.{◌+◌, ◌<◌, ◌∙◌, ap, length, arith}
use Rattle.numbers.proofs.Words.{read_back}
use Rattle.numbers.proofs.Sweep.{start, finish}
use Rattle.numbers.proofs.Parts.{splice-below, splice-past}
use Rattle.areas.proofs.PartLaws.{splice-turn}
use Rattle.strokes.proofs.patch.copy_to.Goals as goal

pub loop-i-init : goal.loop-i-init
loop-i-init g c = (c.requires.0, c.requires.1, start _ _ _ (λ j lt. splice-below _ _ _ _ j (omega arith)))

pub bounds-to-b : goal.bounds-to-b
bounds-to-b g c = omega (arith, c.loop-i.invariant.2.size)

pub loop-i-preserved : goal.loop-i-preserved
loop-i-preserved g c =
    let e = g.T.Element in
    let args = c.args in
    let x = args.from.now in
    let i = c.loop-i.i in
    let inv = c.loop-i.invariant in
    let h : args.a + i < length x = omega arith in
    let value = c.value.ensures ∙ ap e.whole c.index-from-a.is ∙ e.laws.place x (args.a + i) c.index-from-a.result h in (
      inv.0,
      inv.1,
      rw (read_back c.value.result c.value.type_inv, value) (splice-turn _ args.n (λ j. e.read x (args.a + j)) _ _ i _ (omega arith) inv.1 inv.2),
    )

pub shape_of-to : goal.shape_of-to
shape_of-to g c = c.loop-i.invariant.2.size

pub returns : goal.returns
returns g c = finish c.loop-i.invariant.2 (λ j le. splice-past _ _ _ _ j (omega arith))
