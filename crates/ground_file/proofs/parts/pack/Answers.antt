use mathlib.Core.Path.{refl, ◌∙◌}
use native.Mathlib.Omega.{arith}
use Rattle.text.proofs.TextLaws.{wrote-size}
use Rattle.ground_file.proofs.Packing.{puts-start, puts-end, last-room, next-room, sum-small, puts-next}
use Rattle.ground_file.proofs.parts.pack.Goals as goal

pub loop-x-init : goal.loop-x-init
loop-x-init c = puts-start c.requires

pub joined-low-requires : goal.joined-low-requires
joined-low-requires c = let p = c.loop-x.invariant in (p.packed.few, sum-small p (omega arith) _ refl)

pub overflow_add-more : goal.overflow_add-more
overflow_add-more c = let p = c.loop-x.invariant in omega (arith, p.narrow, p.packed.few)

pub flush-bits-requires : goal.flush-bits-requires
flush-bits-requires c = next-room c.loop-x.invariant (omega arith)

pub loop-x-preserved : goal.loop-x-preserved
loop-x-preserved c =
    let e = c.joined-low.ensures in
    let f = c.flush-bits.ensures in
    puts-next c.loop-x.invariant (omega arith) _ refl e f.wrote f.low_value.0 f.low_value.1

pub overflow_add-last : goal.overflow_add-last
overflow_add-last c = omega (arith, c.loop-x.invariant.packed.few)

pub flush-requires : goal.flush-requires
flush-requires c = last-room c.loop-x.invariant

pub shape_of-out : goal.shape_of-out
shape_of-out c = wrote-size c.flush.ensures.wrote ∙ wrote-size c.loop-x.invariant.packed.wrote

pub returns : goal.returns
returns c = puts-end c.loop-x.invariant (omega arith) c.flush.ensures.wrote
