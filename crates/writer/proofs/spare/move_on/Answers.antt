-- `spare::move_on` meets its contract: the heights put into the row begun, and what they come to. Assumes nothing.
use mathlib.Core.Path.{◌∙◌}
use native.Mathlib.Omega.{arith}
use Rattle.wavelet.proofs.LimitLaws.{height-small}
use Rattle.writer.proofs.OfferLaws.{holder-start, holder-roomy, holder-mover, moved-on, roomy-same}
use Rattle.writer.proofs.spare.move_on.Goals as goal

pub overflow_add-q : goal.overflow_add-q
overflow_add-q c = omega (arith, height-small)

pub put-requires : goal.put-requires
put-requires c =
    let p = c.requires.0 in
    holder-mover _ _ _ p _ (holder-start _ _ _ p _ c.store_length-a.ensures)

pub reach-requires : goal.reach-requires
reach-requires c =
    let p = c.requires in
    (roomy-same _ _ _ c.put.auto.store (holder-roomy _ _ _ p.0 p.1), p.1, omega (arith, p.0.row))

pub shape_of-store : goal.shape_of-store
shape_of-store c = c.reach.auto.store ∙ c.put.auto.store

pub returns : goal.returns
returns c =
    let p = c.requires.0 in
    moved-on c.args.s _ _ _ _ _ _ (holder-start _ _ _ p _ c.store_length-a.ensures)
    c.put.ensures
    (omega (arith, p.row)) c.reach.ensures
