use Rattle.std.proofs.Common.{refl, sym, ◌∙◌, arith}
use Rattle.states.proofs.StateLaws.{zero_same, zero-lost, zero-end}
use Rattle.states.proofs.array.zero_from.Goals as goal
use Rattle.states.proofs.array.zero_from.Goals.{then-s-i-ne0, else-s-i-ne0}

pub loop-i-init : goal.loop-i-init
loop-i-init g c = refl

pub loop-i-preserved : goal.loop-i-preserved
loop-i-preserved g c =
    let l = c.loop-i in
    let s = c.args.s.now in
    l.invariant
    ∙ (elim c.if-s-i-ne0.branch [
      | then-s-i-ne0 w ↦ zero-lost g.row.N s l.i l.zero _ (omega arith) w.if-s-i-ne0.true w.zero-is
      | else-s-i-ne0 w ↦ zero_same g.row.N s l.i l.zero _ (omega arith) w.if-s-i-ne0.false w.zero-is
    ])

pub returns : goal.returns
returns g c = let l = c.loop-i in sym (l.invariant ∙ zero-end g.row.N c.args.s.now l.i l.zero (omega arith))
