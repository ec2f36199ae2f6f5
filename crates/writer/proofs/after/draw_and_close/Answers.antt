-- `after::draw_and_close` meets its contract: the row advanced, and the levels closed on where it is due. Assumes nothing.
use mathlib.Core.Path.{◌∙◌}
use native.Mathlib.Omega.{arith}
use Rattle.writer.proofs.CallLaws.{drew-open, drew-waits, drew-closes}
use Rattle.writer.proofs.after.draw_and_close.Goals as goal
use Rattle.writer.proofs.after.draw_and_close.Goals.{else-s-via-else-s, else-s-via-then-s+else-r-eq0}

pub advance-r-requires : goal.advance-r-requires
advance-r-requires c = c.requires

pub flush-q-requires : goal.flush-q-requires
flush-q-requires c =
    let room = c.requires.0.room in (
      record { room = omega (arith, room.room, c.advance-r.auto.store); wide = room.wide; rows = room.rows; deep = room.deep },
      c.requires.0.closed,
    )

pub shape_of-store-then-r-eq0 : goal.shape_of-store-then-r-eq0
shape_of-store-then-r-eq0 c = c.flush-q.auto.store ∙ c.advance-r.auto.store

pub returns-then-r-eq0 : goal.returns-then-r-eq0
returns-then-r-eq0 c = drew-closes c.args.s _ _ _
    c.advance-r.ensures _ _ c.if-s.true (omega arith)
    c.flush-q.ensures

pub shape_of-store : goal.shape_of-store
shape_of-store c = c.advance-r.auto.store

pub returns : goal.returns
returns c =
    elim c.else-s.branch [
      | else-s-via-else-s w ↦ drew-open c.args.s _ _ _ c.advance-r.ensures w.if-s.false
      | else-s-via-then-s+else-r-eq0 w ↦ drew-waits c.args.s _ _ _ c.advance-r.ensures w.if-s.true (omega arith)
    ]
