use Rattle.wavelet.specs.Plane.{cells}
use mathlib.Core.Path.{refl, ◌∙◌}
use native.Mathlib.Omega.{arith}
use lib.ListN.{length}
use Rattle.numbers.specs.Signal.{at}
use Rattle.map_levels.proofs.GridSweep.{rows-kept, few, start as start-rows, finish}
use Rattle.strokes.proofs.ColumnTurns.{turn, rows_before, rows-after, one-row, done-past}
use Rattle.strokes.proofs.window.lift_columns.Goals as goal

pub returns-then-height-lt2 : goal.returns-then-height-lt2
returns-then-height-lt2 c = let a = c.args in one-row a.stride a.width a.height (at a.area.now) c.requires.apart (omega arith)

pub lift_turn-requires : goal.lift_turn-requires
lift_turn-requires c = (omega arith, omega arith)

pub loop-n-init : goal.loop-n-init
loop-n-init c = (
  refl,
  omega arith,
  omega (arith, c.well_formed.0.1, c.lift_turn.auto.area),
  refl,
  rows-kept c.lift_turn.auto.area c.requires,
  λ X r. r,
)

pub lift_turn-requires-in-loop-n : goal.lift_turn-requires-in-loop-n
lift_turn-requires-in-loop-n c =
    let inv = c.loop-n.invariant in
    (omega arith, omega (arith, few _ _ _ _ inv.4))

pub loop-n-preserved : goal.loop-n-preserved
loop-n-preserved c =
    let inv = c.loop-n.invariant in
    let a = c.args in
    let n = c.loop-n.n in (
      inv.0,
      inv.1,
      inv.2,
      c.lift_turn-in-loop-n.auto.area ∙ inv.3,
      inv.4,
      λ X r.
          turn (length c.loop-n.area) a.stride a.width a.height (rows-kept inv.3 inv.4) X n (omega arith) (at c.loop-n.area) _
          c.lift_turn-in-loop-n.ensures (rw (rows_before a.height n (omega arith)) at (inv.5 X r)),
    )

pub shape_of-area : goal.shape_of-area
shape_of-area c = c.loop-n.invariant.3 ∙ c.lift_turn.auto.area

pub returns : goal.returns
returns c =
    let inv = c.loop-n.invariant in
    let a = c.args in
    let X = cells a.stride (at a.area.now) in
    finish c.requires.apart
    (inv.5 X (turn _ _ _ _ c.requires X 0 (omega arith) _ _ c.lift_turn.ensures (start-rows _ _ 0 _ (λ r k lt. absurd (omega arith)))))
    (λ r k le. done-past _ _ X r k (omega (arith, rows-after a.height c.loop-n.n (omega arith))))
