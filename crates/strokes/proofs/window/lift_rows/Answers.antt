use Rattle.std.proofs.Common.{refl, sym, ◌∙◌, ◌+◌, ◌-◌, ◌*◌, arith}
use Rattle.wavelet.specs.Limits.{max_width}
use Rattle.map_levels.proofs.GridSweep.{pass-start, pass-room, pass-end, row-length}
use Rattle.strokes.proofs.RowCalls.{used_turn, rows-past}
use Rattle.strokes.proofs.window.lift_rows.Goals as goal

pub loop-r-init : goal.loop-r-init
unfolding max_width
loop-r-init c =
    let p = c.requires in
    (p.1, refl, pass-start _ _ _ _ _ 0 p.0 (λ r k lt. absurd (omega arith)), p.2, p.3)

pub overflow_mul-a : goal.overflow_mul-a
overflow_mul-a c = omega (arith, pass-room c.loop-r.invariant.2 (omega arith))

pub overflow_add-a : goal.overflow_add-a
overflow_add-a c = omega (arith, pass-room c.loop-r.invariant.2 (omega arith))

pub offset_bounds-area-a : goal.offset_bounds-area-a
offset_bounds-area-a c = omega (arith, pass-room c.loop-r.invariant.2 (omega arith))

pub slice_bounds-lift_row-end : goal.slice_bounds-lift_row-end
slice_bounds-lift_row-end c = omega (arith, pass-room c.loop-r.invariant.2 (omega arith))

pub slice_bounds-lift_row-end-in-loop-r : goal.slice_bounds-lift_row-end-in-loop-r
unfolding max_width
slice_bounds-lift_row-end-in-loop-r c = sym c.loop-r.invariant.1

pub is_used-requires : goal.is_used-requires
is_used-requires c = let inv = c.loop-r.invariant in (omega (arith, inv.3), omega (arith, inv.4))

pub lift_row-requires : goal.lift_row-requires
lift_row-requires c =
    let a = c.loop-r.r * c.args.stride in
    omega (
      arith,
      row-length _ _ _ _ _ _ (a + c.args.width - a) _ (omega arith) (omega arith) c.loop-r.invariant.2,
      c.loop-r.invariant.1,
      c.loop-r.invariant.0,
    )

pub loop-r-preserved : goal.loop-r-preserved
loop-r-preserved c =
    let part = c.lift_row in
    let args = c.args in
    let a = c.loop-r.r * args.stride in
    let inv = c.loop-r.invariant in (
      inv.0,
      part.auto.other ∙ inv.1,
      used_turn _ _ args.rows _ _ (a + args.width - a) _ part.new.row _ (omega arith) (omega arith)
          c.is_used.ensures part.auto.row part.ensures inv.2,
      inv.3,
      inv.4,
    )

pub shape_of-area : goal.shape_of-area
shape_of-area c = c.loop-r.invariant.2.size

pub returns : goal.returns
returns c = pass-end c.loop-r.invariant.2 (λ r k le. rows-past _ _ _ r k (omega arith))
