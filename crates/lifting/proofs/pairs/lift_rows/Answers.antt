use Rattle.std.proofs.Common.{◌+◌, ◌*◌, sym}
use Rattle.lifting.proofs.RowLaws.{row_first}
use Rattle.lifting.proofs.ColumnLaws.{pair-in, pair-places, each-none, each-more, pass-start, pass-turn, pass-end}
use Rattle.lifting.proofs.pairs.lift_rows.Goals as goal

pub overflow_mul-high : goal.overflow_mul-high
overflow_mul-high g c = row_first (pair-in _ _ _ _ _ _ _ (sym c.if-not-pair_fits.ensures)).rows.one c.well_formed.0.1

pub overflow_mul-low : goal.overflow_mul-low
overflow_mul-low g c = row_first (pair-in _ _ _ _ _ _ _ (sym c.if-not-pair_fits.ensures)).rows.two c.well_formed.0.1

pub overflow_mul-right : goal.overflow_mul-right
overflow_mul-right g c = row_first (pair-in _ _ _ _ _ _ _ (sym c.if-not-pair_fits.ensures)).rows.three c.well_formed.0.1

pub overflow_mul-before : goal.overflow_mul-before
overflow_mul-before g c = row_first (pair-in _ _ _ _ _ _ _ (sym c.if-not-pair_fits.ensures)).last c.well_formed.0.1

pub loop-i-init : goal.loop-i-init
loop-i-init g c =
    pass-start _ _ _ _ _ _ _ _ (each-none _ _ _ _ _ _ _) (pair-in _ _ _ _ _ _ _ (sym c.if-not-pair_fits.ensures))

pub lift-requires : goal.lift-requires
lift-requires g c = let o = c.loop-i in pair-places o.invariant.rows _ o.i o.invariant.size c.loop-i-test.true

pub loop-i-preserved : goal.loop-i-preserved
loop-i-preserved g c =
    let p = c.args.pair in
    let s = c.args.stride in
    let o = c.loop-i in
    pass-turn _ _ _ _ _ _ _ _ (g.S.PairStep.column (p.high * s + o.i) (p.low * s + o.i) (p.right * s + o.i) (p.before * s + o.i))
    o.i _ _ o.invariant c.loop-i-test.true c.lift.auto.area c.lift.ensures (each-more _ _ _ _ _ _ _ _)

pub returns-clause-area_after : goal.returns-clause-area_after
returns-clause-area_after g c =
    simp (sym c.if-not-pair_fits.ensures) (pass-end _ _ _ _ _ _ _ _ _ _ c.loop-i.invariant c.loop-i-test.false)
