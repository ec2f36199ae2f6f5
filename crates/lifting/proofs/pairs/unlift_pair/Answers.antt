use mathlib.Core.Path.{sym, ◌∙◌}
use Prim.Native.Nat.{◌+◌, ◌*◌}
use mir.Syntax.{w32}
use mir.ValLaws.{to_z-of_z}
use Rattle.lifting.specs.Pairs.{unlifted_at}
use Rattle.lifting.proofs.RowLaws.{row_within, row_first}
use Rattle.lifting.proofs.ColumnLaws.{pair-in, pair-places, pass-start, pass-turn, pass-end}
use Rattle.lifting.proofs.BackLaws.{unlifted-none, unlifted-more, within_none, within_more, within_end}
use Rattle.lifting.proofs.pairs.unlift_pair.Goals as goal

pub overflow_mul-high : goal.overflow_mul-high
overflow_mul-high c =
    row_first (pair-in _ _ _ _ _ _ _ (sym c.if-not-pair_fits.ensures)).rows.one c.well_formed.0.1

pub overflow_mul-low : goal.overflow_mul-low
overflow_mul-low c =
    row_first (pair-in _ _ _ _ _ _ _ (sym c.if-not-pair_fits.ensures)).rows.two c.well_formed.0.1

pub overflow_mul-right : goal.overflow_mul-right
overflow_mul-right c =
    row_first (pair-in _ _ _ _ _ _ _ (sym c.if-not-pair_fits.ensures)).rows.three c.well_formed.0.1

pub overflow_mul-before : goal.overflow_mul-before
overflow_mul-before c =
    row_first (pair-in _ _ _ _ _ _ _ (sym c.if-not-pair_fits.ensures)).last c.well_formed.0.1

pub loop-i-init : goal.loop-i-init
loop-i-init c =
    (pass-start _ _ _ _ _ _ _ _ (unlifted-none _ _ _ _ _ _) (pair-in _ _ _ _ _ _ _ (sym c.if-not-pair_fits.ensures)), within_none _ _ _ _ _ _)

pub unlift_at-ok-requires : goal.unlift_at-ok-requires
unlift_at-ok-requires c = let o = c.loop-i in pair-places o.invariant.0.rows _ o.i o.invariant.0.size c.loop-i-test.true

pub loop-i-preserved : goal.loop-i-preserved
loop-i-preserved c =
    let a = c.args in
    let o = c.loop-i in
    let within = row_within o.invariant.0.rows.last o.i c.loop-i-test.true in
    let made = c.unlift_at-ok.ensures in (
      pass-turn _ _ _ _ _ _ _ _
          (unlifted_at (a.pair.high * a.stride + o.i) (a.pair.low * a.stride + o.i) (a.pair.right * a.stride + o.i) (a.pair.before * a.stride + o.i))
          o.i _ _ o.invariant.0 c.loop-i-test.true c.unlift_at-ok.auto.area made.area_after (unlifted-more _ _ _ _ _ _ _ within),
      within_more _ _ a.stride a.pair.high a.pair.low a.pair.right a.pair.before o.i _ _ _ _ within made.area_after o.invariant.1 made.value,
    )

pub returns-then-ok : goal.returns-then-ok
returns-then-ok c =
    let o = c.loop-i in
    let ok = sym c.if-not-pair_fits.ensures in
    let all = within_end _ _ _ _ _ _ _ _ _ _ _ (to_z-of_z w32 _ c.ranges.least) (to_z-of_z w32 _ c.ranges.most) o.invariant.0.within c.loop-i-test.false
    o.invariant.1 ∙ c.if-ok.true in
    record { value = simp (ok, all); area_after = simp ok (pass-end _ _ _ _ _ _ _ _ _ _ o.invariant.0 c.loop-i-test.false) }

pub returns-else-ok : goal.returns-else-ok
returns-else-ok c =
    let o = c.loop-i in
    let ok = sym c.if-not-pair_fits.ensures in
    let all = within_end _ _ _ _ _ _ _ _ _ _ _ (to_z-of_z w32 _ c.ranges.least) (to_z-of_z w32 _ c.ranges.most) o.invariant.0.within c.loop-i-test.false
    o.invariant.1 ∙ c.if-ok.false in
    record { value = simp (ok, all); area_after = simp ok (pass-end _ _ _ _ _ _ _ _ _ _ o.invariant.0 c.loop-i-test.false) }
