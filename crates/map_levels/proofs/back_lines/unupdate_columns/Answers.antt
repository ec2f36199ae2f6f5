use mathlib.Core.Path.{◌≡◌, refl, ◌∙◌}
use native.Mathlib.Omega.{arith}
use Rattle.map_levels.proofs.BackLineLaws.{even-none, even-more}
use Rattle.map_levels.proofs.back_lines.unupdate_columns.Goals as goal

pub loop-k-init : goal.loop-k-init
loop-k-init c = (refl, even-none _)

pub unupdate_at-requires : goal.unupdate_at-requires
unupdate_at-requires c = (omega arith, omega (arith, c.loop-k.invariant.0))

pub loop-k-preserved : goal.loop-k-preserved
loop-k-preserved c =
    let inv = c.loop-k.invariant in (
      c.unupdate_at.auto.lines ∙ inv.0,
      even-more c.loop-k.k _ _ _ (omega arith) c.unupdate_at.ensures inv.1,
    )

pub shape_of-lines : goal.shape_of-lines
shape_of-lines c = c.loop-k.invariant.0

pub returns : goal.returns
returns c =
    let e : c.loop-k.k ≡ c.args.width = omega (arith, c.loop-k-test.false) in
    rw e at c.loop-k.invariant.1.back
