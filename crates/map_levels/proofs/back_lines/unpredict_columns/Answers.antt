use mathlib.Core.Path.{◌≡◌, refl, ◌∙◌}
use native.Mathlib.Omega.{arith}
use Rattle.map_levels.proofs.BackLineLaws.{odd-none, odd-more}
use Rattle.map_levels.proofs.back_lines.unpredict_columns.Goals as goal

pub loop-k-init : goal.loop-k-init
loop-k-init c = (refl, odd-none _)

pub unpredict_at-requires : goal.unpredict_at-requires
unpredict_at-requires c = (omega arith, omega (arith, c.loop-k.invariant.0))

pub loop-k-preserved : goal.loop-k-preserved
loop-k-preserved c =
    let inv = c.loop-k.invariant in (
      c.unpredict_at.auto.lines ∙ inv.0,
      odd-more c.loop-k.k _ _ _ (omega arith) c.unpredict_at.ensures inv.1,
    )

pub shape_of-lines : goal.shape_of-lines
shape_of-lines c = c.loop-k.invariant.0

pub returns : goal.returns
returns c =
    let e : c.loop-k.k ≡ c.args.width = omega (arith, c.loop-k-test.false) in
    rw e at c.loop-k.invariant.1.back
