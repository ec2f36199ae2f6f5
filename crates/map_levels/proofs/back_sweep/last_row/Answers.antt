-- `back_sweep::last_row` meets its contract: no row is left, or the last high row is done and put. Assumes nothing.
use native.Mathlib.Omega.{arith}
use Rattle.wavelet.specs.Limits.{max_width}
use Rattle.map_levels.specs.Sweep.{line_half}
use Rattle.map_levels.specs.Sides.{columns, rows}
use Rattle.map_levels.proofs.TestLaws.{false-true}
use Rattle.map_levels.proofs.BackSets.{put-room, none_left, last-done}
use Rattle.map_levels.proofs.back_sweep.last_row.Goals as goal

pub returns-then-sides-r : goal.returns-then-sides-r
returns-then-sides-r c =
    let a = c.args in
    λ ok₀ A z g₀ x₀ odd small D le.
    none_left a.level A (columns a.sides) (rows a.sides) z g₀ x₀ c.requires.4 small c.requires.3 a.r c.if-sides-r.true le ok₀ _ _ _ D

pub put-requires : goal.put-requires
unfolding line_half max_width
put-requires c =
    let a = c.args in
    let rh = c.if-sides-r.false in (
      omega (arith, c.unpredict_columns.auto.lines, c.requires.2, c.requires.3),
      λ e. put-room a.sides.width a.sides.height _ a.r (omega (arith, rh)) (c.requires.0 e),
      put-room a.sides.width a.sides.height _ a.r (omega (arith, rh)) c.requires.1,
      c.requires.6,
      λ e. absurd (false-true e),
    )

pub returns : goal.returns
unfolding line_half max_width
returns c =
    let a = c.args in
    let rh = c.if-sides-r.false in
    λ ok₀ A z g₀ x₀ odd small D le.
    last-done a.level A (columns a.sides) (rows a.sides) z g₀ x₀ c.requires.4 small c.requires.3 a.r (omega (arith, rh)) c.requires.5
    (odd (omega (arith, rh))) ok₀ _ _ _ _ _ _ _ D c.unpredict_columns.ensures
    c.put.ensures
