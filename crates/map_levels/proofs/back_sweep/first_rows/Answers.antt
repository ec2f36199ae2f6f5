-- `back_sweep::first_rows` meets its contract: three rows fetched, the low one done, and put where it comes first. Assumes nothing.
use mathlib.Core.Path.{refl}
use Prim.Native.Nat.{◌%◌}
use native.Mathlib.Omega.{arith}
use Rattle.wavelet.specs.Limits.{max_width}
use Rattle.map_levels.specs.Sweep.{line_half}
use Rattle.lifting.specs.Grid.{side}
use Rattle.map_levels.proofs.TestLaws.{false-true}
use Rattle.map_levels.proofs.BackSets.{put-room, next-high, first-high, first-low}
use Rattle.map_levels.proofs.back_sweep.first_rows.Goals as goal

pub fetch_high-requires : goal.fetch_high-requires
unfolding line_half max_width
fetch_high-requires c =
    let S = c.requires.0 in
    (S.area.plane, S.wide, omega (arith, S.more), omega (arith, c.fetch_low.auto.lines, S.lines, S.halves), omega arith)

pub fetch_high-requires-2 : goal.fetch_high-requires-2
unfolding line_half max_width
fetch_high-requires-2 c =
    let a = c.args in
    let S = c.requires.0 in
    let next = c.row_after in (
      S.area.plane,
      S.wide,
      next.ensures.1,
      omega (
        arith,
        c.fetch_high.auto.lines,
        c.fetch_low.auto.lines,
        S.lines,
        S.halves,
      ),
      next-high a.sides.y a.sides.height (a.sides.y % 2) _ S.more (omega (arith, S.more)) (omega arith) next.ensures.0,
    )

pub returns-then-b-eq1 : goal.returns-then-b-eq1
unfolding line_half max_width
returns-then-b-eq1 c =
    let a = c.args in
    let S = c.requires.0 in
    let next = c.row_after in
    first-high a.level a.across (side a.sides.x a.sides.width) (side a.sides.y a.sides.height) _ _ _ S.more c.requires.1 S.halves (a.sides.y % 2) next.result refl
    next.ensures.0 _ _ _ _ _ c.fetch_low.ensures
    (c.fetch_high.ensures _)
    (c.fetch_high-2.ensures _)
    c.unupdate_columns.ensures c.if-b-eq1.true

pub put-requires : goal.put-requires
unfolding line_half max_width
put-requires c =
    let a = c.args in
    let S = c.requires.0 in (
      omega (
        arith,
        c.unupdate_columns.auto.lines,
        c.fetch_high-2.auto.lines,
        c.fetch_high.auto.lines,
        c.fetch_low.auto.lines,
        S.lines,
        S.halves,
      ),
      λ e. put-room a.sides.width a.sides.height _ 0 (omega (arith, S.more)) (S.area.heights e),
      put-room a.sides.width a.sides.height _ 0 (omega (arith, S.more)) S.area.work,
      S.level,
      λ e. absurd (false-true e),
    )

pub returns : goal.returns
unfolding line_half max_width
returns c =
    let a = c.args in
    let S = c.requires.0 in
    let next = c.row_after in
    first-low a.level a.across (side a.sides.x a.sides.width) (side a.sides.y a.sides.height) _ _ _ S.more c.requires.1 S.halves (a.sides.y % 2) next.result refl
    next.ensures.0 _ _ _ _ _
    c.fetch_low.ensures (c.fetch_high.ensures _) (c.fetch_high-2.ensures _)
    c.unupdate_columns.ensures
    (omega (arith, c.if-b-eq1.false)) _ _ _ c.put.ensures
