-- `back_sweep::pair_back` meets its contract: two rows fetched, their columns lifted back, and two rows put. Assumes nothing.
use Prim.Native.Nat.{◌+◌}
use native.Mathlib.Omega.{arith}
use Rattle.wavelet.specs.Limits.{max_width}
use Rattle.map_levels.specs.Sweep.{line_half}
use Rattle.lifting.specs.Grid.{side}
use Rattle.map_levels.proofs.BackSets.{put-room, next-high, pair-done}
use Rattle.map_levels.proofs.back_sweep.pair_back.Goals as goal

pub fetch_high-requires : goal.fetch_high-requires
unfolding line_half max_width
fetch_high-requires c =
    let a = c.args in
    let S = c.requires.0 in
    let next = c.row_after in (
      S.area.plane,
      S.wide,
      next.ensures.1,
      omega (arith, c.fetch_low.auto.lines, S.lines, S.halves),
      next-high a.sides.y a.sides.height (a.r + 1) _ S.more c.requires.1 (omega (arith, c.requires.2)) next.ensures.0,
    )

pub put-ok-requires : goal.put-ok-requires
unfolding line_half max_width
put-ok-requires c =
    let a = c.args in
    let S = c.requires.0 in
    let u = c.unlift_columns-sure in (
      omega (
        arith,
        u.auto.lines,
        c.fetch_high.auto.lines,
        c.fetch_low.auto.lines,
        S.lines,
        S.halves,
      ),
      λ e. put-room a.sides.width a.sides.height _ a.r (omega (arith, c.requires.1)) (S.area.heights e),
      put-room a.sides.width a.sides.height _ a.r (omega (arith, c.requires.1)) S.area.work,
      S.level,
      λ t j jb. rw (u.ensures.pair_back.odd j jb) (u.ensures.is_height t j jb).0,
    )

pub put-requires : goal.put-requires
unfolding line_half max_width
put-requires c =
    let a = c.args in
    let S = c.requires.0 in
    let put = c.put-ok in
    let u = c.unlift_columns-sure in (
      omega (
        arith,
        u.auto.lines,
        c.fetch_high.auto.lines,
        c.fetch_low.auto.lines,
        S.lines,
        S.halves,
      ),
      λ e. omega (arith, put.auto.heights, put-room a.sides.width a.sides.height _ (a.r + 1) c.requires.1 (S.area.heights e)),
      omega (arith, put.auto.work, put-room a.sides.width a.sides.height _ (a.r + 1) c.requires.1 S.area.work),
      S.level,
      λ t j jb. rw (u.ensures.pair_back.even j jb) (u.ensures.is_height t j jb).1,
    )

pub returns : goal.returns
unfolding line_half max_width
returns c =
    let a = c.args in
    let S = c.requires.0 in
    let next = c.row_after in
    λ ok₀ g₀ x₀ small D.
    pair-done a.level a.across (side a.sides.x a.sides.width) (side a.sides.y a.sides.height) _ g₀ x₀ S.more small S.halves a.r next.result c.requires.1
    c.requires.2 next.ensures.0 ok₀ _ _ _ _ _ D
    c.fetch_low.ensures
    (c.fetch_high.ensures _) _ _ _ _ _ _ _
    c.unlift_columns-sure.ensures.pair_back
    c.put-ok.ensures c.put.ensures
