use mathlib.Core.Path.{◌≡◌, refl, sym, ◌∙◌}
use Prim.Native.Nat.{◌+◌, ◌-◌, ◌*◌, ◌%◌, ◌≤◌, ◌<◌}
use native.Mathlib.Omega.{arith}
use lib.ListN.{length}
use borrow.Rule.Slice.PartMut.{put_mid}
use Rattle.numbers.proofs.Parts.{length-mid, at_mid}
use Rattle.lifting.specs.Line.{lo}
use Rattle.lifting.specs.Grid.{side, count}
use Rattle.lifting.proofs.GridLaws.{counts}
use Rattle.nine_seven.specs.NineSevenFilter.{nine_seven_filter}
use Rattle.nine_seven.proofs.NineSevenFilter.{nine-seven-laws}
use Rattle.filters.specs.Filters.{filter_of}
use Rattle.map_levels.proofs.LevelCalls.{put-area, put_same, put-again}
use Rattle.map_levels.proofs.TestLaws.{goes-as, goes-yes}
use Rattle.map_levels.proofs.LevelSteps.{doubled, next-side, rows_next, rows-corner, part_room, mid-fits, lows-few, back_end, back-no}
use Rattle.map_levels.proofs.LevelSteps.{back_low, back_step}
use Rattle.map_levels.proofs.nine_seven_levels.+back_levels.Goals as goal

pub returns-then-not-has_next : goal.returns-then-not-has_next
returns-then-not-has_next t c =
    let a = c.args in
    back_end nine_seven_filter nine-seven-laws _ _ _ _ (side a.sides.x a.sides.width)
    (side a.sides.y a.sides.height) _ _ _ _ c.requires.1.wide
    c.requires.2.some
    (goes-as _ _ _ _ _ _ _ c.low-low.ensures.width c.low-low.ensures.height c.has_next.ensures c.if-not-has_next.true)
    c.nine_seven_back.ensures

-- where the low-low part has levels left: it begins at place b of the work area's n numbers
pub slice_bounds-back_levels-count : goal.slice_bounds-back_levels-count
slice_bounds-back_levels-count t c =
    let a = c.args in
    let W = side a.sides.x a.sides.width in
    let H = side a.sides.y a.sides.height in
    let n = length a.work.now in
    let b = a.sides.y % 2 * a.stride in
    let more = goes-yes _ _ _ (sym c.has_next.ensures ∙ c.if-not-has_next.false) in
    let rows : 0 < count lo H = rw c.low-low.ensures.height at more.2 in
    let room : b ≤ n = part_room _ _ W H rows c.requires.1 in
    omega (arith, room)

pub slice_bounds-back_levels-start : goal.slice_bounds-back_levels-start
slice_bounds-back_levels-start t c =
    let a = c.args in
    let W = side a.sides.x a.sides.width in
    let H = side a.sides.y a.sides.height in
    let n = length a.work.now in
    let b = a.sides.y % 2 * a.stride in
    let more = goes-yes _ _ _ (sym c.has_next.ensures ∙ c.if-not-has_next.false) in
    let rows : 0 < count lo H = rw c.low-low.ensures.height at more.2 in
    let room : b ≤ n = part_room _ _ W H rows c.requires.1 in
    omega (arith, room)

pub back_levels-requires : goal.back_levels-requires
back_levels-requires t c =
    let a = c.args in
    let W = side a.sides.x a.sides.width in
    let H = side a.sides.y a.sides.height in
    let n = length a.work.now in
    let b = a.sides.y % 2 * a.stride in
    let more = goes-yes _ _ _ (sym c.has_next.ensures ∙ c.if-not-has_next.false) in
    let rows : 0 < count lo H = rw c.low-low.ensures.height at more.2 in
    let room : b ≤ n = part_room _ _ W H rows c.requires.1 in
    let fit = mid-fits b n room in
    let two = more.0 in (
      omega arith,
      (
        rows-corner _ _ _ W H _ _ c.low-low.ensures.width c.low-low.ensures.height more.2 c.requires.0 refl,
        rows_next _ _ _ W H _ _ c.low-low.ensures.width c.low-low.ensures.height more.2 c.requires.1 (length-mid b (n - b) a.work.now fit),
        doubled _ _ W _ c.requires.2 two c.low-low.ensures.width,
        omega arith,
      ),
    )

-- the levels left have been called: their part is put back
pub returns-then-not-back_levels : goal.returns-then-not-back_levels
returns-then-not-back_levels t c =
    let a = c.args in
    let W = side a.sides.x a.sides.width in
    let H = side a.sides.y a.sides.height in
    let n = length a.work.now in
    let b = a.sides.y % 2 * a.stride in
    let more = goes-yes _ _ _ (sym c.has_next.ensures ∙ c.if-not-has_next.false) in
    let rows : 0 < count lo H = rw c.low-low.ensures.height at more.2 in
    let room : b ≤ n = part_room _ _ W H rows c.requires.1 in
    let fit = mid-fits b n room in
    back-no nine_seven_filter nine-seven-laws n _ _ _ _ b (n - b) W H
    _ _ _ _ _ _ _ _ c.requires.1 more.0 rows c.low-low.ensures.columns c.low-low.ensures.rows refl refl
    (at_mid b (n - b) a.work.now) c.back_levels.ensures
    (put-area _ _ a.work.now c.back_levels.new.work fit c.back_levels.auto.work)
    c.if-not-back_levels.true

pub slice_bounds-interleave_low-count : goal.slice_bounds-interleave_low-count
slice_bounds-interleave_low-count t c =
    let a = c.args in
    let W = side a.sides.x a.sides.width in
    let H = side a.sides.y a.sides.height in
    let n = length a.work.now in
    let b = a.sides.y % 2 * a.stride in
    let more = goes-yes _ _ _ (sym c.has_next.ensures ∙ c.if-not-has_next.false) in
    let rows : 0 < count lo H = rw c.low-low.ensures.height at more.2 in
    let room : b ≤ n = part_room _ _ W H rows c.requires.1 in
    let fit = mid-fits b n room in
    let work = put_mid b (n - b) a.work.now c.back_levels.new.work in
    let same : length work ≡ n = put_same _ _ a.work.now c.back_levels.new.work fit c.back_levels.auto.work in
    let fit' : b + (n - b) ≤ length work = rw same fit in
    omega (arith, room, same)

pub slice_bounds-interleave_low-start : goal.slice_bounds-interleave_low-start
slice_bounds-interleave_low-start t c =
    let a = c.args in
    let W = side a.sides.x a.sides.width in
    let H = side a.sides.y a.sides.height in
    let n = length a.work.now in
    let b = a.sides.y % 2 * a.stride in
    let more = goes-yes _ _ _ (sym c.has_next.ensures ∙ c.if-not-has_next.false) in
    let rows : 0 < count lo H = rw c.low-low.ensures.height at more.2 in
    let room : b ≤ n = part_room _ _ W H rows c.requires.1 in
    let fit = mid-fits b n room in
    let work = put_mid b (n - b) a.work.now c.back_levels.new.work in
    let same : length work ≡ n = put_same _ _ a.work.now c.back_levels.new.work fit c.back_levels.auto.work in
    let fit' : b + (n - b) ≤ length work = rw same fit in
    omega (arith, room, same)

pub interleave_low-requires : goal.interleave_low-requires
unfolding filter_of
interleave_low-requires t c =
    let a = c.args in
    let W = side a.sides.x a.sides.width in
    let H = side a.sides.y a.sides.height in
    let n = length a.work.now in
    let b = a.sides.y % 2 * a.stride in
    let more = goes-yes _ _ _ (sym c.has_next.ensures ∙ c.if-not-has_next.false) in
    let rows : 0 < count lo H = rw c.low-low.ensures.height at more.2 in
    let room : b ≤ n = part_room _ _ W H rows c.requires.1 in
    let fit = mid-fits b n room in
    let work = put_mid b (n - b) a.work.now c.back_levels.new.work in
    let same : length work ≡ n = put_same _ _ a.work.now c.back_levels.new.work fit c.back_levels.auto.work in
    let fit' : b + (n - b) ≤ length work = rw same fit in
    let two = more.0 in (
      rows_next _ _ _ W H _ _ c.low-low.ensures.width c.low-low.ensures.height more.2 c.requires.1 (length-mid b (n - b) work fit'),
      omega (arith, c.low-low.ensures.width, lows-few W, counts W, c.requires.2.narrow),
      omega arith,
    )

-- and its test
pub returns-then-not-interleave_low : goal.returns-then-not-interleave_low
unfolding filter_of
returns-then-not-interleave_low t c =
    let a = c.args in
    let W = side a.sides.x a.sides.width in
    let H = side a.sides.y a.sides.height in
    let n = length a.work.now in
    let b = a.sides.y % 2 * a.stride in
    let more = goes-yes _ _ _ (sym c.has_next.ensures ∙ c.if-not-has_next.false) in
    let rows : 0 < count lo H = rw c.low-low.ensures.height at more.2 in
    let room : b ≤ n = part_room _ _ W H rows c.requires.1 in
    let fit = mid-fits b n room in
    let work = put_mid b (n - b) a.work.now c.back_levels.new.work in
    let same : length work ≡ n = put_same _ _ a.work.now c.back_levels.new.work fit c.back_levels.auto.work in
    let fit' : b + (n - b) ≤ length work = rw same fit in
    back_low nine_seven_filter nine-seven-laws n _ _ _ _ b (n - b) W H
    _ _ _ _ _ _ _ _ c.requires.1 more.0 rows c.low-low.ensures.columns c.low-low.ensures.rows refl refl
    (at_mid b (n - b) a.work.now) c.back_levels.ensures
    (put-area _ _ a.work.now c.back_levels.new.work fit c.back_levels.auto.work)
    c.if-not-back_levels.false _ _ _ _ (at_mid b (n - b) work)
    (put-again _ _ a.work.now c.back_levels.new.work fit c.back_levels.auto.work) c.interleave_low.ensures.value
    c.interleave_low.ensures.work_after
    (put-area _ _ work c.interleave_low.new.work fit' c.interleave_low.auto.work)
    c.if-not-interleave_low.true

pub returns : goal.returns
unfolding filter_of
returns t c =
    let a = c.args in
    let W = side a.sides.x a.sides.width in
    let H = side a.sides.y a.sides.height in
    let n = length a.work.now in
    let b = a.sides.y % 2 * a.stride in
    let more = goes-yes _ _ _ (sym c.has_next.ensures ∙ c.if-not-has_next.false) in
    let rows : 0 < count lo H = rw c.low-low.ensures.height at more.2 in
    let room : b ≤ n = part_room _ _ W H rows c.requires.1 in
    let fit = mid-fits b n room in
    let work = put_mid b (n - b) a.work.now c.back_levels.new.work in
    let same : length work ≡ n = put_same _ _ a.work.now c.back_levels.new.work fit c.back_levels.auto.work in
    let fit' : b + (n - b) ≤ length work = rw same fit in
    back_step nine_seven_filter nine-seven-laws n _ _ _ _ b (n - b) W H
    _ _ _ _ _ _ _ _ c.requires.1 more.0 rows c.low-low.ensures.columns c.low-low.ensures.rows refl refl
    (at_mid b (n - b) a.work.now) c.back_levels.ensures
    (put-area _ _ a.work.now c.back_levels.new.work fit c.back_levels.auto.work)
    c.if-not-back_levels.false _ _ _ _ (at_mid b (n - b) work)
    (put-again _ _ a.work.now c.back_levels.new.work fit c.back_levels.auto.work) c.interleave_low.ensures.value
    c.interleave_low.ensures.work_after
    (put-area _ _ work c.interleave_low.new.work fit' c.interleave_low.auto.work)
    _ _ c.if-not-interleave_low.false c.nine_seven_back-2.ensures
