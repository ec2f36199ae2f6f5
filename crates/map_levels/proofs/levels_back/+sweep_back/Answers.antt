use mathlib.Core.Path.{refl, sym, ◌∙◌}
use Prim.Native.Nat.{◌-◌, ◌*◌}
use native.Mathlib.Omega.{arith}
use Rattle.numbers.proofs.Parts.{length-mid}
use Rattle.lifting.specs.Grid.{side}
use Rattle.map_levels.proofs.LevelCalls.{put-area, put_same}
use Rattle.map_levels.proofs.LevelSteps.{next-side}
use Rattle.map_levels.proofs.TestLaws.{goes-as, goes-yes}
use Rattle.map_levels.proofs.SweepBackLevels.{low_end, room-low, room-same, low-fits, last-small, last_then, more_no, more-small, more-then, ranged-low}
use Rattle.map_levels.proofs.levels_back.+sweep_back.Goals as goal

-- the low-low part begins at place a of the work area
pub offset_bounds-work-a : goal.offset_bounds-work-a
offset_bounds-work-a t c =
    let a = c.args in
    let W = side a.sides.x a.sides.width in
    let H = side a.sides.y a.sides.height in
    let fit = low-fits _ _ _ _ _ _ W H c.requires.0 c.low_place-a.result c.low_place-a.ensures in
    omega (arith, fit)

pub slice_bounds-save_low-count : goal.slice_bounds-save_low-count
slice_bounds-save_low-count t c =
    let a = c.args in
    let W = side a.sides.x a.sides.width in
    let H = side a.sides.y a.sides.height in
    let fit = low-fits _ _ _ _ _ _ W H c.requires.0 c.low_place-a.result c.low_place-a.ensures in
    omega (arith, fit)

pub slice_bounds-save_low-start : goal.slice_bounds-save_low-start
slice_bounds-save_low-start t c =
    let a = c.args in
    let W = side a.sides.x a.sides.width in
    let H = side a.sides.y a.sides.height in
    let fit = low-fits _ _ _ _ _ _ W H c.requires.0 c.low_place-a.result c.low_place-a.ensures in
    omega (arith, fit)

pub save_low-requires : goal.save_low-requires
save_low-requires t c =
    let a = c.args in
    let W = side a.sides.x a.sides.width in
    let H = side a.sides.y a.sides.height in
    let fit = low-fits _ _ _ _ _ _ W H c.requires.0 c.low_place-a.result c.low_place-a.ensures in
    let n = a.sides.width * a.sides.height in
    let b = c.low_place-a.result in (
      c.requires.0.area.plane,
      omega (arith, low_end W H, c.low_place-a.ensures, length-mid b (n - b) a.work.now fit.2),
    )

-- the plane's low-low part is saved
pub level_back-requires : goal.level_back-requires
level_back-requires t c =
    let a = c.args in
    let W = side a.sides.x a.sides.width in
    let H = side a.sides.y a.sides.height in
    let fit = low-fits _ _ _ _ _ _ W H c.requires.0 c.low_place-a.result c.low_place-a.ensures in
    let n = a.sides.width * a.sides.height in
    let b = c.low_place-a.result in
    let go = goes-as _ _ _ _ _ _ _ c.low-low.ensures.width c.low-low.ensures.height c.has_next.ensures c.if-not-has_next.true in (
      room-same _ _ _ _ _ _ W H c.requires.0 _ _ _ refl (put_same _ _ a.work.now c.save_low.new.work fit.2 c.save_low.auto.work) refl,
      last-small a.level a.levels a.across b (n - b) W H _ _ _ _ _ c.requires.1 c.requires.2
          c.low_place-a.ensures refl
          (put-area _ _ a.work.now c.save_low.new.work fit.2 c.save_low.auto.work) c.requires.3 go c.save_low.ensures,
    )

pub returns-then-not-has_next : goal.returns-then-not-has_next
returns-then-not-has_next t c =
    let a = c.args in
    let W = side a.sides.x a.sides.width in
    let H = side a.sides.y a.sides.height in
    let fit = low-fits _ _ _ _ _ _ W H c.requires.0 c.low_place-a.result c.low_place-a.ensures in
    let n = a.sides.width * a.sides.height in
    let b = c.low_place-a.result in
    let go = goes-as _ _ _ _ _ _ _ c.low-low.ensures.width c.low-low.ensures.height c.has_next.ensures c.if-not-has_next.true in
    last_then a.level a.levels a.across b (n - b) W H _ _ _ _ _ c.requires.1 c.requires.2
    c.low_place-a.ensures refl (put-area _ _ a.work.now c.save_low.new.work fit.2 c.save_low.auto.work) c.requires.3 go
    c.save_low.ensures _ _ _ _ c.level_back.ensures

-- levels are left for the low-low part
pub offset_bounds-work-a-2 : goal.offset_bounds-work-a-2
offset_bounds-work-a-2 t c =
    let a = c.args in
    let W = side a.sides.x a.sides.width in
    let H = side a.sides.y a.sides.height in
    let fit = low-fits _ _ _ _ _ _ W H c.requires.0 c.low_place-a.result c.low_place-a.ensures in
    omega (arith, fit)

pub slice_bounds-sweep_back-count : goal.slice_bounds-sweep_back-count
slice_bounds-sweep_back-count t c =
    let a = c.args in
    let W = side a.sides.x a.sides.width in
    let H = side a.sides.y a.sides.height in
    let fit = low-fits _ _ _ _ _ _ W H c.requires.0 c.low_place-a.result c.low_place-a.ensures in
    omega (arith, fit)

pub slice_bounds-sweep_back-start : goal.slice_bounds-sweep_back-start
slice_bounds-sweep_back-start t c =
    let a = c.args in
    let W = side a.sides.x a.sides.width in
    let H = side a.sides.y a.sides.height in
    let fit = low-fits _ _ _ _ _ _ W H c.requires.0 c.low_place-a.result c.low_place-a.ensures in
    omega (arith, fit)

pub sweep_back-requires : goal.sweep_back-requires
sweep_back-requires t c =
    let a = c.args in
    let W = side a.sides.x a.sides.width in
    let H = side a.sides.y a.sides.height in
    let fit = low-fits _ _ _ _ _ _ W H c.requires.0 c.low_place-a.result c.low_place-a.ensures in
    let n = a.sides.width * a.sides.height in
    let b = c.low_place-a.result in
    let more = goes-yes _ _ _ (sym c.has_next.ensures ∙ c.if-not-has_next.false) in
    let two = more.0 in
    let sum = c.requires.2 in (
      omega arith,
      (
        room-low _ _ _ _ _ _ W H c.requires.0 _ _ _ _ b _ c.low-low.ensures.width c.low-low.ensures.height more.1 more.2 (omega arith)
            c.low_place-a.ensures (length-mid b (n - b) a.work.now fit.2),
        omega arith,
        omega arith,
        ranged-low a.level a.levels W H _ _ _ two c.low-low.ensures.columns
            c.low-low.ensures.rows c.requires.3,
      ),
    )

-- they have been called: their part is put back
pub returns-then-not-sweep_back : goal.returns-then-not-sweep_back
returns-then-not-sweep_back t c =
    let a = c.args in
    let W = side a.sides.x a.sides.width in
    let H = side a.sides.y a.sides.height in
    let fit = low-fits _ _ _ _ _ _ W H c.requires.0 c.low_place-a.result c.low_place-a.ensures in
    let n = a.sides.width * a.sides.height in
    let b = c.low_place-a.result in
    let more = goes-yes _ _ _ (sym c.has_next.ensures ∙ c.if-not-has_next.false) in
    more_no a.level a.levels a.across b (n - b) W H _ _ _ _ _ c.requires.1 c.requires.2
    c.low_place-a.ensures refl (put-area _ _ a.work.now c.sweep_back.new.work fit.2 c.sweep_back.auto.work) c.requires.3 _ _
    c.low-low.ensures.columns c.low-low.ensures.rows
    more.0 _ _ _ c.sweep_back.ensures c.if-not-sweep_back.true

pub level_back-requires-2 : goal.level_back-requires-2
level_back-requires-2 t c =
    let a = c.args in
    let W = side a.sides.x a.sides.width in
    let H = side a.sides.y a.sides.height in
    let fit = low-fits _ _ _ _ _ _ W H c.requires.0 c.low_place-a.result c.low_place-a.ensures in
    let n = a.sides.width * a.sides.height in
    let b = c.low_place-a.result in
    let more = goes-yes _ _ _ (sym c.has_next.ensures ∙ c.if-not-has_next.false) in
    let same = c.sweep_back.auto in (
      room-same _ _ _ _ _ _ W H c.requires.0 _ _ _ same.heights (put_same _ _ a.work.now c.sweep_back.new.work fit.2 same.work) same.lines,
      more-small a.level a.levels a.across b (n - b) W H _ _ _ _ _ c.requires.1 c.requires.2
          c.low_place-a.ensures refl (put-area _ _ a.work.now c.sweep_back.new.work fit.2 same.work) c.requires.3 _ _
          c.low-low.ensures.columns c.low-low.ensures.rows
          more.0 _ _ _ c.sweep_back.ensures c.if-not-sweep_back.false,
    )

pub returns : goal.returns
returns t c =
    let a = c.args in
    let W = side a.sides.x a.sides.width in
    let H = side a.sides.y a.sides.height in
    let fit = low-fits _ _ _ _ _ _ W H c.requires.0 c.low_place-a.result c.low_place-a.ensures in
    let n = a.sides.width * a.sides.height in
    let b = c.low_place-a.result in
    let more = goes-yes _ _ _ (sym c.has_next.ensures ∙ c.if-not-has_next.false) in
    more-then a.level a.levels a.across b (n - b) W H _ _ _ _ _ c.requires.1 c.requires.2
    c.low_place-a.ensures refl (put-area _ _ a.work.now c.sweep_back.new.work fit.2 c.sweep_back.auto.work) c.requires.3 _ _
    c.low-low.ensures.columns c.low-low.ensures.rows
    more.0 _ _ _ c.sweep_back.ensures c.if-not-sweep_back.false _ _ _ c.level_back-2.ensures
