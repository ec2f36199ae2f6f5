-- `short::lift` meets its contract: the two passes come to it; a line of one number or none goes apart. Assumes nothing.
use mathlib.Core.Path.{refl, ◌∙◌}
use native.Mathlib.Omega.{arith}
use lib.ListN.{length}
use Rattle.lifting.specs.Grid.{side}
use Rattle.lifting.proofs.PassLaws.{lows-beside, highs-beside}
use Rattle.map_levels.proofs.ShortSums.{single-lifted, short-lifted}
use Rattle.map_levels.proofs.short.lift.Goals as goal

pub shape_of-line-then-n-lt2 : goal.shape_of-line-then-n-lt2
shape_of-line-then-n-lt2 c = c.lift.auto.line

pub returns-then-n-lt2 : goal.returns-then-n-lt2
returns-then-n-lt2 c =
    let a = c.args in
    single-lifted (side a.start (length a.line.now)) _ _ c.if-n-lt2.true c.lift.ensures

pub overflow_sub-b : goal.overflow_sub-b
overflow_sub-b c = omega arith

pub change_highs-requires : goal.change_highs-requires
change_highs-requires c =
    let a = c.args in
    lows-beside (side a.start (length a.line.now)) _ _ refl c.if-n-lt2.false c.low_count-low.ensures

pub change_lows-requires : goal.change_lows-requires
change_lows-requires c =
    let a = c.args in
    highs-beside (side a.start (length a.line.now)) _ _ c.change_highs.auto.line c.if-n-lt2.false c.low_count-low.ensures

pub shape_of-line : goal.shape_of-line
shape_of-line c = c.change_lows.auto.line ∙ c.change_highs.auto.line

pub returns : goal.returns
returns c =
    let a = c.args in
    let x = a.line.now in
    let more = c.if-n-lt2.false in
    short-lifted (side a.start (length x)) _ _ _ _ _ more c.low_count-low.ensures c.change_highs.auto.line c.change_highs.ensures
    c.change_lows.ensures
