-- `lifting::line::lift` meets its contract: the two passes come to it; a line of one number or none goes apart. Assumes nothing.
use mathlib.Core.Path.{refl}
use lib.ListN.{length}
use Rattle.lifting.specs.Grid.{side}
use Rattle.lifting.proofs.PassLaws.{lows-beside, highs-beside, lifted-by}
use Rattle.lifting.proofs.line.lift.Goals as goal

pub lift_single-requires : goal.lift_single-requires
lift_single-requires c = c.if-n-lt2.true

pub returns-then-n-lt2 : goal.returns-then-n-lt2
returns-then-n-lt2 c = c.lift_single.ensures

pub change_highs-requires : goal.change_highs-requires
change_highs-requires c =
    let a = c.args in
    lows-beside (side a.start (length a.line.now)) _ _ refl c.if-n-lt2.false c.lows-low.ensures

pub change_lows-requires : goal.change_lows-requires
change_lows-requires c =
    let a = c.args in
    highs-beside (side a.start (length a.line.now)) _ _ c.change_highs.auto.line c.if-n-lt2.false c.lows-low.ensures

pub returns : goal.returns
returns c =
    let a = c.args in
    let x = a.line.now in
    let more = c.if-n-lt2.false in
    lifted-by (side a.start (length x)) _ x c.change_highs.new.line c.change_lows.new.line refl c.change_highs.auto.line more
    c.lows-low.ensures c.change_highs.ensures c.change_lows.ensures
