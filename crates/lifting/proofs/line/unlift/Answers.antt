-- `lifting::line::unlift` meets its contract: the two passes come to it; a line of one number or none goes apart. Assumes nothing.
use mathlib.Core.Path.{refl}
use lib.ListN.{length}
use Rattle.numbers.specs.Signal.{at}
use Rattle.lifting.specs.Grid.{side}
use Rattle.lifting.proofs.PassLaws.{lows-beside, highs-beside, unlifted-by}
use Rattle.lifting.proofs.SingleLaws.{has_more}
use Rattle.lifting.proofs.line.unlift.Goals as goal

pub change_lows-requires : goal.change_lows-requires
change_lows-requires c =
    let a = c.args in
    highs-beside (side a.start (length a.line.now)) _ _ refl c.if-n-lt2.false c.lows-low.ensures

pub change_highs-requires : goal.change_highs-requires
change_highs-requires c =
    let a = c.args in
    lows-beside (side a.start (length a.line.now)) _ _ c.change_lows.auto.line c.if-n-lt2.false c.lows-low.ensures

pub returns : goal.returns
returns c =
    let a = c.args in
    let x = a.line.now in
    let more = c.if-n-lt2.false in
    let has = has_more (side a.start (length x)) (at x) more in
    record {
      value = simp has;
      line_after = simp has (unlifted-by (side a.start (length x)) _ x c.change_lows.new.line c.change_highs.new.line refl
          c.change_lows.auto.line more c.lows-low.ensures c.change_lows.ensures c.change_highs.ensures);
    }
