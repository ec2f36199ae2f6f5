-- `lifting::halves::unlift_row` meets its contract: the two passes come to the definition. Assumes nothing.
use mathlib.Core.Path.{refl, sym, ◌∙◌}
use lib.ListN.{length}
use Rattle.lifting.specs.Grid.{side}
use Rattle.lifting.proofs.PassLaws.{lows-beside, highs-beside}
use Rattle.lifting.proofs.LiftLaws.{back-are}
use Rattle.lifting.proofs.halves.unlift_row.Goals as goal

pub unlift_lows-requires : goal.unlift_lows-requires
unlift_lows-requires c =
    let b = highs-beside (side c.args.start (length c.args.row.now)) _ _ refl c.requires.0 c.lows-low.ensures in
    (b, c.requires.1)

pub unlift_highs-requires : goal.unlift_highs-requires
unlift_highs-requires c =
    let b = lows-beside (side c.args.start (length c.args.row.now)) _ _ refl c.requires.0 c.lows-low.ensures in
    (b, c.requires.1 ∙ sym c.unlift_lows.auto.out)

pub returns : goal.returns
returns c =
    back-are (side c.args.start (length c.args.row.now)) _ _ _ _ _ c.requires.0 c.lows-low.ensures c.unlift_lows.ensures
    c.unlift_highs.ensures
