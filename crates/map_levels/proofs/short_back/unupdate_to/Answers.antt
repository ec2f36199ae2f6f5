-- `short_back::unupdate_to` meets its contract: what is read and stored are 32-bit numbers read back. Assumes nothing.
use mathlib.Core.Path.{ap}
use lib.ListN.{set, length-set}
use Rattle.numbers.specs.Signal.{at}
use Rattle.numbers.proofs.Words.{read_back}
use Rattle.map_levels.specs.SweepBack.{short_unupdated}
use Rattle.lifting.proofs.PlaceLaws.{bytes, step-read}
use Rattle.map_levels.proofs.short_back.unupdate_to.Goals as goal

pub offset_bounds-low-p : goal.offset_bounds-low-p
offset_bounds-low-p c = bytes _ _ c.requires.0 c.well_formed.0.1

pub bounds-low-p : goal.bounds-low-p
bounds-low-p c = c.requires.0

pub offset_bounds-row-a : goal.offset_bounds-row-a
offset_bounds-row-a c = bytes _ _ c.requires.1 c.well_formed.1.0.1

pub bounds-row-a : goal.bounds-row-a
bounds-row-a c = c.requires.1

pub offset_bounds-row-b : goal.offset_bounds-row-b
offset_bounds-row-b c = bytes _ _ c.requires.2 c.well_formed.1.0.1

pub bounds-row-b : goal.bounds-row-b
bounds-row-b c = c.requires.2

pub offset_bounds-out-p : goal.offset_bounds-out-p
offset_bounds-out-p c = bytes _ _ c.requires.3 c.well_formed.1.1.0.1

pub bounds-out-p : goal.bounds-out-p
bounds-out-p c = c.requires.3

pub shape_of-out : goal.shape_of-out
shape_of-out c = length-set c.args.out.now _ _

pub returns : goal.returns
returns c =
    let a = c.args in
    let w = a.low.now in
    let l = a.row.now in
    let o = a.out.now in
    ap (set o a.p)
    (step-read short_unupdated _ _ _ _ _ _ _ _ (read_back _ c.unupdate.type_inv) c.unupdate.ensures
    (read_back (at w a.p) c.unupdate-arg-1.given)
    (read_back (at l a.a) c.unupdate-arg-2-1.given) (read_back (at l a.b) c.unupdate-arg-3-1.given))
