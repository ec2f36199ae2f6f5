-- `short_back::unpredict_to` meets its contract: what is read and stored are 32-bit numbers read back. Assumes nothing.
use mathlib.Core.Path.{ap}
use lib.ListN.{set, length-set}
use Rattle.numbers.specs.Signal.{at}
use Rattle.numbers.proofs.Words.{read_back}
use Rattle.map_levels.specs.SweepBack.{short_unpredicted}
use Rattle.lifting.proofs.PlaceLaws.{bytes, step-read}
use Rattle.map_levels.proofs.short_back.unpredict_to.Goals as goal

pub offset_bounds-row-p : goal.offset_bounds-row-p
offset_bounds-row-p c = bytes _ _ c.requires.0 c.well_formed.0.1

pub bounds-row-p : goal.bounds-row-p
bounds-row-p c = c.requires.0

pub offset_bounds-out-a : goal.offset_bounds-out-a
offset_bounds-out-a c = bytes _ _ c.requires.1 c.well_formed.1.0.1

pub slice_copy_out-unpredict : goal.slice_copy_out-unpredict
slice_copy_out-unpredict c = c.requires.1

pub offset_bounds-out-b : goal.offset_bounds-out-b
offset_bounds-out-b c = bytes _ _ c.requires.2 c.well_formed.1.0.1

pub slice_copy_out-unpredict-2 : goal.slice_copy_out-unpredict-2
slice_copy_out-unpredict-2 c = c.requires.2

pub offset_bounds-out-p : goal.offset_bounds-out-p
offset_bounds-out-p c = bytes _ _ c.requires.3 c.well_formed.1.0.1

pub bounds-out-p : goal.bounds-out-p
bounds-out-p c = c.requires.3

pub shape_of-out : goal.shape_of-out
shape_of-out c = length-set c.args.out.now _ _

pub returns : goal.returns
returns c =
    let a = c.args in
    let l = a.row.now in
    let o = a.out.now in
    ap (set o a.p)
    (step-read short_unpredicted _ _ _ _ _ _ _ _ (read_back _ c.unpredict.type_inv) c.unpredict.ensures
    (read_back (at l a.p) c.unpredict-arg-1.given)
    (read_back (at o a.a) c.unpredict-arg-2-1.given) (read_back (at o a.b) c.unpredict-arg-3-1.given))
