-- `reader_steps::sets::band_row` meets its contract: the set's number, or less where its low rows begin later. Assumes nothing.
use mathlib.Core.Path.{sym}
use native.Mathlib.Omega.{arith}
use Rattle.lifting.specs.Grid.{side}
use Rattle.reader_steps.proofs.SetLaws.{row_low, row-hi}
use Rattle.reader_steps.proofs.sets.band_row.Goals as goal

pub returns-then-band-gt1 : goal.returns-then-band-gt1
returns-then-band-gt1 c = let a = c.args in sym (row-hi (side a.y a.h) a.band a.n (omega arith))

pub returns-then-n-p : goal.returns-then-n-p
returns-then-n-p c =
    let a = c.args in
    omega (arith, row_low (side a.y a.h) a.band a.n (omega arith))

pub returns-else-n-p : goal.returns-else-n-p
returns-else-n-p c =
    let a = c.args in
    omega (arith, row_low (side a.y a.h) a.band a.n (omega arith))
