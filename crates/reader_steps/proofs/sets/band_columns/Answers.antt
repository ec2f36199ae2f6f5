-- `reader_steps::sets::band_columns` meets its contract: a half of the side, by the band's code. Assumes nothing.
use mathlib.Core.Path.{sym, ◌∙◌}
use Rattle.lifting.specs.Grid.{side}
use Rattle.reader_steps.proofs.SetLaws.{across-low, across-high}
use Rattle.reader_steps.proofs.sets.band_columns.Goals as goal

pub returns-then-band : goal.returns-then-band
returns-then-band c =
    let a = c.args in
    c.low_count.ensures ∙ sym (across-low (side a.x a.w) a.band c.if-band.true)

pub returns-else-band : goal.returns-else-band
returns-else-band c =
    let a = c.args in
    c.high_count.ensures ∙ sym (across-high (side a.x a.w) a.band c.if-band.false)
