-- `reader_steps::sets::is_making` meets its contract: the definition's test. Assumes nothing.
use mathlib.Core.Path.{◌∙◌, ap}
use lib.Dec.{leb}
use Rattle.lifting.specs.Grid.{side}
use Rattle.wavelet.specs.Steps.{set_of}
use Rattle.reader_steps.specs.Sets.{ahead, makes}
use Rattle.reader_steps.proofs.sets.is_making.Goals as goal

pub returns : goal.returns
unfolding makes
returns c =
    let a = c.args in
    ap (λ m. leb m a.n) (c.set_of.ensures ∙ ap (set_of (ahead a.filter) (side a.y a.h)) c.first_row.ensures)
