-- `Listing::start` meets its contract: the starts of its parts. Assumes nothing.
use mathlib.Core.Path.{ap, ◌∙◌}
use Rattle.lifting.specs.Grid.{side}
use Rattle.writer.specs.Calls.{fresh}
use Rattle.pgm.specs.InputSteps.{start_at}
use Rattle.listing.specs.States.{listed}
use Rattle.listing.proofs.listing.Listing.start.Goals as goal

pub returns : goal.returns
returns c =
    ap (λ i. listed i (fresh 0 (side 0 1) 0 1) c.none.result) c.start.ensures
    ∙ ap (listed (start_at 0) (fresh 0 (side 0 1) 0 1)) c.none.ensures
