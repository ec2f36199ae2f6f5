-- `Listing::row_length` meets its contract: the definition's number. Assumes nothing.
use mathlib.Core.Path.{refl}
use Rattle.pgm.specs.Limits.{max_picture_width}
use Rattle.listing.proofs.listing.Listing.row_length.Goals as goal

pub returns : goal.returns
unfolding max_picture_width
returns c = refl
