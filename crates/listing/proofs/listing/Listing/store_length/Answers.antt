-- `Listing::store-length` meets its contract: the definition's number. Assumes nothing.
use mathlib.Core.Path.{refl}
use Rattle.lifting.specs.Grid.{count}
use Rattle.wavelet.specs.Limits.{max_levels}
use Rattle.wavelet.specs.Levels.{next, side_at}
use Rattle.wavelet.specs.Store.{widths, store_length}
use Rattle.filters.specs.Filters.{filter_of}
use Rattle.pgm.specs.Limits.{max_picture_width}
use Rattle.listing.proofs.listing.Listing.store_length.Goals as goal

pub returns : goal.returns
unfolding max_levels max_picture_width filter_of store_length widths side_at next count
returns c = refl
