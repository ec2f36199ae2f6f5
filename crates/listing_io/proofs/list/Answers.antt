-- `listing_io::list`: there was a run, on areas as long as they have to be. Assumes nothing.
use mathlib.Core.Path.{refl}
use Rattle.lifting.specs.Grid.{count}
use Rattle.wavelet.specs.Limits.{max_levels}
use Rattle.wavelet.specs.Levels.{next, side_at}
use Rattle.wavelet.specs.Store.{widths, store_length}
use Rattle.filters.specs.Filters.{filter_of}
use Rattle.pgm.specs.Limits.{max_picture_width}
use Rattle.listing_io.proofs.RunLaws.{listed-is}
use Rattle.listing_io.proofs.list.Goals as goal

pub invariant_of-lister : goal.invariant_of-lister
unfolding max_levels max_picture_width filter_of store_length widths side_at next count
invariant_of-lister g c = record { lengths = (refl, refl) }

pub returns : goal.returns
returns g c = listed-is c.start.ensures c.run.ensures
