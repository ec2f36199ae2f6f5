-- The filter of a number meets what is asked of a filter: `filter-laws`. Assumes nothing.
use Prim.Native.Nat.{ℕ, zero, suc}
use Rattle.lifting.proofs.FilterLaws.{FilterLaws}
use Rattle.lifting.proofs.FiveThreeFilter.{five-three-laws}
use Rattle.filters.specs.Filters.{filter_of}
use Rattle.nine_seven.proofs.NineSevenFilter.{nine-seven-laws}

pub filter-laws : (f : ℕ) → FilterLaws (filter_of f)
unfolding filter_of
filter-laws zero = five-three-laws
filter-laws (suc f) = nine-seven-laws
