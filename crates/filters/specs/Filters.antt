-- The filters by their numbers. Document 02, Q-8: "0 the 5/3, 1 this one"; any other is refused (18) before it is asked here.
use Rattle.std.specs.Prelude.{Bool, ℕ, zero, suc, leb}
use Rattle.lifting.specs.Filter.{Filter}
use Rattle.lifting.specs.FiveThree.{five_three_filter}
use Rattle.nine_seven.specs.NineSevenFilter.{nine_seven_filter}

unfoldable pub filter_of : ℕ → Filter
filter_of zero = five_three_filter
filter_of (suc n) = nine_seven_filter

-- question 18: "if the filter is unknown"
unfoldable pub is_filter : ℕ → Bool
is_filter f = leb f 1
