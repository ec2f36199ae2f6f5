-- What a stream needs by its filter's number. Document 02, Q-8: 1 to 5 levels and four rows a level for the 5/3, 1 to 4 levels and eight rows for the 9/7.
use Rattle.std.specs.Prelude.{Bool, ℕ, ◌+◌}
use Rattle.numbers.specs.Signal.{both}
use Rattle.lifting.specs.Grid.{Side}
use Rattle.wavelet.specs.Limits.{max_width}
use Rattle.wavelet.specs.Questions.{within}
use Rattle.wavelet.specs.Store.{store_length, any_length}
use Rattle.filters.specs.Filters.{filter_of, is_filter}

-- the numbers of its line store, of the columns W at L levels
abbrev pub store_by : ℕ → Side → ℕ → ℕ
store_by f = store_length (filter_of f).rows

-- and of a writer's, the levels' stretches and the spare row. Document 02, Q-2: "one more row of W numbers right after the levels' stretches ...
-- question 5 counts it for the writer only"
abbrev pub writer_store_by : ℕ → Side → ℕ → ℕ
writer_store_by f W L = store_by f W L + W.length

-- enough for w columns, wherever they start, at every number of levels
abbrev pub any_by : ℕ → ℕ → ℕ
any_by f = any_length (filter_of f).rows

-- questions 2, 18 and 4 pass
unfoldable pub streamable : ℕ → Side → ℕ → Bool
streamable f W L = both (is_filter f) (both (within 1 max_width W.length) (within 1 (filter_of f).levels L))
