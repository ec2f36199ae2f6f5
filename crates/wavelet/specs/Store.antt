-- The line store of a writer or a reader of a map on the grid: r × (W(0) + ... + W(L−1)) numbers, r the rows of its columns that a level keeps. Document 01,
-- "The writer": four rows; document 02, Q-8: eight.
use Rattle.std.specs.Prelude.{ℕ, zero, suc, ◌+◌, ◌*◌, ◌/◌}
use Rattle.lifting.specs.Grid.{Side}
use Rattle.wavelet.specs.Levels.{side_at}

-- W(0) + ... + W(L−1)
unfoldable pub widths : Side → ℕ → ℕ
widths W zero = 0
widths W (suc L) = widths W L + (side_at L W).length

unfoldable pub store_length : ℕ → Side → ℕ → ℕ
store_length r W L = r * widths W L

-- The widths of w columns add up to no more at any number of levels up to max_levels, from which it follows (proofs/StoreLaws, `widths-most`); at that many
-- levels those of 2^k + 1 columns add up to just as many.
unfoldable pub any_widths : ℕ → ℕ
any_widths w = (31 * w + 49) / 16

-- enough for w columns at every number of levels
unfoldable pub any_length : ℕ → ℕ → ℕ
any_length r w = r * any_widths w
