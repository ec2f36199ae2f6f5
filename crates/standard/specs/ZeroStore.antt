-- The line store of a writer or a reader: "4 × (W(0) + ... + W(L−1)) numbers". Document 01, "The writer".
use Rattle.std.specs.Prelude.{ℕ, zero, suc, ◌+◌, ◌*◌}
use Rattle.standard.specs.ZeroLevels.{size}

-- W(0) + ... + W(L−1)
unfoldable pub widths : ℕ → ℕ → ℕ
widths W zero = 0
widths W (suc L) = widths W L + size L W

unfoldable pub store_length : ℕ → ℕ → ℕ
store_length W L = 4 * widths W L
