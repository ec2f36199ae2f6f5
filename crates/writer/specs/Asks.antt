-- The questions of the writer's set-up in plain numbers (wavelet's Asks).
use Rattle.std.specs.Prelude.{ℕ, ◌+◌, ◌≤◌}
use Rattle.lifting.specs.Grid.{Side}
use Rattle.wavelet.specs.Asks.{Asks, Passes, Width, Known, Levels, needed}

-- what its line store needs: the levels' stretches, and the spare row (document 02, Q-2)
abbrev pub writer_needed : ℕ → Side → ℕ → ℕ
writer_needed f W L = needed f W L + W.length

-- of columns W at L levels, by the filter of number f, on a store of n numbers: it need not know how many rows will come
abbrev pub WriterSetUpAsks : ℕ → Side → ℕ → ℕ → ℕ → Type 0
WriterSetUpAsks f W L n = Asks 2 (Width W.length) (Asks 18 (Known f) (Asks 4 (Levels f L) (Asks 5 (writer_needed f W L ≤ n) Passes)))
