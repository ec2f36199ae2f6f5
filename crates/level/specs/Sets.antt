-- The sets that the rows of a level need, at the look-ahead a. Which set makes a row: wavelet/specs/Steps, `set_of`.
use Rattle.std.specs.Prelude.{Bool, ℕ, suc, ltb}
use Rattle.lifting.specs.Grid.{Side}
use Rattle.wavelet.specs.Steps.{sets_before}

-- row r needs a set that no row before it needs
unfoldable pub opens : ℕ → Side → ℕ → Bool
opens a H r = ltb (sets_before a H r) (sets_before a H (suc r))
