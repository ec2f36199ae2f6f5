-- The line store: the levels' memories one after another, level 1 first, each what the level of filter f keeps (`back_of f`). Document 01: it "needs
-- 4 × (W(0) + ... + W(L−1)) numbers", and "each level works in its own stretch"; document 02, Q-8: eight rows for the 9/7.
use Rattle.std.specs.Prelude.{ℕ, zero, suc, ◌+◌, ◌-◌, ℤ, pos, ltb, eqb}
use Rattle.numbers.specs.Signal.{pick}
use Rattle.lifting.specs.Halves.{fronted}
use Rattle.lifting.specs.Grid.{Side}
use Rattle.wavelet.specs.Levels.{side_at}
use Rattle.level.specs.Tried.{Tried, passed, onto}
use Rattle.synthesis.specs.Back.{back_of}
use Rattle.reader_steps.specs.Asked.{named}
use Rattle.reader_steps.specs.Places.{has_set}
use Rattle.reader.specs.Admission.{work_by}

-- where the stretch of level k + 1 begins: past those of the levels before it
unfoldable pub stretch_at : ℕ → Side → ℕ → ℕ
stretch_at f W zero = 0
stretch_at f W (suc k) = stretch_at f W k + (back_of f).stretch (side_at k W)

-- the store from place a on, and the store x with y from place a on
unfoldable pub from : ℕ → (ℕ → ℤ) → ℕ → ℤ
from a x j = x (a + j)

unfoldable pub behind : ℕ → (ℕ → ℤ) → (ℕ → ℤ) → ℕ → ℤ
behind a x y j = pick (ltb j a) (x j) (y (j - a))

-- the needed part, the first n numbers, zeroed
unfoldable pub zeroed : ℕ → (ℕ → ℤ) → ℕ → ℤ
zeroed n x = fronted n (λ _. pos 0) x

-- ---- at level k + 1, which splits the columns side_at k W and the rows side_at k H
-- the row with band code c of set n fed
unfoldable pub fed_at : ℕ → Side → Side → ℕ → ℕ → ℕ → (ℕ → ℤ) → (ℕ → ℤ) → ℕ → ℤ
fed_at f W H k n c v x =
    behind (stretch_at f W k) x ((back_of f).feed (side_at k W) (side_at k H).start (named c) n v (from (stretch_at f W k) x))

-- set n worked out, if the level has it
-- its rows are low-low values of level k of the columns W and the rows H, which are those of level b of a map: so of level b + k; a is the admission
unfoldable pub worked_at : ℕ → ℕ → ℕ → Side → Side → ℕ → ℕ → ℕ → (ℕ → ℤ) → Tried
worked_at a f b W H L k n x =
    pick (has_set (side_at k W) (side_at k H) n)
    (onto (behind (stretch_at f W k) x) (work_by a f (eqb (suc k) L) (b + k) (side_at k W) (side_at k H) n (from (stretch_at f W k) x)))
    (passed x)
