-- The numbers of one half that number n of the other goes by. o is 1 where the other half begins the line, else 0 (Passes of `nine_seven`).
use Rattle.std.specs.Prelude.{◌≡◌, ℕ, ◌+◌, ◌-◌, ◌≤◌, ◌<◌}
use Rattle.lifting.specs.Passes.{near}
use Rattle.nine_seven.specs.Passes.{far_left, far_right}

-- the two of m beside it
pub record Beside (m o n l r : ℕ) : Type 0 where
  pub left : l ≡ near m (n + o - 1)
  pub right : r ≡ near m (n + o)

-- the four low ones around a high one
pub record Around (low high o n l r b a : ℕ) : Type 0 where
  pub left : l ≡ near low (n + o - 1)
  pub right : r ≡ near low (n + o)
  pub before : b ≡ far_left low o n
  pub after : a ≡ far_right low high o n

-- around any number: past the last high one they are 0
pub record AroundAny (low high o n l r b a : ℕ) : Type 0 where
  pub there : n < high → Around low high o n l r b a
  pub past : high ≤ n → (l ≡ 0) × (r ≡ 0) × (b ≡ 0) × (a ≡ 0)
