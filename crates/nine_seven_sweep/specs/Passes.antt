-- The turns of the two sweeps, as the private functions make them. P says where a row stands, by its half and its number there.
use Rattle.std.specs.Prelude.{ℕ, ◌+◌, ◌-◌, ◌*◌, ◌%◌, ◌≤◌, ◌<◌, ℤ, leb, ltb}
use Rattle.numbers.specs.Signal.{pick}
use Rattle.lifting.specs.Line.{Half, lo, hi}
use Rattle.lifting.specs.Grid.{Side, count}
use Rattle.lifting.specs.Passes.{near}
use Rattle.lifting.specs.Rows.{rows_changed}
use Rattle.nine_seven.specs.Passes.{far_left, far_right}
use Rattle.nine_seven.specs.Rows.{rows_by}

-- h rows of w numbers, s apart, lie within n numbers
pub record Rows (n s w h : ℕ) : Type 0 where
  pub some : 0 < w
  pub wide : w ≤ s
  pub room : (h - 1) * s + w ≤ n

-- where the rows stand in halves; in their own order it is `place`
unfoldable pub in_half : Side → Half → ℕ → ℕ
in_half H lo k = k
in_half H hi k = count lo H + k

-- high row k changed by f from its own numbers and those of four low rows, and low row k from those of two high ones, in an area of n numbers
abbrev pub high_changed : (ℤ → ℤ → ℤ → ℤ → ℤ → ℤ) → (Half → ℕ → ℕ) → ℕ → ℕ → ℕ → Side → ℕ → (ℕ → ℤ) → ℕ → ℤ
high_changed f P n s w H k x =
    rows_by f n s w (P hi k) (P lo (near (count lo H) (k + (1 - H.start % 2) - 1))) (P lo (near (count lo H) (k + (1 - H.start % 2))))
    (P lo (far_left (count lo H) (1 - H.start % 2) k)) (P lo (far_right (count lo H) (count hi H) (1 - H.start % 2) k)) x

abbrev pub low_changed : (ℤ → ℤ → ℤ → ℤ) → (Half → ℕ → ℕ) → ℕ → ℕ → ℕ → Side → ℕ → (ℕ → ℤ) → ℕ → ℤ
low_changed f P n s w H k x =
    rows_changed f n s w (P lo k) (P hi (near (count hi H) (k + H.start % 2 - 1))) (P hi (near (count hi H) (k + H.start % 2))) x

-- the same in turn k of row k − d, where there is one
abbrev pub high_turn : (ℤ → ℤ → ℤ → ℤ → ℤ → ℤ) → (Half → ℕ → ℕ) → ℕ → ℕ → ℕ → Side → ℕ → ℕ → (ℕ → ℤ) → ℕ → ℤ
high_turn f P n s w H k d x = pick (leb d k) (pick (ltb (k - d) (count hi H)) (high_changed f P n s w H (k - d) x) x) x

abbrev pub low_turn : (ℤ → ℤ → ℤ → ℤ) → (Half → ℕ → ℕ) → ℕ → ℕ → ℕ → Side → ℕ → ℕ → (ℕ → ℤ) → ℕ → ℤ
low_turn f P n s w H k d x = pick (leb d k) (pick (ltb (k - d) (count lo H)) (low_changed f P n s w H (k - d) x) x) x
