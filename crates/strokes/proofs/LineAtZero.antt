-- The values of a line that starts at coordinate 0, with the mirror worked out: inside, and at either end. Assumes nothing.
use mathlib.Core.Path.{◌≡◌, ◌∙◌}
use Prim.Native.Nat.{ℕ, ◌+◌, ◌-◌, ◌*◌, ◌≤◌, ◌<◌}
use native.Mathlib.Omega.{arith}
use lib.IntN.{ℤ}
use Rattle.lifting.specs.Line.{lo, hi, predicted, updated}
use Rattle.lifting.specs.Grid.{Side, side, place, count, line_forward}
use Rattle.lifting.specs.Passes.{near}
use Rattle.lifting.proofs.GridLaws.{ahead, high-near, low_near}

by_three : (f : ℤ → ℤ → ℤ → ℤ) (x : ℕ → ℤ) {p p' a a' b b' : ℕ} → p ≡ p' → a ≡ a' → b ≡ b' → f (x p) (x a) (x b) ≡ f (x p') (x a') (x b')
by_three f x p q r = λ i. f (x (p i)) (x (q i)) (x (r i))

by-highs : (f : ℤ → ℤ → ℤ → ℤ) (x y : ℕ → ℤ) {p p' a a' b b' : ℕ} → p ≡ p' → a ≡ a' → b ≡ b' → f (x p) (y a) (y b) ≡ f (x p') (y a') (y b')
by-highs f x y p q r = λ i. f (x (p i)) (y (q i)) (y (r i))

module _ (N n : ℕ) where
  abbrev S : Side
  S = side 0 N

  low-left : n < count hi S → place S lo (near (count lo S) (n + ahead S lo - 1)) ≡ 2 * n
  unfolding place count
  low-left b = omega arith

  low-right : 2 * n + 2 < N → place S lo (near (count lo S) (n + ahead S lo)) ≡ 2 * n + 2
  unfolding place count
  low-right b = omega arith

  low-none : 2 * n + 2 ≡ N → place S lo (near (count lo S) (n + ahead S lo)) ≡ 2 * n
  unfolding place count
  low-none b = omega arith

  high-left : n ≤ count hi S → 1 < N → near (count hi S) (n + ahead S hi - 1) ≡ n - 1
  unfolding count
  high-left b g = omega arith

  high-right : n < count hi S → near (count hi S) (n + ahead S hi) ≡ n
  unfolding count
  high-right b = omega arith

  high-none : 2 * n + 1 ≡ N → near (count hi S) (n + ahead S hi) ≡ n - 1
  unfolding count
  high-none b = omega arith

module _ (keep : ℤ → ℤ) (N : ℕ) (x : ℕ → ℤ) (n : ℕ) where
  abbrev d : ℕ → ℤ
  d = line_forward keep (side 0 N) x hi

  pub high-inner : 2 * n + 2 < N → line_forward keep (side 0 N) x hi n ≡ predicted keep (x (2 * n + 1)) (x (2 * n)) (x (2 * n + 2))
  unfolding place count
  high-inner b =
      high-near (side 0 N) (omega arith) keep x n (omega arith) ∙ by_three (predicted keep) x (omega arith) (low-left N n (omega arith)) (low-right N n b)

  pub high_end : 2 * n + 2 ≡ N → line_forward keep (side 0 N) x hi n ≡ predicted keep (x (2 * n + 1)) (x (2 * n)) (x (2 * n))
  unfolding place count
  high_end b =
      high-near (side 0 N) (omega arith) keep x n (omega arith) ∙ by_three (predicted keep) x (omega arith) (low-left N n (omega arith)) (low-none N n b)

  -- n - 1 is 0 where n is
  pub low-inner : 2 * n + 1 < N → line_forward keep (side 0 N) x lo n ≡ updated keep (x (2 * n)) (d (n - 1)) (d n)
  unfolding place count
  low-inner b =
      low_near (side 0 N) (omega arith) keep x n (omega arith)
      ∙ by-highs (updated keep) x d (omega arith) (high-left N n (omega arith) (omega arith)) (high-right N n (omega arith))

  pub low_end : 2 * n + 1 ≡ N → 1 < N → line_forward keep (side 0 N) x lo n ≡ updated keep (x (2 * n)) (d (n - 1)) (d (n - 1))
  unfolding place count
  low_end b g =
      low_near (side 0 N) g keep x n (omega arith) ∙ by-highs (updated keep) x d (omega arith) (high-left N n (omega arith) g) (high-none N n b)
