-- A set worked out leaves every place past its level's stretch as it was, whatever stands in it. Assumes nothing.
use mathlib.Core.Bool.{Bool}
use Prim.Native.Nat.{ℕ, zero, suc, ◌+◌, ◌-◌, ◌*◌, ◌<◌}
use lib.IntN.{ℤ}
use lib.Dec.{ltb, leb}
use Rattle.lifting.specs.Grid.{Side, single_high}
use Rattle.level.specs.Stretch.{end_of}
use Rattle.level.proofs.KeptLaws.{kept-none}
use Rattle.level.proofs.WorkedPast.{Keeps, admits, either, after, bound, stays, rows-past, single-past, taken-past}
use Rattle.synthesis.specs.Columns.{Columns}
use Rattle.synthesis.specs.Work.{even_done, pair_made, own_even, first_made, pair_of, pair_before, pairs_made, earlier_made, most_made, last_made, rest_made}
use Rattle.synthesis.specs.Work.{rows_made, set_made, set_worked}
use Rattle.synthesis.proofs.ColumnLaws.{ColumnLaws}
use Rattle.synthesis.proofs.KeptLaws.{odd-kept, done-kept}

-- ---- a set worked out, in its level's stretch
module _ (C : Columns) (L : ColumnLaws C) (some : 0 < C.filter.rows) (k : ℕ) (W H : Side) where
  abbrev w : ℕ
  w = W.length

  abbrev m : ℕ
  m = C.filter.rows

  abbrev room : ℕ
  room = C.filter.rows * W.length

  pair-past : (i : ℕ) (x : ℕ → ℤ) → Keeps room x (pair_made C k w H i x)
  unfolding pair_made
  pair-past i x =
      bound room x _ _ (admits room m C.fits k w (2 * i + 1) x (C.odd k w H (2 * i + 1) x) (odd-kept C L k w H (2 * i + 1) x))
      (λ y. admits room m C.fits k w (2 * i + 2) y y (kept-none room y))

  first_past : (n : ℕ) (x : ℕ → ℤ) → Keeps room x (first_made C k w H n x)
  unfolding first_made
  first_past n x = either room x _ _ (admits room m C.fits k w (2 * n) x x (kept-none room x)) (stays some W H x) (own_even H n)

  before-past : (j n : ℕ) (x : ℕ → ℤ) → Keeps room x (pair_before C j k w H n x)
  unfolding pair_before
  before-past j n x = either room x _ _ (stays some W H x) (pair-past (pair_of n j) x) (ltb n j)

  most-past : (n : ℕ) (x : ℕ → ℤ) → Keeps room x (most_made C k w H n x)
  unfolding most_made
  most-past n x = bound room x _ _ (first_past n x) (before-past C.filter.ahead n)

  own-past : (j n : ℕ) (x : ℕ → ℤ) → Keeps room x (pairs_made C j k w H n x)
  unfolding pairs_made
  own-past zero n x = stays some W H x
  own-past (suc j) n x = bound room x _ _ (before-past (suc j) n x) (own-past j n)

  last-past : (n : ℕ) (x : ℕ → ℤ) → Keeps room x (last_made C k w H n x)
  unfolding last_made
  last-past n x =
      either room x _ _
      (either room x _ _ (single-past some W H C.fits k (2 * n + 1) x)
      (admits room m C.fits k w (2 * n + 1) x (C.odd k w H (2 * n + 1) x) (odd-kept C L k w H (2 * n + 1) x)) (single_high H))
      (stays some W H x) (ltb (2 * n + 1) (end_of H))

  rest-past : (n : ℕ) (x : ℕ → ℤ) → Keeps room x (rest_made C k w H n x)
  unfolding rest_made
  rest-past n x = either room x _ _ (bound room x _ _ (own-past (C.filter.ahead - 1) n x) (last-past n)) (stays some W H x) (leb (end_of H) (2 * n + 2))

  made-past : (n : ℕ) (x : ℕ → ℤ) → Keeps room x (rows_made C k w H n x)
  unfolding rows_made
  made-past n x = bound room x _ _ (most-past n x) (rest-past n)

  set_past : (n : ℕ) (x : ℕ → ℤ) → Keeps room x (set_made C k W H n x)
  unfolding set_made
  set_past n x = bound room x _ _ (rows-past some W H C.along n x)
      (λ y. after room y (even_done C k w H n y) _ (done-kept C L k w H n y) (made-past n (even_done C k w H n y)))

  pub worked-past : (last : Bool) (n : ℕ) (x : ℕ → ℤ) → Keeps room x (set_worked C last k W H n x)
  unfolding set_worked
  worked-past last n x = taken-past some W H (set_made C k W H n) (set_past n) last n x
