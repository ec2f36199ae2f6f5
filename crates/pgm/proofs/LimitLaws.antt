-- What the limits say of numbers. Assumes nothing.
use mathlib.Core.Path.{◌≡◌}
use mathlib.Core.Bool.{true}
use Prim.Native.Nat.{ℕ, ◌≤◌}
use lib.Dec.{leb}
use borrow.Author.Tests.{le-leb, leb-true}
use Rattle.numbers.proofs.Sweep.{both as split-both}
use Rattle.pgm.specs.Limits.{max_picture_width, max_picture_height, up_to, size_fits}

pub up-to : (m n : ℕ) → up_to m n ≡ true → (1 ≤ n) × (n ≤ m)
unfolding up_to
up-to m n e = let p = split-both (leb 1 n) (leb n m) e in (leb-true 1 n p.0, leb-true n m p.1)

pub is-up-to : (m n : ℕ) → 1 ≤ n → n ≤ m → up_to m n ≡ true
unfolding up_to
is-up-to m n a b = rw (le-leb 1 n a, le-leb n m b)

-- a size that fits
pub record Fits (W H : ℕ) : Type 0 where
  pub columns : (1 ≤ W) × (W ≤ max_picture_width)
  pub rows : (1 ≤ H) × (H ≤ max_picture_height)

pub size-fits : (W H : ℕ) → size_fits W H ≡ true → Fits W H
unfolding size_fits
size-fits W H e =
    let p = split-both (up_to max_picture_width W) (up_to max_picture_height H) e in
    record { columns = up-to max_picture_width W p.0; rows = up-to max_picture_height H p.1 }

-- ---- n heights as `limits::cells` counts them
