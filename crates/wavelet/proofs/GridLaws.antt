-- The laws of a signal as rows of s numbers, `cells`, and of rows of s numbers as a signal, `flat`. Assumes nothing.
use mathlib.Core.Path.{◌≡◌, sym, ap, ◌∙◌}
use Prim.Native.Nat.{ℕ, ◌+◌, ◌*◌, ◌/◌, ◌%◌, ◌≤◌, ◌<◌}
use native.Mathlib.Omega.{arith}
use native.Mathlib.Nat.{mul-le-mul_right, div-lt_iff_lt-mul}
use lib.Arith.{digits_div, digits_mod}
use Rattle.wavelet.specs.Bands.{Grid}
use Rattle.wavelet.specs.Plane.{cells, flat}

-- place r · s + c is in row r, at column c
pub row-of : (s r c : ℕ) → c < s → (r * s + c) / s ≡ r
row-of s r c h = digits_div r h

pub column-of : (s r c : ℕ) → c < s → (r * s + c) % s ≡ c
column-of s r c h = digits_mod r h

-- a place of the first H rows
pub place-below : (s H r c : ℕ) → r < H → c < s → r * s + c < H * s
place-below s H r c h g = let m : (r + 1) * s ≤ H * s = mul-le-mul_right s (omega arith) in omega arith

pub row_below : (s H j : ℕ) → j < H * s → 0 < s → j / s < H
row_below s H j h p = (div-lt_iff_lt-mul p).1 h

-- a row's places are within the row
pub place-apart : (s r r' c c' : ℕ) → c < s → c' < s → r * s + c ≡ r' * s + c' → (r ≡ r') × (c ≡ c')
place-apart s r r' c c' h g e = (
  sym (row-of s r c h) ∙ ap (λ (j : ℕ). j / s) e ∙ row-of s r' c' g,
  sym (column-of s r c h) ∙ ap (λ (j : ℕ). j % s) e ∙ column-of s r' c' g,
)

-- a place of the signal that rows make
pub flat-at : (s : ℕ) (g : Grid) (r c : ℕ) → c < s → flat s g (r * s + c) ≡ g r c
unfolding flat
flat-at s g r c h = rw (row-of s r c h, column-of s r c h)

pub cells-flat : (s : ℕ) (g : Grid) (r c : ℕ) → c < s → cells s (flat s g) r c ≡ g r c
unfolding cells
cells-flat s g r c h = flat-at s g r c h
