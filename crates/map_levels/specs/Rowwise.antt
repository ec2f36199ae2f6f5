-- What is done to one row of numbers.
use Rattle.std.specs.Prelude.{ℕ, ℤ, pos, ◌*ℤ◌, ltb}
use Rattle.std.specs.Int.Signed.{shr_z}
use Rattle.numbers.specs.Signal.{pick}
use Rattle.numbers.specs.Word.{wrap32}
use Rattle.lifting.specs.Halves.{fronted}
use Rattle.lifting.specs.Grid.{Side, deinterleaved, joined}
use Rattle.lifting.specs.GridHalves.{halves_of, in_halves}
-- a slice of u16 heights as a signal of whole numbers, and a number from low to high
pub use Rattle.areas.specs.Areas.{heights_at}
unfoldable pub use Rattle.areas.specs.Areas.{between}

-- the first n numbers of x, 0 past them: what a part of n numbers is as a signal
unfoldable pub cut : ℕ → (ℕ → ℤ) → ℕ → ℤ
cut n x j = pick (ltb j n) (x j) (pos 0)

-- a line from its own order into halves, and from halves into its own order, in place
unfoldable pub deinterleaved_in_place : Side → (ℕ → ℤ) → ℕ → ℤ
deinterleaved_in_place S y = in_halves S (deinterleaved S y) y

unfoldable pub interleaved_in_place : Side → (ℕ → ℤ) → ℕ → ℤ
interleaved_in_place S y = fronted S.length (joined S (halves_of S y)) y

-- the first n numbers doubled, as 32 bits keep them, and halved
unfoldable pub doubled_in_place : ℕ → (ℕ → ℤ) → ℕ → ℤ
doubled_in_place n y = fronted n (λ i. wrap32 (pos 2 *ℤ y i)) y

unfoldable pub halved_in_place : ℕ → (ℕ → ℤ) → ℕ → ℤ
halved_in_place n y = fronted n (λ i. shr_z (y i) 2) y
