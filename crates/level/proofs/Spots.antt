-- Where column i stands in a row in halves. Assumes nothing.
use mathlib.Core.Path.{◌≡◌}
use Prim.Native.Nat.{ℕ, ◌+◌, ◌*◌, ◌/◌, ◌%◌, ◌<◌}
use native.Mathlib.Decide.{ℕ_discrete}
use native.Mathlib.Omega.{arith}
use borrow.Author.Tests.{eq-eqb, ne_eqb}
use Rattle.lifting.specs.Line.{Half, lo, hi}
use Rattle.lifting.specs.Grid.{Side, place, count}
use Rattle.wavelet.proofs.SideLaws.{count-lo}
use Rattle.level.specs.Cells.{spot}
use Rattle.level.specs.Stretch.{half_place}

pub spot-even : (W : Side) (i : ℕ) → (W.start % 2 + i) % 2 ≡ 0 → spot W i ≡ i / 2
unfolding spot
spot-even W i e = simp (eq-eqb ((W.start % 2 + i) % 2) 0 e)

pub spot-odd : (W : Side) (i : ℕ) → ((W.start % 2 + i) % 2 ≡ 0 → ⊥) → spot W i ≡ count lo W + i / 2
unfolding spot
spot-odd W i e = simp (ne_eqb ((W.start % 2 + i) % 2) 0 e)

pub spot_in : (W : Side) (i : ℕ) → i < W.length → spot W i < W.length
spot_in W i h =
    elim (ℕ_discrete ((W.start % 2 + i) % 2) 0) [
      | yes e ↦ omega (arith, spot-even W i e)
      | no e ↦ omega (arith, spot-odd W i e, count-lo W, e)
    ]

pub spot-apart : (W : Side) (i j : ℕ) → i < W.length → j < W.length → spot W i ≡ spot W j → i ≡ j
spot-apart W i j p q h =
    elim (ℕ_discrete ((W.start % 2 + i) % 2) 0) [
      | yes a ↦
          elim (ℕ_discrete ((W.start % 2 + j) % 2) 0) [
            | yes b ↦ omega (arith, spot-even W i a, spot-even W j b)
            | no b ↦ omega (arith, spot-even W i a, spot-odd W j b, count-lo W, b)
          ]
      | no a ↦
          elim (ℕ_discrete ((W.start % 2 + j) % 2) 0) [
            | yes b ↦ omega (arith, spot-odd W i a, spot-even W j b, count-lo W, a)
            | no b ↦ omega (arith, spot-odd W i a, spot-odd W j b, a, b)
          ]
    ]

-- two columns on is one place on
pub spot_on : (W : Side) (c j : ℕ) → spot W (c + 2 * j) ≡ spot W c + j
spot_on W c j =
    elim (ℕ_discrete ((W.start % 2 + c) % 2) 0) [
      | yes e ↦
          let d : (W.start % 2 + (c + 2 * j)) % 2 ≡ 0 = omega arith in
          let h : (c + 2 * j) / 2 ≡ c / 2 + j = omega arith in
          omega (arith, spot-even W (c + 2 * j) d, spot-even W c e, h)
      | no e ↦
          let d : (W.start % 2 + (c + 2 * j)) % 2 ≡ 1 = omega (arith, e) in
          let h : (c + 2 * j) / 2 ≡ c / 2 + j = omega arith in
          omega (arith, spot-odd W (c + 2 * j) (λ z. omega arith), spot-odd W c e, h)
    ]

-- number i of a half stands at its place in the line
pub spot-place : (h : Half) (W : Side) (i : ℕ) → spot W (place W h i) ≡ half_place h W + i
unfolding place half_place
spot-place lo W i = omega (arith, spot-even W (place W lo i) (omega arith))
spot-place hi W i = omega (arith, spot-odd W (place W hi i) (λ e. omega arith))
