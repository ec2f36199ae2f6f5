-- The rows that a set makes, at any look-ahead a. Assumes nothing.
use mathlib.Core.Path.{◌≡◌, refl}
use Prim.Native.Nat.{ℕ, zero, suc, ◌+◌, ◌-◌, ◌*◌, ◌/◌, ◌%◌, min, ◌≤◌, ◌<◌}
use native.Mathlib.Decide.{ℕ_discrete}
use native.Mathlib.Omega.{arith}
use Rattle.lifting.specs.Grid.{Side}
use Rattle.wavelet.specs.Order.{last_set}
use Rattle.wavelet.specs.Steps.{set_to, set_of}
use Rattle.level.specs.Stretch.{local, end_of}

first_to : (a q : ℕ) → q ≡ 0 → set_to a q ≡ 0
unfolding set_to
first_to a zero e = refl
first_to a (suc q) e = absurd (omega arith)

later-to : (a q : ℕ) → (q ≡ 0 → ⊥) → set_to a q ≡ (q - 1) / 2 + a
unfolding set_to
later-to a zero e = absurd (e refl)
later-to a (suc q) e = let z : suc q - 1 ≡ q = omega arith in rw z refl

module _ (a : ℕ) (one : 1 ≤ a) (H : Side) (n r : ℕ) where
  abbrev at : ℕ
  at = H.start % 2 + r

  set-zero : at ≡ 0 → set_of a H r ≡ n → n ≡ 0
  unfolding set_of
  set-zero e s = let z = first_to a at e in omega arith

  set_more : (at ≡ 0 → ⊥) → set_of a H r ≡ n → min ((at - 1) / 2 + a) (last_set H) ≡ n
  unfolding set_of
  set_more e s = let z = later-to a at e in omega arith

  -- none of them is before the row at 2(n − a) + 1,
  pub set-low : r < H.length → set_of a H r ≡ n → 2 * n < local H.start r + 2 * a
  unfolding local
  set-low b s = elim (ℕ_discrete at 0) [
    | yes z ↦ omega (arith, set-zero z s)
    | no z ↦ omega (arith, set_more z s)
  ]

  -- none of a set that is not the last past the row at 2(n − a) + 2, but a first row at an even coordinate
  pub set-high : r < H.length → set_of a H r ≡ n → suc n ≤ last_set H → local H.start r < suc (2 * n + 2 - 2 * a)
  unfolding local
  set-high b s l = elim (ℕ_discrete at 0) [
    | yes z ↦ omega arith
    | no z ↦ omega (arith, set_more z s)
  ]

  -- which is of set 0
  pub set_first : set_of a H r ≡ n → local H.start r < 1 → (H.start % 2 + n ≡ 0) × (r ≡ 0)
  unfolding local
  set_first s l = let z = set-zero (omega arith) s in (omega arith, omega arith)

  -- the rows at 2i + 1 and 2i + 2 are of set i + a, or of the last before it
  pub set_pair : (i : ℕ) → 2 * i < at → at ≤ 2 * i + 2 → 2 * n < end_of H → n ≤ i + a → ((n ≡ i + a → ⊥) → end_of H ≤ 2 * n + 2) → set_of a H r ≡ n
  unfolding set_of last_set end_of
  set_pair i u v l c f =
      let z = later-to a at (λ e. omega arith) in
      elim (ℕ_discrete n (i + a)) [
        | yes e ↦ omega arith
        | no e ↦ let y = f e in omega arith
      ]

pub set-start : (a : ℕ) (H : Side) (n : ℕ) → H.start % 2 + n ≡ 0 → set_of a H 0 ≡ n
unfolding set_of
set-start a H n e = let z = first_to a (H.start % 2 + 0) (omega arith) in omega arith
