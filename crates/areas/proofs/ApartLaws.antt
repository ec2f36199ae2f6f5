-- The laws of two stretches of an area, one before the other. Assumes nothing.
use mathlib.Core.Path.{◌≡◌, refl, sym, ◌∙◌}
use mathlib.Core.Bool.{Bool, true, false, not}
use Prim.Native.Nat.{ℕ, ◌+◌, ◌-◌, ◌≤◌}
use native.Mathlib.Omega.{arith}
use borrow.Author.Tests.{le-leb, lt-leb, leb-true, not-true, not-false}
use lib.Dec.{leb}
use native.Mathlib.Decide.{dec_le}
use Rattle.numbers.proofs.Sweep.{both as both_hold}
use Rattle.numbers.specs.Signal.{both}

-- ---- n numbers at place `to` that end before n numbers at place `from` begin, and these within len
module _ (len from to n : ℕ) where
  pub apart-is : both (leb (to + n) from) (leb (from + n) len) ≡ true → (to + n ≤ from) × (from + n ≤ len)
  apart-is e =
      let h = both_hold (leb (to + n) from) (leb (from + n) len) e in
      (leb-true (to + n) from h.0, leb-true (from + n) len h.1)

  -- where the call that asks it goes on, and where it does not
  pub apart-on : (b : Bool) → b ≡ both (leb (to + n) from) (leb (from + n) len) → not b ≡ false → (to + n ≤ from) × (from + n ≤ len)
  apart-on b e h = apart-is (sym e ∙ not-false b h)

  pub apart-off : (b : Bool) → b ≡ both (leb (to + n) from) (leb (from + n) len) → not b ≡ true → both (leb (to + n) from) (leb (from + n) len) ≡ false
  apart-off b e h = sym e ∙ not-true b h

  pub not-apart : (to + n ≤ from → from + n ≤ len → ⊥) → false ≡ both (leb (to + n) from) (leb (from + n) len)
  not-apart bad =
      elim (dec_le (to + n) from) [
        | yes p ↦ elim (dec_le (from + n) len) [
          | yes q ↦ absurd (bad p q)
          | no q ↦ rw (le-leb (to + n) from p, lt-leb (from + n) len (omega arith)) refl
        ]
        | no p ↦ rw (lt-leb (to + n) from (omega arith)) refl
      ]

  pub apart-last : to + n ≤ from → n ≤ len → leb from (len - n) ≡ both (leb (to + n) from) (leb (from + n) len)
  apart-last p h =
      elim (dec_le (from + n) len) [
        | yes q ↦ rw (le-leb (to + n) from p, le-leb (from + n) len q, le-leb from (len - n) (omega arith)) refl
        | no q ↦ rw (le-leb (to + n) from p, lt-leb (from + n) len (omega arith), lt-leb from (len - n) (omega arith)) refl
      ]
