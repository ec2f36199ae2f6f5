-- A test of every number of a row, or of a column, gathered number by number. Assumes nothing.
use mathlib.Core.Path.{◌≡◌, refl, sym, ap, ◌∙◌}
use mathlib.Core.List.{List}
use mathlib.Core.Bool.{Bool, true, false, ◌&&◌}
use Prim.Native.Nat.{ℕ, suc, ◌+◌, ◌*◌, ◌≤◌, ◌<◌}
use native.Mathlib.Decide.{dec_lt}
use native.Mathlib.Nat.{mul-le-mul_right}
use native.Mathlib.Omega.{arith}
use lib.IntN.{ℤ, pos}
use lib.ListN.{length, get_or-eq_default}
use Rattle.numbers.specs.Signal.{at, both}
use Rattle.numbers.specs.Tests.{every}
use Rattle.numbers.proofs.TestLaws.{every-each, each-every}
use Rattle.lifting.specs.Grid.{is_even}

and_both : (a b : Bool) → a && b ≡ both a b
and_both true b = refl
and_both false b = refl

pub even-start : (p : ℕ → Bool) → true ≡ every 0 p
unfolding every
even-start p = refl

pub even-turn : (ok t : Bool) (i : ℕ) (p : ℕ → Bool) → ok ≡ every i p → t ≡ p i → ok && t ≡ every (i + 1) p
unfolding every
even-turn ok t i p is now =
    let e : i + 1 ≡ suc i = omega arith in
    rw e (and_both ok t ∙ (λ j. both (is j) (now j)))

pub even-end : (ok : Bool) (i n : ℕ) (p : ℕ → Bool) → i ≤ n → n ≤ i → ok ≡ every i p → ok ≡ every n p
even-end ok i n p le ge is = let e : i ≡ n = omega arith in rw e at is

-- ---- one no is enough
pub not-every : (p : ℕ → Bool) (n i : ℕ) → i < n → p i ≡ false → (t : Bool) → every n p ≡ t → t ≡ false
not-every p n i b odd true e = sym (every-each n p e i b) ∙ odd
not-every p n i b odd false e = refl

-- ---- the first numbers of rows that are s apart: i of n are even, and the next one stands at place p
pub record Column (l : List ℤ) (s n p i : ℕ) : Type 0 where
  pub within : i ≤ n
  pub place : p ≡ i * s
  pub even : every i (λ j. is_even (at l (j * s))) ≡ true

module _ (l : List ℤ) (s n : ℕ) where
  abbrev first : ℕ → Bool
  first j = is_even (at l (j * s))

  pub column-start : Column l s n 0 0
  column-start = record { within = omega arith; place = omega arith; even = sym (even-start first) }

  module _ (p i : ℕ) (h : Column l s n p i) where
    here : is_even (at l p) ≡ first i
    here = ap (λ (q : ℕ). is_even (at l q)) h.place

    pub column-next : i < n → is_even (at l p) ≡ true → Column l s n (p + s) (i + 1)
    column-next b e = record {
      within = omega arith;
      place = omega (arith, h.place);
      even = sym (even-turn true true i first (sym h.even) (sym e ∙ here));
    }

    pub column-odd : i < n → is_even (at l p) ≡ false → false ≡ every n first
    column-odd b e = sym (not-every first n i b (sym here ∙ e) (every n first) refl)

    -- past the end of the area stands 0
    pub column-past : length l ≤ p → true ≡ every n first
    unfolding is_even
    column-past b = sym (each-every n first (λ j _. elim (dec_lt j i) [
      | yes q ↦ every-each i first h.even j q
      | no q ↦ let le : i ≤ j = omega arith in even-none j (omega (arith, h.place, mul-le-mul_right s le))
    ]))
      where
        even-none : (j : ℕ) → length l ≤ j * s → first j ≡ true
        even-none j r = ap is_even (get_or-eq_default l (pos 0) r)

    pub column-end : n ≤ i → true ≡ every n first
    column-end b = even-end true i n first h.within b (sym h.even)

  pub column-last : (p i : ℕ) → Column l s n p i → i < n → is_even (at l p) ≡ true → length l ≤ p + s → true ≡ every n first
  column-last p i h b e r = column-past (p + s) (i + 1) (column-next p i h b e) r
