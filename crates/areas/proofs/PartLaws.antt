-- A row in halves whose line starts at any coordinate: its even places are one half and its odd places the other, whichever these are. Assumes nothing.
use mathlib.Core.Path.{◌≡◌, refl, sym, ap, ◌∙◌, subst, fun_ext}
use mathlib.Core.List.{List}
use Prim.Native.Nat.{ℕ, ◌+◌, ◌-◌, ◌*◌, ◌/◌, ◌%◌, ◌≤◌, ◌<◌}
use native.Mathlib.Omega.{arith}
use lib.IntN.{ℤ}
use lib.ListN.{set}
use Rattle.numbers.specs.Signal.{spliced}
use Rattle.numbers.proofs.Sweep.{Swept, store}
use Rattle.numbers.proofs.Parts.{splice-below, splice-in, splice-past}
use Rattle.lifting.specs.Line.{Half, lo, hi}
use Rattle.lifting.specs.Grid.{Side, half, count, place, deinterleaved, joined}
use Rattle.lifting.specs.GridHalves.{halves_of, in_halves, deinterleaved_into}
use Rattle.lifting.proofs.GridLaws.{halves_are}
use Rattle.areas.specs.Places.{begins}
use Rattle.areas.proofs.HalfLaws.{evens, odds, by-parity, evens-fit, odds-fit, evens-last, odds-first}
use Rattle.areas.proofs.Splices.{splice-swap}

-- ---- m numbers f laid in memory z from place a on
module _ (a m : ℕ) (f z : ℕ → ℤ) where
  splice_at : (p n : ℕ) → p ≡ a + n → n < m → spliced a m f z p ≡ f n
  splice_at p n e h = splice-in a m f z p (omega arith) (omega arith) ∙ ap f (omega arith)

  -- a turn of the loop that does it
  pub splice-turn : (L n : ℕ) (l : List ℤ) → n < m → a + m ≤ L → Swept L (spliced a m f z) z (a + n) l →
      Swept L (spliced a m f z) z (a + (n + 1)) (set l (a + n) (f n))
  splice-turn L n l h room sw =
      subst (λ (k : ℕ). Swept L (spliced a m f z) z k (set l (a + n) (f n))) (omega arith) (store (f n) sw (omega arith) (sym (splice_at (a + n) n refl h)))

-- the places from the first on
pub from_first : (a m : ℕ) (f z w : ℕ → ℤ) → w ≡ spliced a m (λ j. f (2 * j + 0)) z → w ≡ spliced a m (λ j. f (2 * j)) z
from_first a m f z w e = e ∙ ap (λ (v : ℕ → ℤ). spliced a m v z) (fun_ext λ j. ap f (omega arith))

-- ---- the halves of a line
module _ (S : Side) where
  -- the numbers of a half, by their place in the row
  pub half-at : (y : ℕ → ℤ) (h : Half) (n : ℕ) → halves_of S y h n ≡ y (begins S h + n)
  unfolding halves_of begins
  half-at y lo n = ap y (omega arith)
  half-at y hi n = refl

  -- the places of a line, by its halves
  pub even_place : (p : Half → ℕ → ℤ) (j : ℕ) → joined S p (2 * j) ≡ p (evens S) j
  unfolding joined half
  even_place p j =
      let e : (S.start + 2 * j) % 2 ≡ S.start % 2 = omega arith in
      let k : 2 * j / 2 ≡ j = omega arith in
      rw (e, k) refl

  pub odd_place : (p : Half → ℕ → ℤ) (j : ℕ) → joined S p (2 * j + 1) ≡ p (odds S) j
  unfolding joined half
  odd_place p j =
      let e : (S.start + (2 * j + 1)) % 2 ≡ (S.start + 1) % 2 = omega arith in
      let k : (2 * j + 1) / 2 ≡ j = omega arith in
      rw (e, k) refl

-- what a loop over the pairs of a row at place `from` knows of where its even and its odd places begin
pub record Halves (S : Side) (from e o : ℕ) : Type 0 where
  pub even : e ≡ from + begins S (evens S)
  pub odd : o ≡ from + begins S (odds S)
  pub even-fits : e + (S.length - S.length / 2) ≤ from + S.length
  pub odd-fits : o + S.length / 2 ≤ from + S.length

halves-of : (S : Side) (from e o : ℕ) → e ≡ from + begins S (evens S) → o ≡ from + begins S (odds S) → Halves S from e o
halves-of S from e o i j =
    let h = evens-fit S in
    let k = odds-fit S in
    record { even = i; odd = j; even-fits = omega arith; odd-fits = omega arith }

-- what it asks at the front of an area, and at place `from`
pub halves-front : (S : Side) (e o : ℕ) → e ≡ begins S (evens S) → o ≡ begins S (odds S) → Halves S 0 e o
halves-front S e o i j = halves-of S 0 e o (omega arith) (omega arith)

pub halves-at : (S : Side) (from e o : ℕ) → e ≡ begins S (evens S) → o ≡ begins S (odds S) → Halves S from (from + e) (from + o)
halves-at S from e o i j = halves-of S from (from + e) (from + o) (omega arith) (omega arith)

-- ---- a line x laid in halves in memory z: its even places first, then its odd places
module _ (S : Side) (x z : ℕ → ℤ) where
  abbrev evens_laid : Half → ℕ → ℤ
  evens_laid e = spliced (begins S e) (S.length - S.length / 2) (λ j. x (2 * j)) z

  abbrev both_laid : Half → Half → ℕ → ℤ
  both_laid e o = spliced (begins S o) (S.length / 2) (λ j. x (2 * j + 1)) (evens_laid e)

  from-even : S.start % 2 ≡ 0 → in_halves S (deinterleaved S x) z ≡ both_laid lo hi
  unfolding deinterleaved place begins count
  from-even e =
      let N = S.length in
      let low = (N + 1 - S.start % 2) / 2 in
      halves_are S (deinterleaved S x) z _
      (λ n h. ap x (omega arith)
      ∙ sym (splice-below low (N / 2) _ _ n (omega arith) ∙ splice_at 0 (N - N / 2) (λ j. x (2 * j)) z n n (omega arith) (omega arith)))
      (λ n h. ap x (omega arith) ∙ sym (splice_at low (N / 2) (λ j. x (2 * j + 1)) _ (low + n) n refl (omega arith)))
      (λ j h. sym (splice-past low (N / 2) _ _ j (omega arith) ∙ splice-past 0 (N - N / 2) _ z j (omega arith)))

  from-odd : S.start % 2 ≡ 1 → in_halves S (deinterleaved S x) z ≡ both_laid hi lo
  unfolding deinterleaved place begins count
  from-odd e =
      let N = S.length in
      let low = (N + 1 - S.start % 2) / 2 in
      halves_are S (deinterleaved S x) z _
      (λ n h. ap x (omega arith) ∙ sym (splice_at 0 (N / 2) (λ j. x (2 * j + 1)) _ n n (omega arith) (omega arith)))
      (λ n h. ap x (omega arith)
      ∙ sym (splice-past 0 (N / 2) _ _ (low + n) (omega arith) ∙ splice_at low (N - N / 2) (λ j. x (2 * j)) z (low + n) n refl (omega arith)))
      (λ j h. sym (splice-past 0 (N / 2) _ _ j (omega arith) ∙ splice-past low (N - N / 2) _ z j (omega arith)))

  pub deinterleaved-is : deinterleaved_into S x z ≡ both_laid (evens S) (odds S)
  unfolding deinterleaved_into
  deinterleaved-is = by-parity S (λ e o. in_halves S (deinterleaved S x) z ≡ both_laid e o) from-even from-odd

  -- the two passes, in either order, with where the halves begin as the code has it
  module _ (a b : ℕ) (ea : a ≡ begins S (evens S)) (eb : b ≡ begins S (odds S)) (y w : ℕ → ℤ) where
    laid : w ≡ spliced b (S.length / 2) (λ j. x (2 * j + 1)) (spliced a (S.length - S.length / 2) (λ j. x (2 * j)) z) → w ≡ deinterleaved_into S x z
    laid e =
        e ∙ ap (λ (i : ℕ). spliced b (S.length / 2) (λ j. x (2 * j + 1)) (spliced i (S.length - S.length / 2) (λ j. x (2 * j)) z)) ea
        ∙ ap (λ (i : ℕ). spliced i (S.length / 2) (λ j. x (2 * j + 1)) (evens_laid (evens S))) eb
        ∙ sym deinterleaved-is

    pub evens-then-odds : y ≡ spliced a (S.length - S.length / 2) (λ j. x (2 * j)) z → w ≡ spliced b (S.length / 2) (λ j. x (2 * j + 1)) y
        → w ≡ deinterleaved_into S x z
    evens-then-odds h k = laid (k ∙ ap (spliced b (S.length / 2) (λ j. x (2 * j + 1))) h)

    pub odds-then-evens : S.start % 2 ≡ 1 → y ≡ spliced b (S.length / 2) (λ j. x (2 * j + 1)) z
        → w ≡ spliced a (S.length - S.length / 2) (λ j. x (2 * j)) y → w ≡ deinterleaved_into S x z
    odds-then-evens o h k =
        let N = S.length in
        let ends : b + N / 2 ≤ a = omega (arith, odds-first S o, evens-last S o) in
        laid (k ∙ ap (spliced a (N - N / 2) (λ j. x (2 * j))) h
        ∙ sym (splice-swap b (N / 2) a (N - N / 2) (λ j. x (2 * j + 1)) (λ j. x (2 * j)) z ends))
