-- There and back in memory, for every lifting of two steps (TwoSteps): in place in halves, and from area to area, for every line of 32-bit numbers of any
-- length and start. A single sample at an odd coordinate comes back if its double fits 32 bits; back and there, where the values are a line's. What lies past
-- the line is as it was. Assumes nothing.
use mathlib.Core.Path.{◌≡◌, refl, sym, ap, ◌∙◌, fun_ext}
use mathlib.Core.Bool.{true}
use Prim.Native.Nat.{ℕ, ◌+◌, ◌-◌, ◌≤◌, ◌<◌}
use native.Mathlib.Decide.{dec_lt}
use native.Mathlib.Omega.{arith}
use lib.IntN.{ℤ, pos, ◌*ℤ◌}
use mir.Syntax.{w32}
use mir.Val.{SFits}
use Rattle.numbers.specs.Word.{wrap32}
use Rattle.lifting.specs.Line.{Half, lo, hi}
use Rattle.lifting.specs.Grid.{Side, place, count, joined, single_high}
use Rattle.lifting.specs.Halves.{fronted}
use Rattle.lifting.specs.GridHalves.{halves_of, in_halves, has_line_in}
use Rattle.lifting.proofs.GridLaws.{counts, place-in, in_place, by_place, joined-place, joined-reads, halves-low, halves-high, halves-past, halves_are}
use Rattle.lifting.proofs.GridLaws.{front-in, front-past}
use Rattle.lifting.proofs.SingleLaws.{single-high, has-reads}
use Rattle.lifting.proofs.Keeping.{words}
use Rattle.lifting.proofs.TwoSteps.{Lifting, forward-reads, halves-back-reads, back-reads, forward-has, back-forward, forward-back}

-- where number n of a half stands in memory in halves
abbrev stand : Side → Half → ℕ → ℕ
stand S lo n = n
stand S hi n = count lo S + n

stand-in : (S : Side) (h : Half) (n : ℕ) → n < count h S → stand S h n < S.length
stand-in S lo n b = let c = counts S in omega arith
stand-in S hi n b = let c = counts S in omega arith

halves-at : (S : Side) (y : ℕ → ℤ) (h : Half) (n : ℕ) → halves_of S y h n ≡ y (stand S h n)
unfolding halves_of
halves-at S y lo n = refl
halves-at S y hi n = refl

-- halves that are put into memory are read from it
halves-back : (S : Side) (p : Half → ℕ → ℤ) (z : ℕ → ℤ) (h : Half) (n : ℕ) → n < count h S → halves_of S (in_halves S p z) h n ≡ p h n
unfolding halves_of
halves-back S p z lo n b = halves-low S p z n b
halves-back S p z hi n b =
    let c = counts S in
    let k : count lo S + n - count lo S ≡ n = omega arith in
    halves-high S p z (count lo S + n) (omega arith) (omega arith) ∙ ap (p hi) k

-- memory in halves is y, where each half is what y has there
halves-all : (S : Side) (p : Half → ℕ → ℤ) (z y : ℕ → ℤ) → ((h : Half) (n : ℕ) → n < count h S → p h n ≡ y (stand S h n))
    → ((j : ℕ) → S.length ≤ j → z j ≡ y j) → in_halves S p z ≡ y
halves-all S p z y e r = halves_are S p z y (e lo) (e hi) r

-- the first of a single high line
first-joined : (S : Side) (y : ℕ → ℤ) → single_high S ≡ true → joined S (halves_of S y) 0 ≡ y 0
first-joined S y e =
    let t = single-high S e in
    let p = place-in S hi 0 (omega arith) in
    let k : 0 ≡ place S hi 0 = omega arith in
    let i : stand S hi 0 ≡ 0 = omega arith in
    ap (joined S (halves_of S y)) k ∙ joined-place S (halves_of S y) hi 0 ∙ halves-at S y hi 0 ∙ ap y i

-- a line in halves lifted, and lifted back, in place; a line to its coefficients in halves at the front of memory z, and coefficients to their line
module _ (L : Lifting) where
  abbrev pub lifted : Side → (ℕ → ℤ) → ℕ → ℤ
  lifted S y = in_halves S (L.forward wrap32 S (joined S (halves_of S y))) y

  abbrev pub unlifted : Side → (ℕ → ℤ) → ℕ → ℤ
  unlifted S y = in_halves S (L.halves wrap32 S (halves_of S y)) y

  abbrev pub forwarded : Side → (ℕ → ℤ) → (ℕ → ℤ) → ℕ → ℤ
  forwarded S x z = in_halves S (L.forward wrap32 S x) z

  abbrev pub backed : Side → (ℕ → ℤ) → (ℕ → ℤ) → ℕ → ℤ
  backed S y z = fronted S.length (joined S (L.halves wrap32 S (halves_of S y))) z

  -- what a call there writes can be read back: the call back answers 0
  pub forwarded-has : (S : Side) (x z : ℕ → ℤ) → has_line_in S (forwarded S x z) ≡ true
  unfolding has_line_in
  forwarded-has S x z =
      let c = L.forward wrap32 S x in
      has-reads S (halves_of S (in_halves S c z)) c (halves-back S c z) ∙ forward-has L S x

  module _ (S : Side) (y : ℕ → ℤ) (fits : (i : ℕ) → i < S.length → SFits w32 (y i)) where
    halves-fit : (h : Half) (n : ℕ) → n < count h S → SFits w32 (halves_of S y h n)
    halves-fit h n b = rw (halves-at S y h n) (fits (stand S h n) (stand-in S h n b))

    joined-fit : (i : ℕ) → i < S.length → SFits w32 (joined S (halves_of S y) i)
    joined-fit =
        by_place S (λ i. i < S.length → SFits w32 (joined S (halves_of S y) i))
        (λ h n b. rw (joined-place S (halves_of S y) h n) (halves-fit h n (in_place S h n b)))

    -- in place
    pub unlift-lift : (single_high S ≡ true → SFits w32 (pos 2 *ℤ y 0)) → unlifted S (lifted S y) ≡ y
    unlift-lift double =
        let x = joined S (halves_of S y) in
        let c = L.forward wrap32 S x in
        halves-all S (L.halves wrap32 S (halves_of S (in_halves S c y))) (in_halves S c y) y
        (λ h n b.
        halves-back-reads L wrap32 S _ c (halves-back S c y) h n b
        ∙ sym (joined-place S (L.halves wrap32 S c) h n)
        ∙ back-forward L words S x joined-fit (λ e. rw (first-joined S y e) (double e)) (place S h n) (place-in S h n b)
        ∙ joined-place S (halves_of S y) h n
        ∙ halves-at S y h n)
        (halves-past S c y)

    pub lift-unlift : has_line_in S y ≡ true → lifted S (unlifted S y) ≡ y
    unfolding has_line_in
    lift-unlift has =
        let c = halves_of S y in
        let p = L.halves wrap32 S c in
        let q = halves_of S (in_halves S p y) in
        halves-all S (L.forward wrap32 S (joined S q)) (in_halves S p y) y
        (λ h n b.
        forward-reads L wrap32 S (joined S q) (joined S p) h n b (λ i l _. joined-reads S q p (halves-back S p y) i l)
        ∙ forward-back L words S c halves-fit has h n b
        ∙ halves-at S y h n)
        (halves-past S p y)

    -- from area to area: z is where the first call wrote, w where the second did
    pub back-there : (single_high S ≡ true → SFits w32 (pos 2 *ℤ y 0)) → (z w : ℕ → ℤ) → backed S (forwarded S y z) w ≡ fronted S.length y w
    back-there double z w =
        let c = L.forward wrap32 S y in
        let x = joined S (L.halves wrap32 S (halves_of S (in_halves S c z))) in
        fun_ext λ j.
        elim (dec_lt j S.length) [
          | yes b ↦
              front-in S.length x w j b
              ∙ back-reads L wrap32 S _ c (halves-back S c z) j b
              ∙ back-forward L words S y fits double j b
              ∙ sym (front-in S.length y w j b)
          | no b ↦ front-past S.length x w j (omega arith) ∙ sym (front-past S.length y w j (omega arith))
        ]

    pub there_back : has_line_in S y ≡ true → (z w : ℕ → ℤ) → forwarded S (backed S y z) w ≡ fronted S.length y w
    unfolding has_line_in
    there_back has z w =
        let N = S.length in
        let c = halves_of S y in
        let x = joined S (L.halves wrap32 S c) in
        let f = L.forward wrap32 S (fronted N x z) in
        halves-all S f w (fronted N y w)
        (λ h n b.
        forward-reads L wrap32 S (fronted N x z) x h n b (λ i l _. front-in N x z i l)
        ∙ forward-back L words S c halves-fit has h n b
        ∙ halves-at S y h n
        ∙ sym (front-in N y w (stand S h n) (stand-in S h n b)))
        (λ j r. sym (front-past N y w j r))
