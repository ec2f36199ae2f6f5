-- A line of one number or none: an only number at an odd coordinate is doubled, and halved on the way back; otherwise a line so short stays. Assumes nothing.
use mathlib.Core.Path.{◌≡◌, refl, sym, ap, ◌∙◌, fun_ext}
use mathlib.Core.List.{List}
use mathlib.Core.Bool.{true, false}
use Prim.Native.Nat.{ℕ, ◌+◌, ◌-◌, ◌*◌, ◌/◌, ◌%◌, ◌^◌, ◌≤◌, ◌<◌}
use native.Mathlib.Decide.{dec_lt, ℕ_discrete}
use native.Mathlib.Omega.{arith}
use lib.IntN.{ℤ, pos, ◌*ℤ◌}
use lib.Signed.{shr_z, mag, mag_shr}
use mir.Syntax.{w32}
use mir.Val.{hbits, to_z, of_z}
use Rattle.numbers.proofs.Words.{read_back}
use lib.ListN.{length, set}
use lib.Dec.{eqb}
use borrow.Author.Tests.{eqb-true, eqb-false, eq-eqb, ne_eqb, lt-ltb, le-ltb}
use Rattle.std.specs.Prelude.{Result, Ok, Err}
use Rattle.std.specs.Result.{IsErrAnd}
use Rattle.refusal.specs.declared.Refusal.{Refusal}
use Rattle.refusal.specs.declared.Refusal.TheVariants as why
use Rattle.refusal.specs.Numbers.{number, answer}
use Rattle.refusal.proofs.Laws.{number-some}
use Rattle.numbers.specs.Signal.{at, pick}
use Rattle.numbers.specs.Word.{wrap32}
use Rattle.numbers.proofs.Sweep.{start, store, finish, both}
use Rattle.lifting.specs.Line.{Half, lo, hi}
use Rattle.lifting.specs.Grid.{Side, place, count, joined, line_forward, line_halves_back, line_back, single_high, is_even, has_line}
use Rattle.lifting.specs.Halves.{fronted}
use Rattle.lifting.specs.GridHalves.{halves_of, lifted_in_place, unlifted_in_place, has_line_in, backward_into, highs_laid}
use Rattle.lifting.specs.Passes.{evens_copied}
use Rattle.lifting.specs.Single.{half}
use Rattle.lifting.proofs.GridLaws.{counts, joined-place, low-one, high_one, even-one, odd-one, halves-high, halves-past, halves_are}
use Rattle.lifting.proofs.GridLaws.{front-in, front-past}

-- the first number of a list stored, and the rest as it was
first-set : (l : List ℤ) (v : ℤ) (y : ℕ → ℤ) → 0 < length l → v ≡ y 0 → ((j : ℕ) → 1 ≤ j → y j ≡ at l j) → at (set l 0 v) ≡ y
first-set l v y g e r = finish (store v (start l y 0 (λ j lt. absurd (omega arith))) g e) (λ j le. r j (omega arith))

-- ---- the test
pub single-odd : (S : Side) → S.start % 2 ≡ 1 → single_high S ≡ eqb S.length 1
unfolding single_high
single-odd S e = simp (eq-eqb (S.start % 2) 1 e)

pub single-even : (S : Side) → S.start % 2 ≡ 0 → single_high S ≡ false
unfolding single_high
single-even S e = simp (ne_eqb (S.start % 2) 1 (omega arith))

pub single_more : (S : Side) → 1 < S.length → single_high S ≡ false
single_more S g =
    elim (ℕ_discrete (S.start % 2) 0) [
      | yes e ↦ single-even S e
      | no d ↦ single-odd S (omega arith) ∙ ne_eqb S.length 1 (omega arith)
    ]

-- an only number at an odd coordinate is number 0 of the high half
pub single-high : (S : Side) → single_high S ≡ true → (S.length ≡ 1) × (count lo S ≡ 0) × (count hi S ≡ 1)
unfolding single_high count
single-high S e =
    let t = both (eqb (S.start % 2) 1) _ e in
    let b : S.start % 2 ≡ 1 = eqb-true _ _ t.0 in
    let n : S.length ≡ 1 = eqb-true _ _ t.1 in
    (n, omega arith, omega arith)

-- any other line so short has no high half
pub single-none : (S : Side) → S.length < 2 → single_high S ≡ false → count hi S ≡ 0
unfolding count
single-none S g e =
    elim (ℕ_discrete (S.start % 2) 0) [
      | yes b ↦ omega arith
      | no d ↦
          elim (ℕ_discrete S.length 1) [
            | yes n ↦ absurd (eqb-false S.length 1 (sym (single-odd S (omega arith)) ∙ e) n)
            | no m ↦ omega arith
          ]
    ]

pub has-single : (S : Side) (c : Half → ℕ → ℤ) → single_high S ≡ true → has_line S c ≡ is_even (c hi 0)
unfolding has_line
has-single S c e = simp e

pub has_other : (S : Side) (c : Half → ℕ → ℤ) → single_high S ≡ false → has_line S c ≡ true
unfolding has_line
has_other S c e = simp e

-- it goes by the values that are there
pub has-reads : (S : Side) (c c' : Half → ℕ → ℤ) → ((h : Half) (n : ℕ) → n < count h S → c h n ≡ c' h n) → has_line S c ≡ has_line S c'
has-reads S c c' e =
    elim (single_high S) as (λ t. single_high S ≡ t → has_line S c ≡ has_line S c') [
      | true ↦ λ l. let t = single-high S l in has-single S c l ∙ ap is_even (e hi 0 (omega arith)) ∙ sym (has-single S c' l)
      | false ↦ λ l. has_other S c l ∙ sym (has_other S c' l)
    ] refl

pub has_more : (S : Side) (y : ℕ → ℤ) → 1 < S.length → has_line_in S y ≡ true
unfolding has_line_in
has_more S y g = has_other S (halves_of S y) (single_more S g)

pub has-none : (S : Side) (y : ℕ → ℤ) → single_high S ≡ false → has_line_in S y ≡ true
unfolding has_line_in
has-none S y e = has_other S (halves_of S y) e

pub has_first : (S : Side) (y : ℕ → ℤ) → single_high S ≡ true → has_line_in S y ≡ is_even (y 0)
unfolding has_line_in halves_of
has_first S y e =
    let t = single-high S e in
    let k : count lo S + 0 ≡ 0 = omega arith in
    has-single S (halves_of S y) e ∙ ap (λ (i : ℕ). is_even (y i)) k

-- ---- an only number at an odd coordinate
module _ (S : Side) (e : single_high S ≡ true) where
  place-high : place S hi 0 ≡ 0
  unfolding place count
  place-high = let t = single-high S e in omega arith

  lifted-first : (y : ℕ → ℤ) → lifted_in_place S y 0 ≡ wrap32 (pos 2 *ℤ y 0)
  unfolding lifted_in_place halves_of
  lifted-first y =
      let t = single-high S e in
      let p = halves_of S y in
      let k : count lo S + (0 - count lo S) ≡ 0 = omega arith in
      halves-high S (line_forward wrap32 S (joined S p)) y 0 (omega arith) (omega arith)
      ∙ high_one S (omega arith) wrap32 (joined S p) (0 - count lo S)
      ∙ ap (λ (v : ℤ). wrap32 (pos 2 *ℤ v)) (joined-place S p hi (0 - count lo S) ∙ ap y k)

  unlifted-first : (y : ℕ → ℤ) → unlifted_in_place S y 0 ≡ shr_z (y 0) 2
  unfolding unlifted_in_place halves_of
  unlifted-first y =
      let t = single-high S e in
      let p = halves_of S y in
      let k : count lo S + (0 - count lo S) ≡ 0 = omega arith in
      halves-high S (line_halves_back wrap32 S p) y 0 (omega arith) (omega arith)
      ∙ odd-one S (omega arith) wrap32 p (0 - count lo S)
      ∙ ap (λ (i : ℕ). shr_z (y i) 2) k

  pub lifted-single : (l : List ℤ) → length l ≡ S.length → at (set l 0 (wrap32 (pos 2 *ℤ at l 0))) ≡ lifted_in_place S (at l)
  unfolding lifted_in_place
  lifted-single l size =
      let t = single-high S e in
      first-set l _ (lifted_in_place S (at l)) (omega arith) (sym (lifted-first (at l))) (λ j b. halves-past S _ (at l) j (omega arith))

  pub unlifted-single : (l : List ℤ) → length l ≡ S.length → at (set l 0 (shr_z (at l 0) 2)) ≡ unlifted_in_place S (at l)
  unfolding unlifted_in_place
  unlifted-single l size =
      let t = single-high S e in
      first-set l _ (unlifted_in_place S (at l)) (omega arith) (sym (unlifted-first (at l))) (λ j b. halves-past S _ (at l) j (omega arith))

  pub backward-single : (y : ℕ → ℤ) (o : List ℤ) → S.length ≤ length o → at (set o 0 (shr_z (y 0) 2)) ≡ backward_into S y (at o)
  unfolding backward_into line_back halves_of
  backward-single y o room =
      let t = single-high S e in
      let p = halves_of S y in
      let q = line_halves_back wrap32 S p in
      let k : count lo S + 0 ≡ 0 = omega arith in
      let i = place-high in
      first-set o _ (backward_into S y (at o)) (omega arith)
      (sym
      (front-in S.length (joined S q) (at o) 0 (omega arith)
      ∙ ap (joined S q) (sym i)
      ∙ joined-place S q hi 0
      ∙ odd-one S (omega arith) wrap32 p 0
      ∙ ap (λ (m : ℕ). shr_z (y m) 2) k))
      (λ j b. front-past S.length (joined S q) (at o) j (omega arith))

  pub laid-single : (y z : ℕ → ℤ) → highs_laid S y z ≡ y
  unfolding highs_laid
  laid-single y z = let t = single-high S e in fun_ext λ j. simp (le-ltb j (count lo S) (omega arith))

  pub fronted-single : (y : ℕ → ℤ) (o : List ℤ) → S.length ≤ length o
      → at (set o 0 (shr_z (y 0) 2)) ≡ fronted S.length (unlifted_in_place S (highs_laid S y (at o))) (at o)
  fronted-single y o room =
      let t = single-high S e in
      let u = unlifted_in_place S (highs_laid S y (at o)) in
      first-set o _ (fronted S.length u (at o)) (omega arith)
      (sym
      (front-in S.length u (at o) 0 (omega arith)
      ∙ unlifted-first (highs_laid S y (at o))
      ∙ ap (λ (x : ℕ → ℤ). shr_z (x 0) 2) (laid-single y (at o))))
      (λ j b. front-past S.length u (at o) j (omega arith))

-- ---- any other line so short
module _ (S : Side) (few : S.length < 2) (e : single_high S ≡ false) where
  pub lifted-none : (y : ℕ → ℤ) → lifted_in_place S y ≡ y
  unfolding lifted_in_place halves_of
  lifted-none y =
      let c = single-none S few e in
      let p = halves_of S y in
      halves_are S _ y y
      (λ n h. low-one S (omega arith) wrap32 (joined S p) n ∙ joined-place S p lo n)
      (λ n h. absurd (omega arith))
      (λ j h. refl)

  pub unlifted-none : (y : ℕ → ℤ) → unlifted_in_place S y ≡ y
  unfolding unlifted_in_place halves_of
  unlifted-none y =
      let c = single-none S few e in
      let p = halves_of S y in
      halves_are S _ y y (λ n h. even-one S (omega arith) wrap32 p n) (λ n h. absurd (omega arith)) (λ j h. refl)

  place-low : (j : ℕ) → j < S.length → place S lo 0 ≡ j
  unfolding place count
  place-low j b = let c = single-none S few e in omega arith

  pub backward-none : (y z : ℕ → ℤ) → evens_copied S.length y z ≡ backward_into S y z
  unfolding backward_into line_back evens_copied halves_of
  backward-none y z =
      let c = single-none S few e in
      let both = counts S in
      let p = halves_of S y in
      let q = line_halves_back wrap32 S p in
      fun_ext λ j.
      elim (dec_lt j S.length) [
        | yes b ↦
            let i = place-low j b in
            let k : y (2 * j) ≡ y 0 = ap y (omega arith) in
            simp (lt-ltb j (S.length - S.length / 2) (omega arith))
            (k ∙ sym (front-in S.length (joined S q) z j b ∙ ap (joined S q) (sym i) ∙ joined-place S q lo 0 ∙ even-one S (omega arith) wrap32 p 0))
        | no b ↦ simp (le-ltb j (S.length - S.length / 2) (omega arith)) (sym (front-past S.length (joined S q) z j (omega arith)))
      ]

  pub fronted-none : (y z : ℕ → ℤ) → z ≡ fronted S.length (unlifted_in_place S (highs_laid S y z)) z
  unfolding highs_laid
  fronted-none y z =
      let c = single-none S few e in
      let both = counts S in
      let u = unlifted_in_place S (highs_laid S y z) in
      fun_ext λ j.
      elim (dec_lt j S.length) [
        | yes b ↦
            sym
            (front-in S.length u z j b
            ∙ ap (λ (x : ℕ → ℤ). x j) (unlifted-none (highs_laid S y z))
            ∙ simp (lt-ltb j (count lo S) (omega arith)))
        | no b ↦ sym (front-past S.length u z j (omega arith))
      ]

-- ---- the half of an only number
value-of : Result ℤ Refusal → ℤ
value-of (Ok v) = v
value-of (Err r) = pos 0

half-gives : (x h : ℤ) → Ok h ≡ half x → (is_even x ≡ true) × (h ≡ shr_z x 2)
unfolding value-of
half-gives x h =
    elim (is_even x) as (λ t. is_even x ≡ t → Ok h ≡ pick t (Ok (shr_z x 2)) (Err why.NoMap) → (is_even x ≡ true) × (h ≡ shr_z x 2)) [
      | true ↦ λ e p. (e, ap value-of p)
      | false ↦ λ e p. absurd (omega (arith, ap answer p))
    ] refl

half-refuses : (x : ℤ) (r : Refusal) → Err r ≡ half x → (is_even x ≡ false) × (number r ≡ 14)
half-refuses x r =
    elim (is_even x) as (λ t. is_even x ≡ t → Err r ≡ pick t (Ok (shr_z x 2)) (Err why.NoMap) → (is_even x ≡ false) × (number r ≡ 14)) [
      | true ↦ λ e p. absurd (number-some r (ap answer p))
      | false ↦ λ e p. (e, ap answer p)
    ] refl

-- by the number as it is read from memory, and as its half is stored there
pub halved : (z h : ℤ) → mag z < 2 ^ hbits w32 → Ok h ≡ half (to_z w32 (of_z w32 z)) → (is_even z ≡ true) × (to_z w32 (of_z w32 h) ≡ shr_z z 2)
halved z h b e =
    let g = half-gives z h (rw (read_back z b) at e) in
    let m = mag_shr z 2 in
    (g.0, rw g.1 (read_back (shr_z z 2) (omega (arith, b, m))))

pub odd-refused : (z : ℤ) (r : Refusal) → mag z < 2 ^ hbits w32 → Err r ≡ half (to_z w32 (of_z w32 z)) → (is_even z ≡ false) × (number r ≡ 14)
odd-refused z r b e = half-refuses z r (rw (read_back z b) at e)

-- what `?` hands on
pub handed-on : {A : Type 0} (q : Result A Refusal) (r : Refusal) → IsErrAnd q (λ z. z ≡ r) → answer q ≡ number r
handed-on (Ok a) r h = absurd h
handed-on (Err z) r h = ap number h
