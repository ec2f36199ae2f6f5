-- The line of T.800 worked out: the two steps on the extended signal are the formulas at the mirrored places, and the single sample. For any two steps that do
-- not tell left from right. Assumes nothing.
use mathlib.Core.Path.{◌≡◌, sym, ap, ◌∙◌}
use Prim.Native.Nat.{ℕ, ◌+◌, ◌-◌, ◌*◌, ◌%◌, ◌<◌}
use native.Mathlib.Decide.{dec_lt, ℕ_discrete}
use native.Mathlib.Nat.{mod-eq_of_lt, mod_self}
use native.Mathlib.Omega.{arith}
use lib.IntN.{ℤ, pos, negsuc, ◌+ℤ◌, ◌-ℤ◌, ◌*ℤ◌, +ℤ-neg_ℤ_cancel}
use borrow.Author.Tests.{eq-eqb, ne_eqb}
use Rattle.numbers.proofs.Integers.{each, lin}
use Rattle.lifting.specs.Line.{Half, lo, hi}
use Rattle.lifting.specs.Grid.{Side, place, count}
use Rattle.lifting.proofs.GridLaws.{place-in}
use Rattle.nine_seven.specs.NineSeven.{mirror, before, after}
use Rattle.standard.specs.Line.{LiftingSteps, over, by_coordinate, folded, high_at, low_at, at_parity, transformed, half_of, coordinate}
use Rattle.standard.specs.Line.{line_value}
use Rattle.standard.proofs.Extension.{ext, ext-is, mirror-fold, mirror-in, about-first, about-last}

-- a high value goes by both sides alike
abbrev pub Even : LiftingSteps → Type 0
Even T = (a b c e : ℤ) → T.predict a b c e ≡ T.predict b a e c

-- ---- a signal that is symmetric about a place has high values that are
down-up : (i j c k : ℤ) → i +ℤ j ≡ c → (i -ℤ k) +ℤ (j +ℤ k) ≡ c
down-up = each _ λ a b. each _ λ c d. each _ λ e f. each _ λ g h. simp lin (λ z. omega arith)

up-down : (i j c k : ℤ) → i +ℤ j ≡ c → (i +ℤ k) +ℤ (j -ℤ k) ≡ c
up-down = each _ λ a b. each _ λ c d. each _ λ e f. each _ λ g h. simp lin (λ z. omega arith)

ap₅ : (f : ℤ → ℤ → ℤ → ℤ → ℤ → ℤ) {x x' a a' b b' c c' e e' : ℤ} → x ≡ x' → a ≡ a' → b ≡ b' → c ≡ c' → e ≡ e' → f x a b c e ≡ f x' a' b' c' e'
ap₅ f w p q r s = λ i. f (w i) (p i) (q i) (r i) (s i)

module _ (T : LiftingSteps) (even : Even T) (X : ℤ → ℤ) (m : ℤ) (same : (i j : ℤ) → i +ℤ j ≡ m → X i ≡ X j) where
  high_same : (i j : ℤ) → i +ℤ j ≡ m → high_at T X i ≡ high_at T X j
  unfolding high_at
  high_same i j e =
      ap₅ (λ (x a b c e : ℤ). x -ℤ T.predict a b c e) (same i j e)
      (same (i -ℤ pos 1) (j +ℤ pos 1) (down-up i j m (pos 1) e)) (same (i +ℤ pos 1) (j -ℤ pos 1) (up-down i j m (pos 1) e))
      (same (i -ℤ pos 3) (j +ℤ pos 3) (down-up i j m (pos 3) e)) (same (i +ℤ pos 3) (j -ℤ pos 3) (up-down i j m (pos 3) e))
      ∙ ap (λ (z : ℤ). X j -ℤ z) (even (X (j +ℤ pos 1)) (X (j -ℤ pos 1)) (X (j +ℤ pos 3)) (X (j -ℤ pos 3)))

one_less : (q : ℕ) → 0 < q → pos q -ℤ pos 1 ≡ pos (q - 1)
one_less q p =
    let e : q ≡ q - 1 + 1 = omega arith in
    ap (λ (k : ℕ). pos k -ℤ pos 1) e ∙ +ℤ-neg_ℤ_cancel (pos (q - 1)) (pos 1)

-- ---- the formulas at the mirrored places of a line
module _ (T : LiftingSteps) (N : ℕ) (x : ℕ → ℤ) where
  abbrev pub high_by : ℕ → ℤ
  high_by q = x q -ℤ T.predict (x (before N 1 q)) (x (after N 1 q)) (x (before N 3 q)) (x (after N 3 q))

  abbrev pub low_by : ℕ → ℤ
  low_by q = x q +ℤ T.update (high_by (before N 1 q)) (high_by (after N 1 q))

-- one place before the first sample is the second, one after the last is the last but one
before-first : (N q : ℕ) → 1 < N → q ≡ 0 → before N 1 q ≡ 1
unfolding before folded
before-first N q g e =
    let m : 1 % (2 * (N - 1)) ≡ 1 = mod-eq_of_lt {m = 2 * (N - 1)} (omega arith) in
    ap (λ (k : ℕ). mirror N (pos k -ℤ pos 1)) e ∙ mirror-fold N (negsuc 0) ∙ rw m (omega arith)

after_last : (N q : ℕ) → 1 < N → q + 1 ≡ N → after N 1 q ≡ N - 2
unfolding after folded
after_last N q g e =
    mirror-fold N (pos (q + 1))
    ∙ elim (ℕ_discrete N 2) [
      | yes two ↦
          let m : (q + 1) % (2 * (N - 1)) ≡ 0 = ap (λ (k : ℕ). k % (2 * (N - 1))) (omega arith) ∙ mod_self (2 * (N - 1)) in
          rw m (omega arith)
      | no more ↦ let m : (q + 1) % (2 * (N - 1)) ≡ q + 1 = mod-eq_of_lt {m = 2 * (N - 1)} (omega arith) in rw m (omega arith)
    ]

before-in : (N q : ℕ) → q < N → 0 < q → before N 1 q ≡ q - 1
unfolding before
before-in N q b p = ap (mirror N) (one_less q p) ∙ mirror-in N (q - 1) (omega arith)

after-in : (N q : ℕ) → q + 1 < N → after N 1 q ≡ q + 1
unfolding after
after-in N q b = mirror-in N (q + 1) b

twice : (a : ℤ) → (a -ℤ pos 1) +ℤ (a +ℤ pos 1) ≡ a +ℤ a
twice = each _ λ a b. simp lin (omega arith)

regroup : (a b c : ℤ) → a +ℤ b -ℤ c ≡ a +ℤ (b -ℤ c)
regroup = each _ λ a b. each _ λ c d. each _ λ e f. simp lin (omega arith)

module _ (S : Side) (x : ℕ → ℤ) where
  abbrev s : ℕ
  s = S.start

  abbrev N : ℕ
  N = S.length

  abbrev X : ℤ → ℤ
  X = ext S x

  ext-in : (q : ℕ) → q < N → X (pos (s + q)) ≡ x q
  ext-in q b = ext-is S x (pos q) ∙ ap x (mirror-in N q b)

  ext-before : (q k : ℕ) → X (pos (s + q) -ℤ pos k) ≡ x (before N k q)
  unfolding before
  ext-before q k = ap X (regroup (pos s) (pos q) (pos k)) ∙ ext-is S x (pos q -ℤ pos k)

  ext-after : (q k : ℕ) → X (pos (s + q) +ℤ pos k) ≡ x (after N k q)
  unfolding after
  ext-after q k = ap (λ (i : ℕ). X (pos i)) (omega arith) ∙ ext-is S x (pos (q + k))

  module _ (T : LiftingSteps) where
    pub high-in : (q : ℕ) → q < N → high_at T X (pos (s + q)) ≡ high_by T N x q
    unfolding high_at
    high-in q b = ap₅ (λ (x a b c e : ℤ). x -ℤ T.predict a b c e) (ext-in q b) (ext-before q 1) (ext-after q 1) (ext-before q 3) (ext-after q 3)

    module _ (even : Even T) (g : 1 < N) where
      -- the high values beside a place, mirrored at the ends
      high-before : (q : ℕ) → q < N → high_at T X (pos (s + q) -ℤ pos 1) ≡ high_by T N x (before N 1 q)
      high-before q b =
          elim (ℕ_discrete q 0) [
            | yes e ↦
                let i : s + q ≡ s = omega arith in
                ap (λ (k : ℕ). high_at T X (pos k -ℤ pos 1)) i
                ∙ high_same T even X (pos s +ℤ pos s) (about-first S x) (pos s -ℤ pos 1) (pos (s + 1)) (twice (pos s))
                ∙ high-in 1 g
                ∙ ap (high_by T N x) (sym (before-first N q g e))
            | no d ↦
                let i : s + q - 1 ≡ s + (q - 1) = omega arith in
                ap (high_at T X) (one_less (s + q) (omega arith) ∙ ap pos i)
                ∙ high-in (q - 1) (omega arith)
                ∙ ap (high_by T N x) (sym (before-in N q b (omega arith)))
          ]

      high_after : (q : ℕ) → q < N → high_at T X (pos (s + q) +ℤ pos 1) ≡ high_by T N x (after N 1 q)
      high_after q b =
          elim (dec_lt (q + 1) N) [
            | yes l ↦
                ap (λ (k : ℕ). high_at T X (pos k)) (omega arith)
                ∙ high-in (q + 1) l
                ∙ ap (high_by T N x) (sym (after-in N q l))
            | no l ↦
                high_same T even X (pos s +ℤ pos s +ℤ pos (2 * (N - 1))) (about-last S x) (pos (s + q) +ℤ pos 1) (pos (s + (N - 2))) (ap pos (omega arith))
                ∙ high-in (N - 2) (omega arith)
                ∙ ap (high_by T N x) (sym (after_last N q g (omega arith)))
          ]

      pub low-in : (q : ℕ) → q < N → low_at T X (pos (s + q)) ≡ low_by T N x q
      unfolding low_at
      low-in q b = ap₃ (λ (x a b : ℤ). x +ℤ T.update a b) (ext-in q b) (high-before q b) (high_after q b)
        where
          ap₃ : (f : ℤ → ℤ → ℤ → ℤ) {x x' a a' b b' : ℤ} → x ≡ x' → a ≡ a' → b ≡ b' → f x a b ≡ f x' a' b'
          ap₃ f w p q = λ i. f (w i) (p i) (q i)

-- ---- value n of a half
-- its coordinate is that of its place
pub coordinate-is : (S : Side) (h : Half) (n : ℕ) → coordinate h ((half_of h (over S)).i0 + n) ≡ S.start + place S h n
unfolding coordinate half_of place
coordinate-is S lo n = omega arith
coordinate-is S hi n = omega arith

parity-lo : (u : ℕ) (a b : ℤ) → at_parity (coordinate lo u) a b ≡ a
unfolding coordinate at_parity
parity-lo u a b = simp (eq-eqb (2 * u % 2) 0 (omega arith))

parity-hi : (u : ℕ) (a b : ℤ) → at_parity (coordinate hi u) a b ≡ b
unfolding coordinate at_parity
parity-hi u a b = simp (ne_eqb ((2 * u + 1) % 2) 0 (omega arith))

module _ (T : LiftingSteps) (S : Side) (x : ℕ → ℤ) where
  abbrev at-coordinate : ℕ → ℤ
  at-coordinate = by_coordinate S.start x

  abbrev values : ℤ → ℤ
  values = ext S x

  -- a single sample
  module _ (one : S.length ≡ 1) where
    single : (i : ℕ) → transformed T (over S) at-coordinate i ≡ at_parity i (at-coordinate i) (pos 2 *ℤ at-coordinate i)
    unfolding transformed
    single i = simp (eq-eqb (S.start + S.length - S.start) 1 (omega arith))

    sample : (h : Half) (n : ℕ) → at-coordinate (coordinate h ((half_of h (over S)).i0 + n)) ≡ x (place S h n)
    sample h n = ap at-coordinate (coordinate-is S h n) ∙ ap x (omega arith)

    pub value-low-one : (n : ℕ) → line_value T S x lo n ≡ x (place S lo n)
    unfolding line_value
    value-low-one n = single _ ∙ parity-lo _ _ _ ∙ sample lo n

    pub value-high-one : (n : ℕ) → line_value T S x hi n ≡ pos 2 *ℤ x (place S hi n)
    unfolding line_value
    value-high-one n = single _ ∙ parity-hi _ _ _ ∙ ap (λ (z : ℤ). pos 2 *ℤ z) (sample hi n)

  module _ (even : Even T) (g : 1 < S.length) where
    more : (i : ℕ) → transformed T (over S) at-coordinate i ≡ at_parity i (low_at T values (pos i)) (high_at T values (pos i))
    unfolding transformed
    more i = simp (ne_eqb (S.start + S.length - S.start) 1 (omega arith))

    pub value_low : (n : ℕ) → n < count lo S → line_value T S x lo n ≡ low_by T S.length x (place S lo n)
    unfolding line_value
    value_low n b =
        more _ ∙ parity-lo _ _ _
        ∙ ap (λ (i : ℕ). low_at T values (pos i)) (coordinate-is S lo n)
        ∙ low-in S x T even g (place S lo n) (place-in S lo n b)

    pub value-high : (n : ℕ) → n < count hi S → line_value T S x hi n ≡ high_by T S.length x (place S hi n)
    unfolding line_value
    value-high n b =
        more _ ∙ parity-hi _ _ _
        ∙ ap (λ (i : ℕ). high_at T values (pos i)) (coordinate-is S hi n)
        ∙ high-in S x T (place S hi n) (place-in S hi n b)
