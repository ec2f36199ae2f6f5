-- The laws of a line on the grid: counts and places, and the formulas with the mirror worked out, for a start of either parity. What is mirrored is the
-- nearest that is there.
-- Assumes nothing.
use mathlib.Core.Path.{◌≡◌, sym, ap, ap₂, ◌∙◌, subst, fun_ext}
use Prim.Native.Nat.{ℕ, zero, suc, ◌+◌, ◌-◌, ◌*◌, ◌/◌, ◌%◌, ◌≤◌, ◌<◌}
use native.Mathlib.Decide.{dec_lt, ℕ_discrete}
use native.Mathlib.Omega.{arith}
use lib.IntN.{ℤ, pos, nat_abs, ◌-ℤ◌, ◌*ℤ◌}
use lib.Signed.{shr_z}
use borrow.Author.Tests.{lt-ltb, le-ltb, eq-eqb, ne_eqb}
use Rattle.numbers.proofs.Integers.{dif, dif-nat_abs}
use Rattle.lifting.specs.Line.{Half, lo, hi, mirror, predicted, updated, unpredicted, unupdated}
use Rattle.lifting.specs.Grid.{Side, half, place, count, deinterleaved, joined, before, after, high_at, low_at, even_at, odd_at, line_forward, line_halves_back}
use Rattle.lifting.specs.Halves.{fronted}
use Rattle.lifting.specs.GridHalves.{in_halves}
use Rattle.lifting.specs.Passes.{near}

-- of number n of the other half the neighbours in half h are the numbers n + ahead − 1 and n + ahead
abbrev pub ahead : Side → Half → ℕ
ahead S lo = 1 - S.start % 2
ahead S hi = S.start % 2

-- ---- counts and places
module _ (S : Side) where
  pub counts : count lo S + count hi S ≡ S.length
  unfolding count
  counts = omega arith

  -- one number more in the half that begins the line, or as many in both
  pub count-lo : S.start % 2 ≡ 0 → count lo S ≡ S.length - S.length / 2
  unfolding count
  count-lo e = omega arith

  pub count-hi : S.start % 2 ≡ 1 → count lo S ≡ S.length / 2
  unfolding count
  count-hi e = omega arith

  -- a line of more than one sample has both halves, and neither has two numbers more than the other
  pub some : 1 < S.length → (0 < count lo S) × (count lo S < S.length)
  unfolding count
  some l = (omega arith, omega arith)

  pub beside-lows : (count lo S + count lo S ≤ S.length + ahead S lo) × (S.length + ahead S lo ≤ count lo S + count lo S + 1)
  unfolding count
  beside-lows = (omega arith, omega arith)

  pub beside-highs : (S.length ≤ count lo S + count lo S + ahead S hi) × (count lo S + count lo S + ahead S hi ≤ S.length + 1)
  unfolding count
  beside-highs = (omega arith, omega arith)

  -- every second place from the first of a half on is one of that half
  pub every-second : (S.length - S.start % 2 ≤ count lo S + count lo S) × (S.length - (1 - S.start % 2) ≤ count hi S + count hi S)
  unfolding count
  every-second = (omega arith, omega arith)

  pub place-in : (h : Half) (n : ℕ) → n < count h S → place S h n < S.length
  unfolding count place
  place-in lo n b = omega arith
  place-in hi n b = omega arith

  pub in_place : (h : Half) (n : ℕ) → place S h n < S.length → n < count h S
  unfolding count place
  in_place lo n b = omega arith
  in_place hi n b = omega arith

-- what is left of a line from low number n on: its place, and one or two places more
module _ (S : Side) (n : ℕ) where
  pub low-place : n < count lo S → 2 * n + S.start % 2 < S.length
  unfolding count
  low-place b = omega arith

  pub high-place : n + S.start % 2 < count hi S → 2 * n + S.start % 2 + 1 < S.length
  unfolding count
  high-place b = omega arith

  pub left_one : S.length ≤ count lo S + n + S.start % 2 → S.length ≤ 2 * n + S.start % 2 + 1
  unfolding count
  left_one b = omega arith

  pub left-two : count lo S ≤ n + 1 → S.length ≤ 2 * n + S.start % 2 + 2
  unfolding count
  left-two b = omega arith

  pub left-three : S.length ≤ count lo S + n + S.start % 2 + 1 → S.length ≤ 2 * n + S.start % 2 + 3
  unfolding count
  left-three b = omega arith

pub half-even : (c : ℕ) → c % 2 ≡ 0 → half c ≡ lo
unfolding half
half-even c e = simp (eq-eqb (c % 2) 0 e)

pub half-odd : (c : ℕ) → c % 2 ≡ 1 → half c ≡ hi
unfolding half
half-odd c e = simp (ne_eqb (c % 2) 0 (omega arith))

module _ (S : Side) where
  pub half-place : (h : Half) (n : ℕ) → half (S.start + place S h n) ≡ h
  unfolding place
  half-place lo n = half-even _ (omega arith)
  half-place hi n = half-odd _ (omega arith)

  pub number : (h : Half) (n : ℕ) → place S h n / 2 ≡ n
  unfolding place
  number lo n = omega arith
  number hi n = omega arith

  -- every place is the place of a number of a half
  pub by_place : (P : ℕ → Type 0) → ((h : Half) (n : ℕ) → P (place S h n)) → (i : ℕ) → P i
  unfolding place
  by_place P f i =
      elim (ℕ_discrete ((S.start + i) % 2) 0) [
        | yes e ↦ subst P (omega arith) (f lo (i / 2))
        | no d ↦ subst P (omega arith) (f hi (i / 2))
      ]

  pub joined-place : (p : Half → ℕ → ℤ) (h : Half) (n : ℕ) → joined S p (place S h n) ≡ p h n
  unfolding joined
  joined-place p h n = ap₂ p (half-place h n) (number h n)

  pub joined-deinterleaved : (x : ℕ → ℤ) (i : ℕ) → joined S (deinterleaved S x) i ≡ x i
  unfolding deinterleaved
  joined-deinterleaved x = by_place (λ i. joined S (deinterleaved S x) i ≡ x i) (joined-place (deinterleaved S x))

  -- a join reads the numbers that are there
  pub joined-reads : (p q : Half → ℕ → ℤ) → ((h : Half) (n : ℕ) → n < count h S → p h n ≡ q h n) → (i : ℕ) → i < S.length → joined S p i ≡ joined S q i
  joined-reads p q e =
      by_place (λ i. i < S.length → joined S p i ≡ joined S q i)
      (λ h n b. joined-place p h n ∙ e h n (in_place S h n b) ∙ sym (joined-place q h n))

-- ---- the mirror
previous : (k : ℕ) → nat_abs (pos k -ℤ pos 1) ≡ (k - 1) + (1 - k)
unfolding dif
previous k = dif-nat_abs k 1

-- the half of a place's neighbours
abbrev pub other : Half → Half
other lo = hi
other hi = lo

left : (N q : ℕ) → 1 < N → q < N → mirror N (pos q -ℤ pos 1) ≡ (q - 1) + (1 - q)
unfolding mirror
left N q g b = let e = previous q in omega arith

-- by the parity of the start
before-lo : (N b n : ℕ) → b < 2 → 1 < N → n < (N + 1 - b) / 2 → mirror N (pos (2 * n + b) -ℤ pos 1) ≡ 2 * near ((N + b) / 2) (n + b - 1) + (1 - b)
before-lo N zero n two g b = left N (2 * n + 0) g (omega arith) ∙ omega arith
before-lo N (suc zero) n two g b = left N (2 * n + 1) g (omega arith) ∙ omega arith
before-lo N (suc (suc _)) n two g b = absurd (omega arith)

before-hi : (N b n : ℕ) → b < 2 → 1 < N → n < (N + b) / 2 → mirror N (pos (2 * n + (1 - b)) -ℤ pos 1) ≡ 2 * near ((N + 1 - b) / 2) (n + (1 - b) - 1) + b
before-hi N zero n two g b = left N (2 * n + 1) g (omega arith) ∙ omega arith
before-hi N (suc zero) n two g b = left N (2 * n + 0) g (omega arith) ∙ omega arith
before-hi N (suc (suc _)) n two g b = absurd (omega arith)

after-lo : (N b n : ℕ) → b < 2 → 1 < N → n < (N + 1 - b) / 2 → mirror N (pos (2 * n + b + 1)) ≡ 2 * near ((N + b) / 2) (n + b) + (1 - b)
unfolding mirror
after-lo N zero n two g b = omega arith
after-lo N (suc zero) n two g b = omega arith
after-lo N (suc (suc _)) n two g b = absurd (omega arith)

after-hi : (N b n : ℕ) → b < 2 → 1 < N → n < (N + b) / 2 → mirror N (pos (2 * n + (1 - b) + 1)) ≡ 2 * near ((N + 1 - b) / 2) (n + (1 - b)) + b
unfolding mirror
after-hi N zero n two g b = omega arith
after-hi N (suc zero) n two g b = omega arith
after-hi N (suc (suc _)) n two g b = absurd (omega arith)

module _ (S : Side) (g : 1 < S.length) where
  pub before-is : (h : Half) (n : ℕ) → n < count h S
      → before S.length (place S h n) ≡ place S (other h) (near (count (other h) S) (n + ahead S (other h) - 1))
  unfolding before place count
  before-is lo n b = before-lo S.length (S.start % 2) n (omega arith) g b
  before-is hi n b = before-hi S.length (S.start % 2) n (omega arith) g b

  pub after_is : (h : Half) (n : ℕ) → n < count h S → after S.length (place S h n) ≡ place S (other h) (near (count (other h) S) (n + ahead S (other h)))
  unfolding after place count
  after_is lo n b = after-lo S.length (S.start % 2) n (omega arith) g b
  after_is hi n b = after-hi S.length (S.start % 2) n (omega arith) g b

  -- ---- the formulas by numbers of the halves
  module _ (keep : ℤ → ℤ) (x : ℕ → ℤ) where
    high-at : (n : ℕ) → line_forward keep S x hi n ≡ high_at keep S.length x (place S hi n)
    unfolding line_forward
    high-at n = simp (lt-ltb 1 S.length g)

    pub high-near : (n : ℕ) → n < count hi S
        → line_forward keep S x hi n ≡ predicted keep (x (place S hi n)) (x (place S lo (near (count lo S) (n + ahead S lo - 1))))
        (x (place S lo (near (count lo S) (n + ahead S lo))))
    unfolding high_at
    high-near n b = high-at n ∙ ap₂ (λ i j. predicted keep (x (place S hi n)) (x i) (x j)) (before-is hi n b) (after_is hi n b)

    pub low_near : (n : ℕ) → n < count lo S
        → line_forward keep S x lo n ≡ updated keep (x (place S lo n)) (line_forward keep S x hi (near (count hi S) (n + ahead S hi - 1)))
        (line_forward keep S x hi (near (count hi S) (n + ahead S hi)))
    unfolding line_forward low_at
    low_near n b =
        simp (lt-ltb 1 S.length g)
        (ap₂ (λ i j. updated keep (x (place S lo n)) (high_at keep S.length x i) (high_at keep S.length x j)) (before-is lo n b) (after_is lo n b))

  module _ (keep : ℤ → ℤ) (c : Half → ℕ → ℤ) where
    even-at : (n : ℕ) → line_halves_back keep S c lo n ≡ even_at keep S.length (joined S c) (place S lo n)
    unfolding line_halves_back
    even-at n = simp (lt-ltb 1 S.length g)

    pub even-near : (n : ℕ) → n < count lo S
        → line_halves_back keep S c lo n ≡ unupdated keep (c lo n) (c hi (near (count hi S) (n + ahead S hi - 1))) (c hi (near (count hi S) (n + ahead S hi)))
    unfolding even_at
    even-near n b =
        even-at n
        ∙ cc (
          before-is lo n b,
          after_is lo n b,
          joined-place S c lo n,
          joined-place S c hi (near (count hi S) (n + ahead S hi - 1)),
          joined-place S c hi
              (near (count hi S) (n + ahead S hi)),
        )

    pub odd-near : (n : ℕ) → n < count hi S
        → line_halves_back keep S c hi n ≡ unpredicted keep (c hi n) (line_halves_back keep S c lo (near (count lo S) (n + ahead S lo - 1)))
        (line_halves_back keep S c lo (near (count lo S) (n + ahead S lo)))
    unfolding line_halves_back odd_at
    odd-near n b =
        simp (lt-ltb 1 S.length g)
        (cc (before-is hi n b, after_is hi n b, joined-place S c hi n))

-- a line of one sample or none
module _ (S : Side) (g : S.length ≤ 1) where
  pub low-one : (keep : ℤ → ℤ) (x : ℕ → ℤ) (n : ℕ) → line_forward keep S x lo n ≡ x (place S lo n)
  unfolding line_forward
  low-one keep x n = simp (le-ltb 1 S.length g)

  pub high_one : (keep : ℤ → ℤ) (x : ℕ → ℤ) (n : ℕ) → line_forward keep S x hi n ≡ keep (pos 2 *ℤ x (place S hi n))
  unfolding line_forward
  high_one keep x n = simp (le-ltb 1 S.length g)

  pub even-one : (keep : ℤ → ℤ) (c : Half → ℕ → ℤ) (n : ℕ) → line_halves_back keep S c lo n ≡ c lo n
  unfolding line_halves_back
  even-one keep c n = simp (le-ltb 1 S.length g)

  pub odd-one : (keep : ℤ → ℤ) (c : Half → ℕ → ℤ) (n : ℕ) → line_halves_back keep S c hi n ≡ shr_z (c hi n) 2
  unfolding line_halves_back
  odd-one keep c n = simp (le-ltb 1 S.length g)

-- ---- memory
module _ (S : Side) (p : Half → ℕ → ℤ) (z : ℕ → ℤ) where
  pub halves-low : (j : ℕ) → j < count lo S → in_halves S p z j ≡ p lo j
  unfolding in_halves
  halves-low j h = simp (lt-ltb j (count lo S) h)

  pub halves-high : (j : ℕ) → count lo S ≤ j → j < S.length → in_halves S p z j ≡ p hi (j - count lo S)
  unfolding in_halves
  halves-high j g h = simp (le-ltb j (count lo S) g, lt-ltb j S.length h)

  pub halves-past : (j : ℕ) → S.length ≤ j → in_halves S p z j ≡ z j
  unfolding in_halves
  halves-past j h = let both = counts S in simp (le-ltb j (count lo S) (omega arith), le-ltb j S.length h)

  -- memory in halves is y, where y has the halves at their places
  pub halves_are : (y : ℕ → ℤ) → ((n : ℕ) → n < count lo S → p lo n ≡ y n) → ((n : ℕ) → n < count hi S → p hi n ≡ y (count lo S + n))
      → ((j : ℕ) → S.length ≤ j → z j ≡ y j) → in_halves S p z ≡ y
  halves_are y l h r =
      let both = counts S in
      fun_ext λ j.
      elim (dec_lt j (count lo S)) [
        | yes a ↦ halves-low j a ∙ l j a
        | no a ↦
            elim (dec_lt j S.length) [
              | yes b ↦ halves-high j (omega arith) b ∙ h (j - count lo S) (omega arith) ∙ ap y (omega arith)
              | no b ↦ halves-past j (omega arith) ∙ r j (omega arith)
            ]
      ]

-- a line at the front of memory
module _ (N : ℕ) (x z : ℕ → ℤ) where
  pub front-in : (j : ℕ) → j < N → fronted N x z j ≡ x j
  unfolding fronted
  front-in j h = simp (lt-ltb j N h)

  pub front-past : (j : ℕ) → N ≤ j → fronted N x z j ≡ z j
  unfolding fronted
  front-past j h = simp (le-ltb j N h)
