-- A low value by its five mirrored samples, and the same by natural numbers with the bias. Assumes nothing.
use mathlib.Core.Path.{◌≡◌, refl, sym, ap, ◌∙◌}
use Prim.Native.Nat.{ℕ, zero, suc, ◌+◌, ◌-◌, ◌*◌, ◌≤◌, ◌<◌}
use native.Mathlib.Decide.{dec_lt}
use native.Mathlib.Omega.{arith}
use lib.IntN.{ℤ, pos, ◌+ℤ◌}
use Rattle.numbers.specs.Word.{whole}
use Rattle.numbers.proofs.Integers.{each, lin}
use Rattle.lifting.specs.Line.{predicted, updated, lo, hi}
use Rattle.lifting.specs.Grid.{Side, side, place, count, line_forward}
use Rattle.lifting.specs.Passes.{near}
use Rattle.lifting.proofs.GridLaws.{high-near, low_near, low-one}
use Rattle.nearest_change.specs.Trials.{Small, mirrored, bias, lifted_of}
use Rattle.nearest_change.specs.declared.five.Five.{Five}

-- the low value of five samples
abbrev pub low_five : ℤ → ℤ → ℤ → ℤ → ℤ → ℤ
low_five a b x d e = updated whole x (predicted whole b a x) (predicted whole d x e)

pub five-same : {a a' b b' x x' d d' e e' : ℤ} → a ≡ a' → b ≡ b' → x ≡ x' → d ≡ d' → e ≡ e' → low_five a b x d e ≡ low_five a' b' x' d' e'
five-same p q r s t = λ i. low_five (p i) (q i) (r i) (s i) (t i)

-- ---- of a line
by_three : (f : ℤ → ℤ → ℤ → ℤ) {v v' a a' b b' : ℤ} → v ≡ v' → a ≡ a' → b ≡ b' → f v a b ≡ f v' a' b'
by_three f p q r = λ i. f (p i) (q i) (r i)

turned : (v a b : ℤ) → predicted whole v a b ≡ predicted whole v b a
unfolding predicted
turned = each _ λ p q. each _ λ r s. each _ λ t u. simp lin (omega arith)

level : (v : ℤ) → low_five v v v v v ≡ v
unfolding predicted updated
level = each _ λ p q. simp lin (omega arith)

-- a place of the line is its own mirror; before its first and past its last place the mirror goes back
pub mirror-in : (N q : ℕ) → 2 ≤ q → q < N + 2 → mirrored N q ≡ q - 2
unfolding mirrored
mirror-in N q l h = omega arith

mirror-before : (N q : ℕ) → q ≤ 2 → 2 < N + q → mirrored N q ≡ 2 - q
unfolding mirrored
mirror-before N q l h = omega arith

mirror-past : (N q : ℕ) → 2 ≤ q → N < q → mirrored N q ≡ 2 * N - q
unfolding mirrored
mirror-past N q l h = omega arith

mirror-two : mirrored 2 0 ≡ 0
unfolding mirrored
mirror-two = omega arith

-- the high values on both sides of low value n, and their neighbours
beside : (N n : ℕ) → n + 1 < count lo (side 0 N) → (near (count hi (side 0 N)) n ≡ n) × (n < count hi (side 0 N)) × (2 * n + 2 < N)
unfolding count
beside N n b = (omega arith, omega arith, omega arith)

near-low : (N n : ℕ) → n < count lo (side 0 N) → near (count lo (side 0 N)) n ≡ n
near-low N n b = omega arith

beside-last : (N n : ℕ) → n < count lo (side 0 N) → 1 < N → N ≤ 2 * n + 1
    → (near (count hi (side 0 N)) (n + 0) ≡ n - 1) × (n - 1 < count hi (side 0 N)) × (1 ≤ n) × (N ≡ 2 * n + 1)
unfolding count
beside-last N n b g h = (omega arith, omega arith, omega arith, omega arith)

in_one : (N q m : ℕ) → q ≡ m + 2 → m < N → mirrored N q ≡ m
in_one N q m e h = mirror-in N q (omega arith) (omega arith) ∙ omega arith

past_one : (N q m : ℕ) → q + m ≡ 2 * N → N < q → 2 ≤ q → mirrored N q ≡ m
past_one N q m e h l = mirror-past N q l h ∙ omega arith

module _ (N : ℕ) (x : ℕ → ℤ) (g : 1 < N) where
  abbrev S : Side
  S = side 0 N

  -- a high value k of the line by three places
  three : (k a b c : ℕ) → k < count hi S → 2 * k + 1 ≡ b → 2 * near (count lo S) k ≡ a → 2 * near (count lo S) (k + 1) ≡ c
      → line_forward whole S x hi k ≡ predicted whole (x b) (x a) (x c)
  unfolding place
  three k a b c h p q r =
      high-near S g whole x k h
      ∙ by_three (predicted whole) (ap x (omega arith)) (ap x (omega (arith, ap (λ (m : ℕ). 2 * near (count lo S) m) (k-one k)))) (ap x (omega arith))
    where
      k-one : (k : ℕ) → k + 1 - 1 ≡ k
      k-one k = omega arith

  high-left : (n : ℕ) → n < count lo S
      → line_forward whole S x hi (near (count hi S) (n + 0 - 1))
      ≡ predicted whole (x (mirrored N (2 * n + 1))) (x (mirrored N (2 * n))) (x (mirrored N (2 * n + 2)))
  unfolding count
  high-left zero b =
      let k : near (count hi S) (0 + 0 - 1) ≡ 0 = omega arith in
      rw k
      (three 0 (mirrored N 2) (mirrored N 1) (mirrored N 0) (omega arith) (sym (mirror-before N 1 (omega arith) (omega arith)))
      (omega (arith, mirror-in N 2 (omega arith) (omega arith))) first
      ∙ turned _ (x (mirrored N 2)) (x (mirrored N 0)))
    where
      first : 2 * near (count lo S) (0 + 1) ≡ mirrored N 0
      first =
          elim (dec_lt 2 N) [
            | yes h ↦ omega (arith, mirror-before N 0 (omega arith) (omega arith))
            | no h ↦ let two : N ≡ 2 = omega arith in omega (arith, ap (λ (m : ℕ). mirrored m 0) two ∙ mirror-two)
          ]
  high-left (suc n) b =
      let l = beside N n (omega arith) in
      let k : near (count hi S) (suc n + 0 - 1) ≡ n = ap (near (count hi S)) (before n) ∙ l.0 in
      rw k
      (three n (mirrored N (2 * suc n)) (mirrored N (2 * suc n + 1)) (mirrored N (2 * suc n + 2)) l.1
      (sym (in_one N (2 * suc n + 1) (2 * n + 1) (omega arith) (omega arith)))
      (ap (λ (m : ℕ). 2 * m) (near-low N n (omega arith)) ∙ sym (in_one N (2 * suc n) (2 * n) (omega arith) (omega arith)))
      (ap (λ (m : ℕ). 2 * m) (near-low N (n + 1) (omega arith)) ∙ sym (in_one N (2 * suc n + 2) (2 * (n + 1)) (omega arith) (omega arith))))
    where
      before : (n : ℕ) → suc n + 0 - 1 ≡ n
      before n = omega arith

  high-right : (n : ℕ) → n < count lo S
      → line_forward whole S x hi (near (count hi S) (n + 0))
      ≡ predicted whole (x (mirrored N (2 * n + 3))) (x (mirrored N (2 * n + 2))) (x (mirrored N (2 * n + 4)))
  unfolding count
  high-right n b =
      elim (dec_lt (2 * n + 1) N) [
        | yes h ↦
            let k : near (count hi S) (n + 0) ≡ n = omega arith in
            rw k
            (three n (mirrored N (2 * n + 2)) (mirrored N (2 * n + 3)) (mirrored N (2 * n + 4)) (omega arith)
            (omega (arith, mirror-in N (2 * n + 3) (omega arith) (omega arith)))
            (omega (arith, mirror-in N (2 * n + 2) (omega arith) (omega arith))) (last n h))
        | no h ↦
            let l = beside-last N n b g (omega arith) in
            rw l.0
            (three (n - 1) (mirrored N (2 * n + 4)) (mirrored N (2 * n + 3)) (mirrored N (2 * n + 2)) l.1
            (sym (past_one N (2 * n + 3) _ (odd n l.2 l.3) (omega arith) (omega arith)))
            (ap (λ (m : ℕ). 2 * m) (near-low N (n - 1) (omega arith))
            ∙ sym (past_one N (2 * n + 4) _ (even n l.2 l.3) (omega arith) (omega arith)))
            (ap (λ (m : ℕ). 2 * m) (ap (near (count lo S)) (again n l.2) ∙ near-low N n b) ∙ sym (in_one N (2 * n + 2) (2 * n) refl (omega arith)))
            ∙ turned _ (x (mirrored N (2 * n + 4))) (x (mirrored N (2 * n + 2))))
      ]
    where
      odd : (n : ℕ) → 1 ≤ n → N ≡ 2 * n + 1 → 2 * n + 3 + (2 * (n - 1) + 1) ≡ 2 * N
      odd n l e = omega arith

      even : (n : ℕ) → 1 ≤ n → N ≡ 2 * n + 1 → 2 * n + 4 + 2 * (n - 1) ≡ 2 * N
      even n l e = omega arith

      again : (n : ℕ) → 1 ≤ n → n - 1 + 1 ≡ n
      again n l = omega arith

      last : (n : ℕ) → 2 * n + 1 < N → 2 * near (count lo S) (n + 1) ≡ mirrored N (2 * n + 4)
      last n h =
          elim (dec_lt (2 * n + 2) N) [
            | yes i ↦ omega (arith, mirror-in N (2 * n + 4) (omega arith) (omega arith))
            | no i ↦ omega (arith, mirror-past N (2 * n + 4) (omega arith) (omega arith))
          ]

  two-more : (n : ℕ) → n < count lo S
      → line_forward whole S x lo n
      ≡ low_five (x (mirrored N (2 * n))) (x (mirrored N (2 * n + 1))) (x (mirrored N (2 * n + 2))) (x (mirrored N (2 * n + 3))) (x (mirrored N (2 * n + 4)))
  unfolding place count
  two-more n b =
      low_near S g whole x n b
      ∙ by_three (updated whole) (ap x (omega (arith, mirror-in N (2 * n + 2) (omega arith) (omega arith)))) (high-left n b) (high-right n b)

single : (q : ℕ) → mirrored 1 q ≡ 0
unfolding mirrored
single q = omega arith

one_only : (x : ℕ → ℤ) → x 0 ≡ low_five (x (mirrored 1 0)) (x (mirrored 1 1)) (x (mirrored 1 2)) (x (mirrored 1 3)) (x (mirrored 1 4))
one_only x = sym (level (x 0)) ∙ five-same (by 0) (by 1) (by 2) (by 3) (by 4)
  where
    by : (q : ℕ) → x 0 ≡ x (mirrored 1 q)
    by q = ap x (sym (single q))

-- low value n of a line at a start of 0 is that of its five mirrored samples
pub line_low : (N : ℕ) (x : ℕ → ℤ) (n : ℕ) → n < count lo (side 0 N)
    → line_forward whole (side 0 N) x lo n
    ≡ low_five (x (mirrored N (2 * n))) (x (mirrored N (2 * n + 1))) (x (mirrored N (2 * n + 2))) (x (mirrored N (2 * n + 3))) (x (mirrored N (2 * n + 4)))
unfolding place count
line_low zero x n b = absurd (omega arith)
line_low (suc zero) x zero b = low-one (side 0 1) (omega arith) whole x 0 ∙ one_only x
line_low (suc zero) x (suc n) b = absurd (omega arith)
line_low (suc (suc N)) x n b = two-more (suc (suc N)) x (omega arith) n b

-- ---- by natural numbers
shifted : (a b x d e : ℤ)
    → low_five (a +ℤ pos bias) (b +ℤ pos bias) (x +ℤ pos bias) (d +ℤ pos bias) (e +ℤ pos bias) ≡ low_five a b x d e +ℤ pos bias
unfolding predicted updated
shifted = each _ λ p q. each _ λ r s. each _ λ t u. each _ λ v w. each _ λ y z. simp lin (omega arith)

pub biased : (f : Five) → Small (2 * bias) f
    → low_five (pos f.a) (pos f.b) (pos f.c) (pos f.d) (pos f.e) +ℤ pos bias ≡ pos (lifted_of f)
unfolding predicted updated lifted_of
biased f s = simp lin (omega arith)

-- of numbers that have the bias already
pub biased-twice : (f : Five) (a b x d e : ℤ) → Small (2 * bias) f → a +ℤ pos bias ≡ pos f.a → b +ℤ pos bias ≡ pos f.b → x +ℤ pos bias ≡ pos f.c
    → d +ℤ pos bias ≡ pos f.d → e +ℤ pos bias ≡ pos f.e → low_five a b x d e +ℤ pos bias +ℤ pos bias ≡ pos (lifted_of f)
biased-twice f a b x d e s p q r t u =
    ap (λ (v : ℤ). v +ℤ pos bias) (sym (shifted a b x d e) ∙ five-same p q r t u) ∙ biased f s

-- the low value of five heights stays small enough to be lifted again
pub lifted-small : (f : Five) → Small 65535 f → lifted_of f ≤ 2 * bias
unfolding lifted_of
lifted-small f s = omega arith
