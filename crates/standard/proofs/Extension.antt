-- The extension worked out: T.800's remainder mirrors as `NineSeven` does, places being counted from the line's start; so it is symmetric about both end
-- samples. Assumes nothing.
use mathlib.Core.Path.{◌≡◌, refl, sym, ap, ap₂, ◌∙◌}
use Prim.Native.Nat.{ℕ, zero, suc, ◌+◌, ◌-◌, ◌*◌, ◌/◌, ◌%◌, ◌≤◌, ◌<◌}
use native.Mathlib.Decide.{dec_lt, ℕ_discrete}
use native.Mathlib.Nat.{zero-mod, mod-eq_of_lt, mod_self, suc-mod, mod-lt, mod-le, add-mod_right, mod-add-div}
use native.Mathlib.Omega.{arith}
use lib.IntN.{ℤ, pos, negsuc, nat_abs, ◌+ℤ◌, ◌-ℤ◌, +ℤ_comm}
use Rattle.numbers.proofs.Integers.{dif, dif_pos, dif-negsuc, each, lin, dif-nat_abs}
use Rattle.lifting.specs.Grid.{Side}
use Rattle.nine_seven.specs.NineSeven.{mirror}
use Rattle.standard.specs.Line.{over, by_coordinate, remainder, period, folded, mirrored, extended}

-- ---- the remainder
mod-pos : (a m : ℕ) → remainder (pos a) m ≡ a % m
unfolding remainder
mod-pos a m = let e = mod-add-div a m in simp (lin, dif-nat_abs) (omega arith)

mod-neg : (a m : ℕ) → 0 < m → remainder (negsuc a) m ≡ m - 1 - a % m
unfolding remainder
mod-neg a m p =
    let e = mod-add-div a m in
    let l = mod-lt a p in
    let d : m * suc (a / m) ≡ m * (a / m) + m = omega arith in
    simp (lin, dif-nat_abs) (omega arith)

-- of a number and its negative the remainders fold to the same
fold_next : (a m : ℕ) → 0 < m → folded m (m - 1 - a % m) ≡ folded m (suc a % m)
unfolding folded
fold_next a m p =
    let l = mod-lt a p in
    let s = suc-mod a m in
    elim (dec_lt (suc (a % m)) m) [
      | yes b ↦ let e : suc (a % m) % m ≡ suc (a % m) = mod-eq_of_lt b in omega arith
      | no b ↦
          let c : suc (a % m) ≡ m = omega arith in
          let e : suc (a % m) % m ≡ 0 = ap (λ (k : ℕ). k % m) c ∙ mod_self m in
          omega arith
    ]

fold-none : (n k : ℕ) → folded 0 n ≡ folded 0 k
unfolding folded
fold-none n k = omega arith

pub fold-abs : (m : ℕ) (z : ℤ) → folded m (remainder z m) ≡ folded m (nat_abs z % m)
fold-abs m (pos a) = ap (folded m) (mod-pos a m)
fold-abs zero (negsuc a) = fold-none _ _
fold-abs (suc k) (negsuc a) = ap (folded (suc k)) (mod-neg a (suc k) (omega arith)) ∙ fold_next a (suc k) (omega arith)

-- and those of two numbers whose sum is the period
both-pos : (a b m : ℕ) → pos a +ℤ pos b ≡ pos m → a + b ≡ m
both-pos a b m e = let d = simp lin at e in omega arith

one-neg : (a b m : ℕ) → pos a +ℤ negsuc b ≡ pos m → a ≡ suc b + m
one-neg a b m e =
    let z : dif a 0 +ℤ dif 0 (suc b) ≡ dif m 0 = ap₂ ◌+ℤ◌ (sym (dif_pos a)) (sym (dif-negsuc b)) ∙ e ∙ dif_pos m in
    let d = simp lin at z in
    omega arith

both-neg : (a b m : ℕ) → negsuc a +ℤ negsuc b ≡ pos m → 1 ≤ 0
both-neg a b m e = let d = simp lin at e in omega arith

fold-pos : (a b m : ℕ) → a + b ≡ m → folded m (a % m) ≡ folded m (b % m)
unfolding folded
fold-pos a b m e =
    elim (ℕ_discrete a 0) [
      | yes z ↦
          let c : b % m ≡ 0 = ap (λ (k : ℕ). k % m) (omega arith) ∙ mod_self m in
          let d : a % m ≡ 0 = ap (λ (k : ℕ). k % m) z ∙ zero-mod m in
          omega arith
      | no u ↦
          elim (ℕ_discrete b 0) [
            | yes z ↦
                let c : a % m ≡ 0 = ap (λ (k : ℕ). k % m) (omega arith) ∙ mod_self m in
                let d : b % m ≡ 0 = ap (λ (k : ℕ). k % m) z ∙ zero-mod m in
                omega arith
            | no w ↦
                let c : a % m ≡ a = mod-eq_of_lt {m = m} (omega arith) in
                let d : b % m ≡ b = mod-eq_of_lt {m = m} (omega arith) in
                omega arith
          ]
    ]

fold-sum : (m : ℕ) (p q : ℤ) → p +ℤ q ≡ pos m → folded m (nat_abs p % m) ≡ folded m (nat_abs q % m)
fold-sum m (pos a) (pos b) e = fold-pos a b m (both-pos a b m e)
fold-sum m (pos a) (negsuc b) e = ap (folded m) (ap (λ (k : ℕ). k % m) (one-neg a b m e) ∙ add-mod_right (suc b) m)
fold-sum m (negsuc a) (pos b) e =
    ap (folded m) (sym (ap (λ (k : ℕ). k % m) (one-neg b a m (+ℤ_comm (pos b) (negsuc a) ∙ e)) ∙ add-mod_right (suc a) m))
fold-sum m (negsuc a) (negsuc b) e = absurd (let d = both-neg a b m e in omega arith)

opposite : (p q : ℤ) → p +ℤ q ≡ pos 0 → nat_abs p ≡ nat_abs q
opposite = each _ λ a b. each _ λ c d. simp (lin, dif-nat_abs) (λ e. omega arith)

-- ---- places are counted from the line's start
away : (a p : ℤ) → a +ℤ p -ℤ a ≡ p
away = each _ λ a b. each _ λ c d. simp lin (omega arith)

pub mirror-fold : (N : ℕ) (p : ℤ) → mirror N p ≡ folded (2 * (N - 1)) (nat_abs p % (2 * (N - 1)))
unfolding mirror folded
mirror-fold N p = refl

below : (N m : ℕ) → 0 < N → folded (2 * (N - 1)) m < N
unfolding folded
below N m p = omega arith

-- it is a place of the line, and no farther from the start than the place mirrored
pub mirror-below : (N : ℕ) (p : ℤ) → 0 < N → mirror N p < N
mirror-below N p g = rw (mirror-fold N p) (below N _ g)

near : (m a : ℕ) → folded m (a % m) ≤ a
unfolding folded
near m a = let e = mod-le a m in omega arith

pub mirror-near : (N : ℕ) (p : ℤ) → mirror N p ≤ nat_abs p
mirror-near N p = rw (mirror-fold N p) (near (2 * (N - 1)) (nat_abs p))

period-is : (S : Side) → period (over S) ≡ 2 * (S.length - 1)
unfolding period
period-is S = omega arith

pub mirrored-is : (S : Side) (p : ℤ) → mirrored (over S) (pos S.start +ℤ p) ≡ S.start + mirror S.length p
unfolding mirrored
mirrored-is S p =
    ap (λ (k : ℕ). S.start + k)
    (ap₂ (λ (z : ℤ) (m : ℕ). folded m (remainder z m)) (away (pos S.start) p) (period-is S)
    ∙ fold-abs (2 * (S.length - 1)) p
    ∙ sym (mirror-fold S.length p))

module _ (S : Side) (x : ℕ → ℤ) where
  abbrev pub ext : ℤ → ℤ
  ext = extended (over S) (by_coordinate S.start x)

  pub ext-is : (p : ℤ) → ext (pos S.start +ℤ p) ≡ x (mirror S.length p)
  unfolding extended
  ext-is p = ap (λ (k : ℕ). x (k - S.start)) (mirrored-is S p) ∙ ap x (omega arith)

-- ---- in the line it is the line
inside : (N q : ℕ) → q < N → folded (2 * (N - 1)) q ≡ q
unfolding folded
inside N q b = omega arith

single : (a q : ℕ) → q ≡ 0 → folded 0 a ≡ q
unfolding folded
single a q e = omega arith

pub mirror-in : (N q : ℕ) → q < N → mirror N (pos q) ≡ q
mirror-in N q b =
    mirror-fold N (pos q)
    ∙ elim (dec_lt 1 N) [
      | yes g ↦ let e : q % (2 * (N - 1)) ≡ q = mod-eq_of_lt {m = 2 * (N - 1)} (omega arith) in rw e (inside N q b)
      | no g ↦ let e : 2 * (N - 1) ≡ 0 = omega arith in rw e (single (q % 0) q (omega arith))
    ]

-- and about its ends it is symmetric: numbers whose sum is twice the first coordinate, or twice the last one
whence : (a i : ℤ) → i ≡ a +ℤ (i -ℤ a)
whence = each _ λ a b. each _ λ c d. simp lin (omega arith)

less-twice : (a i j : ℤ) → i +ℤ j ≡ a +ℤ a → (i -ℤ a) +ℤ (j -ℤ a) ≡ pos 0
less-twice = each _ λ a b. each _ λ c d. each _ λ e f. simp lin (λ h. omega arith)

less-more : (a m i j : ℤ) → i +ℤ j ≡ a +ℤ a +ℤ m → (i -ℤ a) +ℤ (j -ℤ a) ≡ m
less-more = each _ λ a b. each _ λ m n. each _ λ c d. each _ λ e f. simp lin (λ h. omega arith)

module _ (S : Side) (x : ℕ → ℤ) where
  abbrev X : ℤ → ℤ
  X = ext S x

  from_start : (i : ℤ) → X i ≡ x (mirror S.length (i -ℤ pos S.start))
  from_start i = ap X (whence (pos S.start) i) ∙ ext-is S x (i -ℤ pos S.start)

  mirror-same : (p q : ℤ) → folded (2 * (S.length - 1)) (nat_abs p % (2 * (S.length - 1))) ≡ folded (2 * (S.length - 1)) (nat_abs q % (2 * (S.length - 1)))
      → mirror S.length p ≡ mirror S.length q
  mirror-same p q e = mirror-fold S.length p ∙ e ∙ sym (mirror-fold S.length q)

  pub about-first : (i j : ℤ) → i +ℤ j ≡ pos S.start +ℤ pos S.start → X i ≡ X j
  about-first i j e =
      let p = i -ℤ pos S.start in
      let q = j -ℤ pos S.start in
      from_start i
      ∙ ap x (mirror-same p q (ap (λ (k : ℕ). folded (2 * (S.length - 1)) (k % (2 * (S.length - 1)))) (opposite p q (less-twice (pos S.start) i j e))))
      ∙ sym (from_start j)

  pub about-last : (i j : ℤ) → i +ℤ j ≡ pos S.start +ℤ pos S.start +ℤ pos (2 * (S.length - 1)) → X i ≡ X j
  about-last i j e =
      let p = i -ℤ pos S.start in
      let q = j -ℤ pos S.start in
      from_start i
      ∙ ap x (mirror-same p q (fold-sum (2 * (S.length - 1)) p q (less-more (pos S.start) (pos (2 * (S.length - 1))) i j e)))
      ∙ sym (from_start j)
