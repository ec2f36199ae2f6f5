-- An or of numbers is at least as large as each of them, and what that says of magnitudes and of heights. Assumes nothing.
use mathlib.Core.Path.{◌≡◌, refl, sym, ap, ◌∙◌}
use mathlib.Core.Bool.{Bool, true, false, ◌&&◌}
use mathlib.Core.List.{List}
use Prim.Native.Nat.{ℕ, ◌+◌, ◌^◌, ◌≤◌, ◌<◌}
use native.Mathlib.Decide.{ℕ_discrete}
use native.Mathlib.Omega.{arith}
use borrow.Author.Tests.{ltb-true, ltb-false, le-leb, leb-true}
use lib.Bits.{bit_or, or_add_and, and_le_l, and_le_r}
use lib.Dec.{T}
use lib.IntN.{ℤ, pos, negsuc, nat_abs, ◌-ℤ◌}
use lib.ListN.{length}
use lib.Signed.{non_neg, lt_z, le_z}
use mir.Syntax.{w32}
use mir.Val.{Fits, SFits, to_z, of_z}
use mir.ValLaws.{to_z-of_z, of_z-to_z, of_z_fits, to_z_pos, Fits-or}
use borrow.Rule.Slice.PartMut.{mid_of}
use Rattle.numbers.specs.Signal.{at}
use Rattle.numbers.proofs.Integers.{each, lin, dif-nat_abs}
use Rattle.areas.specs.Areas.{between}
use Rattle.wavelet.specs.Limits.{max_sample}
use Rattle.wavelet.proofs.LimitLaws.{sample-small}
use Rattle.map_levels.proofs.TestLaws.{false-true, both_is}
use Rattle.numbers.proofs.Parts.{window-in, at_mid, length-mid}

pub or_left : (a b : ℕ) → a ≤ bit_or a b
or_left a b = omega (arith, or_add_and a b, and_le_r a b)

pub or_right : (a b : ℕ) → b ≤ bit_or a b
or_right a b = omega (arith, or_add_and a b, and_le_l a b)

-- the numbers x below i, whose or is `all`, and one more
pub or-more : (i all m : ℕ) (x : ℕ → ℤ) → ((j : ℕ) → j < i → nat_abs (x j) ≤ all + 1) → nat_abs (x i) ≤ m + 1 → (j : ℕ) → j < i + 1 →
    nat_abs (x j) ≤ bit_or all m + 1
or-more i all m x small one j b =
    elim (ℕ_discrete j i) [
      | yes e ↦ let r = or_right all m in rw e (omega arith)
      | no d ↦ let l = or_left all m in omega (arith, small j (omega (arith, d)))
    ]

pub or-end : (i n all most : ℕ) (x : ℕ → ℤ) → n ≤ i → ((j : ℕ) → j < i → nat_abs (x j) ≤ all + 1) → all < most → (j : ℕ) → j < n → nat_abs (x j) ≤ most
or-end i n all most x e small b j l = omega (arith, small j (omega arith))

-- a number that is a natural one, as a number without a sign
pub natural-fits : (z : ℤ) (n : ℕ) → n < 2147483648 → z ≡ pos n → T (non_neg z) × Fits w32 (nat_abs z)
natural-fits z n b e = rw e (tt, omega arith)

pub natural-is : (z : ℤ) (n : ℕ) → z ≡ pos n → nat_abs z ≡ n
natural-is z n e = rw e refl

-- the first n numbers of l, lent
pub front-small : (n k m most : ℕ) (l : List ℤ) → n ≤ length l → m ≡ most → ((i : ℕ) → i < length (mid_of 0 k l) → nat_abs (at (mid_of 0 k l) i) ≤ m) → k ≡ n →
    (i : ℕ) → i < n → nat_abs (at l i) ≤ most
front-small n k m most l b e small d i g =
    let size = length-mid 0 k l (omega arith) in
    let there : at (mid_of 0 k l) i ≡ at l i = ap (λ (f : ℕ → ℤ). f i) (at_mid 0 k l) ∙ window-in 0 k (at l) i (omega arith) ∙ ap (at l) (omega arith) in
    rw (← there, ← e) (small i (omega arith))

-- ---- the magnitude: v' is v read back, m what is made of it below 0, read back
below-small : (v : ℤ) → SFits w32 v → lt_z v (pos 0) ≡ true → SFits w32 (negsuc 0 -ℤ v)
below-small = each _ λ p q. simp lin (omega arith)

pub below-fits : (v' v : ℤ) → v' ≡ v → SFits w32 v → lt_z v' (pos 0) ≡ true → SFits w32 (negsuc 0 -ℤ v')
below-fits v' v e f b = rw e (below-small v f (rw e at b))

below-sign : (v : ℤ) → lt_z v (pos 0) ≡ true → T (non_neg (negsuc 0 -ℤ v))
below-sign = each _ λ p q. simp lin (λ b. omega (arith, ltb-true (p + 0) (0 + q) b))

below-few : (v : ℤ) → SFits w32 v → lt_z v (pos 0) ≡ true → Fits w32 (nat_abs (negsuc 0 -ℤ v))
below-few = each _ λ p q. simp (lin, dif-nat_abs) (omega arith)

below-natural : (v : ℤ) → SFits w32 v → lt_z v (pos 0) ≡ true → T (non_neg (negsuc 0 -ℤ v)) × Fits w32 (nat_abs (negsuc 0 -ℤ v))
below-natural v f b = (below-sign v b, below-few v f b)

pub below-cast : (v' m v : ℤ) → v' ≡ v → m ≡ negsuc 0 -ℤ v' → SFits w32 v → lt_z v' (pos 0) ≡ true → T (non_neg m) × Fits w32 (nat_abs m)
below-cast v' m v e d f b = rw (d, e) (below-natural v f (rw e at b))

below_one : (v : ℤ) → lt_z v (pos 0) ≡ true → nat_abs v ≤ nat_abs (negsuc 0 -ℤ v) + 1
below_one = each _ λ p q. simp (lin, dif-nat_abs) (omega arith)

pub below-large : (v' m v : ℤ) → v' ≡ v → m ≡ negsuc 0 -ℤ v' → lt_z v' (pos 0) ≡ true → nat_abs v ≤ nat_abs m + 1
below-large v' m v e d b = rw (d, e) (below_one v (rw e at b))

above-sign : (v : ℤ) → lt_z v (pos 0) ≡ false → T (non_neg v)
above-sign = each _ λ p q. simp lin (λ b. omega (arith, ltb-false (p + 0) (0 + q) b))

above-few : (v : ℤ) → SFits w32 v → Fits w32 (nat_abs v)
above-few = each _ λ p q. simp (lin, dif-nat_abs) (omega arith)

above-natural : (v : ℤ) → SFits w32 v → lt_z v (pos 0) ≡ false → T (non_neg v) × Fits w32 (nat_abs v)
above-natural v f b = (above-sign v b, above-few v f)

pub above-cast : (v' v : ℤ) → v' ≡ v → SFits w32 v → lt_z v' (pos 0) ≡ false → T (non_neg v') × Fits w32 (nat_abs v')
above-cast v' v e f b = rw e (above-natural v f (rw e at b))

pub above-large : (v' v : ℤ) → v' ≡ v → nat_abs v ≤ nat_abs v' + 1
above-large v' v e = rw e (omega arith)

-- ---- heights: the numbers x below i, whose bits are at most `all`, and one more
pub record BitsWithin (i all : ℕ) (x : ℕ → ℤ) : Type 0 where
  pub fits : Fits w32 all
  pub words : (j : ℕ) → j < i → SFits w32 (x j)
  pub most : (j : ℕ) → j < i → of_z w32 (x j) ≤ all

pub bits_none : (x : ℕ → ℤ) → BitsWithin 0 0 x
bits_none x = record { fits = omega arith; words = λ j b. absurd (omega arith); most = λ j b. absurd (omega arith) }

-- b has the bits of the one more, and maybe others
pub bits-over : (i all b : ℕ) (x : ℕ → ℤ) → BitsWithin i all x → SFits w32 (x i) → Fits w32 b → of_z w32 (x i) ≤ b → BitsWithin (i + 1) (bit_or all b) x
bits-over i all b x s f g few =
    record {
      fits = Fits-or all b s.fits g;
      words = λ j l. elim (ℕ_discrete j i) [ yes q ↦ rw q f | no d ↦ s.words j (omega (arith, d)) ];
      most = λ j l.
          elim (ℕ_discrete j i) [
            | yes q ↦ let r = or_right all b in rw q (omega arith)
            | no d ↦ let m = or_left all b in omega (arith, s.most j (omega (arith, d)))
          ];
    }

pub bits-more : (i all : ℕ) (x : ℕ → ℤ) → BitsWithin i all x → SFits w32 (x i) → BitsWithin (i + 1) (bit_or all (of_z w32 (x i))) x
bits-more i all x s f = bits-over i all (of_z w32 (x i)) x s f (of_z_fits w32 (x i) f) (omega arith)

-- the or as a number with a sign
pub bits-read : (i all : ℕ) (x : ℕ → ℤ) → Fits w32 all → BitsWithin i (of_z w32 (to_z w32 all)) x → BitsWithin i all x
bits-read i all x f s = rw (of_z-to_z w32 all f) at s

pub bits-written : (i all : ℕ) (x : ℕ → ℤ) → BitsWithin i all x → BitsWithin i (of_z w32 (to_z w32 all)) x
bits-written i all x s = rw (of_z-to_z w32 all s.fits) s

-- the or of two numbers has the bits of both
pub or-both : (a b : ℤ) → SFits w32 a → SFits w32 b →
    (of_z w32 a ≤ of_z w32 (to_z w32 (bit_or (of_z w32 a) (of_z w32 b)))) × (of_z w32 b ≤ of_z w32 (to_z w32 (bit_or (of_z w32 a) (of_z w32 b))))
or-both a b f g =
    let n = bit_or (of_z w32 a) (of_z w32 b) in
    let e = of_z-to_z w32 n (Fits-or (of_z w32 a) (of_z w32 b) (of_z_fits w32 a f) (of_z_fits w32 b g)) in
    (rw e (or_left (of_z w32 a) (of_z w32 b)), rw e (or_right (of_z w32 a) (of_z w32 b)))

pub or-of : (v v' : ℤ) (n : ℕ) → v ≡ v' → of_z w32 v ≤ n → of_z w32 v' ≤ n
or-of v v' n e l = rw (← e) l

natural-read : (z : ℤ) (n : ℕ) → le_z (pos 0) z ≡ true → le_z z (pos n) ≡ true → of_z w32 z ≤ n
natural-read (pos m) n a b = leb-true m n b
natural-read (negsuc m) n a b = absurd (false-true a)

-- a number of so few bits is a height
few-height : (v : ℤ) (n : ℕ) → v ≡ pos n → n ≤ max_sample → between (pos 0) (pos max_sample) v ≡ true
unfolding between
few-height v n e b = rw e (both_is (le_z (pos 0) (pos n)) (le_z (pos n) (pos max_sample)) (le-leb 0 n (omega arith)) (le-leb n max_sample b))

bits-height : (v : ℤ) → SFits w32 v → of_z w32 v ≤ max_sample → between (pos 0) (pos max_sample) v ≡ true
bits-height v f b =
    let small : of_z w32 v < 2 ^ 31 = omega (arith, sample-small) in
    few-height v (of_z w32 v) (sym (to_z-of_z w32 v f) ∙ to_z_pos w32 (of_z w32 v) small) b

both-parts : (a b : Bool) → a && b ≡ true → (a ≡ true) × (b ≡ true)
both-parts true b e = (refl, e)
both-parts false b e = absurd (false-true e)

-- all of them, `all` being the or as it is read
pub bits-end : (i n all : ℕ) (x : ℕ → ℤ) → n ≤ i → BitsWithin i all x → le_z (pos 0) (to_z w32 all) && le_z (to_z w32 all) (pos max_sample) ≡ true →
    (j : ℕ) → j < n → between (pos 0) (pos max_sample) (x j) ≡ true
bits-end i n all x e s t j l =
    let b = both-parts (le_z (pos 0) (to_z w32 all)) (le_z (to_z w32 all) (pos max_sample)) t in
    let few : all ≤ max_sample = rw (of_z-to_z w32 all s.fits) at (natural-read (to_z w32 all) max_sample b.0 b.1) in
    bits-height (x j) (s.words j (omega arith)) (omega (arith, s.most j (omega arith)))
