-- What the steps take: a high step in two parts, each of which fits 32 bits, and the quarter of a low step. Assumes nothing.
use mathlib.Core.Path.{◌≡◌}
use Prim.Native.Nat.{◌≤◌}
use native.Mathlib.Omega.{arith}
use lib.IntN.{ℤ, pos, nat_abs, ◌+ℤ◌, ◌-ℤ◌, ◌*ℤ◌}
use lib.Signed.{shr_z}
use mir.Syntax.{w32, w64}
use mir.Val.{SFits}
use Rattle.numbers.specs.Word.{wrap32}
use Rattle.numbers.proofs.Integers.{each, lin}
use Rattle.nine_seven.specs.NineSeven.{high_part}

-- ---- sixteenths of a sample, and what they leave
pub sixteenth-fits : (a : ℤ) → SFits w32 a → SFits w32 (shr_z a 16)
sixteenth-fits = each _ λ p q. simp lin (omega arith)

pub sixteenths-fit : (a b : ℤ) → SFits w32 a → SFits w32 b → SFits w32 (shr_z a 16 +ℤ shr_z b 16)
sixteenths-fit = each _ λ p q. each _ λ r s. simp lin (omega arith)

pub sixteenths-small : (a b : ℤ) → SFits w32 a → SFits w32 b → nat_abs (shr_z a 16 +ℤ shr_z b 16) ≤ 268435456
sixteenths-small = each _ λ p q. each _ λ r s. simp lin (omega arith)

pub eightfold-fits : (a b : ℤ) → SFits w32 a → SFits w32 b → SFits w32 (pos 8 *ℤ (shr_z a 16 +ℤ shr_z b 16))
eightfold-fits = each _ λ p q. each _ λ r s. simp lin (omega arith)

pub back_fits : (a : ℤ) → SFits w32 a → SFits w32 (pos 16 *ℤ shr_z a 16)
back_fits = each _ λ p q. simp lin (omega arith)

pub rest-fits : (a : ℤ) → SFits w32 a → SFits w32 (a -ℤ pos 16 *ℤ shr_z a 16)
rest-fits = each _ λ p q. simp lin (omega arith)

pub rests-fit : (a b : ℤ) → SFits w32 ((a -ℤ pos 16 *ℤ shr_z a 16) +ℤ (b -ℤ pos 16 *ℤ shr_z b 16))
rests-fit = each _ λ p q. each _ λ r s. simp lin (omega arith)

pub rests-small : (a b : ℤ) → nat_abs ((a -ℤ pos 16 *ℤ shr_z a 16) +ℤ (b -ℤ pos 16 *ℤ shr_z b 16)) ≤ 30
rests-small = each _ λ p q. each _ λ r s. simp lin (omega arith)

pub rests-are : (a b : ℤ) → (a -ℤ pos 16 *ℤ shr_z a 16) +ℤ (b -ℤ pos 16 *ℤ shr_z b 16) ≡ (a +ℤ b) -ℤ pos 16 *ℤ (shr_z a 16 +ℤ shr_z b 16)
rests-are = each _ λ p q. each _ λ r s. simp lin (omega arith)

-- ---- the lesser part
pub apart_fits : (s t : ℤ) → nat_abs s ≤ 268435456 → nat_abs t ≤ 268435456 → SFits w32 (s -ℤ t)
apart_fits = each _ λ p q. each _ λ r s. simp lin (omega arith)

pub ninefold : (u : ℤ) → nat_abs u ≤ 30 → SFits w32 (pos 9 *ℤ u)
ninefold = each _ λ p q. simp lin (omega arith)

pub nine-less : (u v : ℤ) → nat_abs u ≤ 30 → nat_abs v ≤ 30 → SFits w32 (pos 9 *ℤ u -ℤ v)
nine-less = each _ λ p q. each _ λ r s. simp lin (omega arith)

pub nine-more : (u v : ℤ) → nat_abs u ≤ 30 → nat_abs v ≤ 30 → SFits w32 (pos 9 *ℤ u -ℤ v +ℤ pos 8)
nine-more = each _ λ p q. each _ λ r s. simp lin (omega arith)

pub part_small : (u v : ℤ) → nat_abs u ≤ 30 → nat_abs v ≤ 30 → nat_abs (shr_z (pos 9 *ℤ u -ℤ v +ℤ pos 8) 16) ≤ 30
part_small = each _ λ p q. each _ λ r s. simp lin (omega arith)

pub part-fits : (s t w : ℤ) → nat_abs s ≤ 268435456 → nat_abs t ≤ 268435456 → nat_abs w ≤ 30 → SFits w32 (s -ℤ t +ℤ w)
part-fits = each _ λ p q. each _ λ r s. each _ λ t u. simp lin (omega arith)

-- both parts are the whole, whatever sixteenths s and t are taken of the sums p and q
pub both-parts : (p q s t : ℤ)
    → pos 8 *ℤ s +ℤ (s -ℤ t +ℤ shr_z (pos 9 *ℤ (p -ℤ pos 16 *ℤ s) -ℤ (q -ℤ pos 16 *ℤ t) +ℤ pos 8) 16) ≡ shr_z (pos 9 *ℤ p -ℤ q +ℤ pos 8) 16
both-parts = each _ λ p p'. each _ λ q q'. each _ λ s s'. each _ λ t t'. simp lin (omega arith)

-- and taken one after the other they are taken at once
pub less-twice : (x f g : ℤ) → wrap32 (wrap32 (x -ℤ f) -ℤ g) ≡ wrap32 (x -ℤ (f +ℤ g))
unfolding wrap32
less-twice = each _ λ p q. each _ λ r s. each _ λ t u. simp lin (omega arith)

pub more-twice : (x f g : ℤ) → wrap32 (wrap32 (x +ℤ f) +ℤ g) ≡ wrap32 (x +ℤ (f +ℤ g))
unfolding wrap32
more-twice = each _ λ p q. each _ λ r s. each _ λ t u. simp lin (omega arith)

-- ---- a step by its parts, as the code has them: each number z comes as z and as z', which is z read back from bits
module _ (a b a' b' s s' : ℤ) (ea : a' ≡ a) (eb : b' ≡ b) (es : s' ≡ s) (is : s ≡ shr_z a' 16 +ℤ shr_z b' 16) (fa : SFits w32 a) (fb : SFits w32 b) where
  sum_is : s' ≡ shr_z a 16 +ℤ shr_z b 16
  sum_is = cc

  pub sum-small : nat_abs s' ≤ 268435456
  sum-small = rw sum_is (sixteenths-small a b fa fb)

  pub sum-eightfold : SFits w32 (pos 8 *ℤ s')
  sum-eightfold = rw sum_is (eightfold-fits a b fa fb)

pub rest-small : (u u' : ℤ) → u' ≡ u → nat_abs u ≤ 30 → nat_abs u' ≤ 30
rest-small u u' e h = rw e h

module _ (a b c e a' b' c' e' s s' t t' u u' v v' m' p p' : ℤ) (ea : a' ≡ a) (eb : b' ≡ b) (ec : c' ≡ c) (ee : e' ≡ e) (es : s' ≡ s) (et : t' ≡ t)
    (eu : u' ≡ u) (ev : v' ≡ v) (ep : p' ≡ p) (is : s ≡ shr_z a' 16 +ℤ shr_z b' 16) (it : t ≡ shr_z c' 16 +ℤ shr_z e' 16)
    (iu : u ≡ (a' +ℤ b') -ℤ pos 16 *ℤ (shr_z a' 16 +ℤ shr_z b' 16)) (iv : v ≡ (c' +ℤ e') -ℤ pos 16 *ℤ (shr_z c' 16 +ℤ shr_z e' 16))
    (ip : p ≡ s' -ℤ t' +ℤ shr_z (pos 9 *ℤ u' -ℤ v' +ℤ pos 8) 16) (im : m' ≡ pos 8 *ℤ s') where
  parts_are : m' +ℤ p' ≡ high_part a b c e
  parts_are = cc (both-parts (a +ℤ b) (c +ℤ e) (shr_z a 16 +ℤ shr_z b 16) (shr_z c 16 +ℤ shr_z e 16))

  module _ (x x' f f' r r' : ℤ) (ex : x' ≡ x) (ef : f' ≡ f) (er : r' ≡ r) where
    pub less-parts : f ≡ wrap32 (x' -ℤ m') → r ≡ wrap32 (f' -ℤ p') → r' ≡ wrap32 (x -ℤ high_part a b c e)
    less-parts if ir = cc (less-twice x m' p', parts_are)

    pub more_parts : f ≡ wrap32 (x' +ℤ m') → r ≡ wrap32 (f' +ℤ p') → r' ≡ wrap32 (x +ℤ high_part a b c e)
    more_parts if ir = cc (more-twice x m' p', parts_are)

-- ---- the quarter of a low step
pub sum_more : (a b : ℤ) → SFits w32 a → SFits w32 b → SFits w64 (a +ℤ b +ℤ pos 1)
sum_more = each _ λ p q. each _ λ r s. simp lin (omega arith)

pub upper-half : (a b : ℤ) → SFits w32 a → SFits w32 b → SFits w32 (shr_z (a +ℤ b +ℤ pos 1) 2)
upper-half = each _ λ p q. each _ λ r s. simp lin (omega arith)

pub quarter : (a b : ℤ) → shr_z (shr_z (a +ℤ b +ℤ pos 1) 2) 2 ≡ shr_z (a +ℤ b +ℤ pos 1) 4
quarter = each _ λ p q. each _ λ r s. simp lin (omega arith)
