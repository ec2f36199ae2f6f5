-- The test of 14 as a test of two bounds. Assumes nothing.
use mathlib.Core.Path.{◌≡◌, refl, ap, ◌∙◌}
use mathlib.Core.List.{List}
use Prim.Native.Nat.{ℕ, zero, suc, ◌+◌, ◌-◌, min, ◌≤◌}
use native.Mathlib.Decide.{dec_lt}
use native.Mathlib.Nat.{pow-zero, mul-one}
use native.Mathlib.Omega.{arith}
use lib.IntN.{ℤ, pos, nat_abs, ◌-ℤ◌}
use lib.ListN.{length}
use lib.Dec.{leb}
use mir.Syntax.{w32}
use mir.Val.{SFits}
use borrow.Author.Tests.{le-leb, lt-leb}
use borrow.Rule.Slice.PartMut.{mid_of}
use Rattle.numbers.specs.Signal.{at, both}
use Rattle.numbers.proofs.Integers.{each, lin, dif, dif_pos, dif-nat_abs, dif-le_z}
use Rattle.numbers.proofs.Parts.{length-mid, at_mid, window-in}
use Rattle.lifting.specs.Filter.{Filter}
use Rattle.wavelet.specs.Limits.{max_sample, range}
use Rattle.numbers.specs.Tests.{every}
use Rattle.wavelet.specs.Maps.{value_fits}
use Rattle.level.specs.Rebuilding.{lowest_by}
use Rattle.areas.specs.Areas.{between}
use Rattle.level.specs.Stretch.{row_place, row_fits}
use Rattle.numbers.proofs.TestLaws.{every-same}

-- one test that is two
leb-both : (a r b c d e : ℕ) → (b ≤ c → d ≤ e → a ≤ r) → (a ≤ r → (b ≤ c) × (d ≤ e)) → leb a r ≡ both (leb b c) (leb d e)
leb-both a r b c d e back forth =
    elim (dec_lt r a) [
      | yes p ↦ elim (dec_lt c b) [
        | yes q ↦ simp (lt-leb a r p, lt-leb b c q)
        | no q ↦ elim (dec_lt e d) [
          | yes s ↦ simp (lt-leb a r p, le-leb b c (omega arith), lt-leb d e s)
          | no s ↦ let z = back (omega arith) (omega arith) in absurd (omega arith)
        ]
      ]
      | no p ↦ let f = forth (omega arith) in simp (le-leb a r (omega arith), le-leb b c f.0, le-leb d e f.1)
    ]

least-is : (R : ℕ) → pos 0 -ℤ pos R ≡ dif 0 R
least-is R = ap (λ (z : ℤ). pos 0 -ℤ z) (dif_pos R) ∙ simp lin (omega arith)

most-is : (R : ℕ) → pos R ≡ dif R 0
most-is R = dif_pos R

pub abs-between : (R : ℕ) (v : ℤ) → leb (nat_abs v) R ≡ between (pos 0 -ℤ pos R) (pos R) v
unfolding between
abs-between R =
    each _ λ p q.
    cc (
      dif-nat_abs p q,
      least-is R,
      most-is R,
      dif-le_z 0 R p q,
      dif-le_z p q R 0,
      leb-both ((p - q) + (q - p)) R (0 + q) (p + R) (p + 0) (R + q) (λ g h. omega arith) (λ g. (omega arith, omega arith)),
    )

-- ---- the bounds of 14
pub low-zero : (F : Filter) (k : ℕ) → k ≡ 0 → pos 0 ≡ lowest_by F k
unfolding lowest_by
low-zero F k e = rw e

pub low-more : (F : Filter) (k : ℕ) → (k ≡ 0 → ⊥) → pos 0 -ℤ pos (range F k) ≡ lowest_by F k
unfolding lowest_by
low-more F zero h = absurd (h refl)
low-more F (suc k) h = refl

pub neg-fits : (z : ℤ) (n : ℕ) → z ≡ pos n → SFits w32 z → SFits w32 (pos 0 -ℤ z)
neg-fits z n e h = let g : SFits w32 (pos n) = rw (← e) h in rw (e, least-is n) (go n g)
  where
    go : (n : ℕ) → SFits w32 (pos n) → SFits w32 (dif 0 n)
    go n = simp lin (omega arith)

range-zero : (F : Filter) → range F 0 ≡ max_sample
unfolding range
range-zero F = simp (pow-zero, mul-one)

pub value-between : (F : Filter) (k : ℕ) (v : ℤ) → value_fits F k v ≡ between (lowest_by F k) (pos (range F k)) v
unfolding value_fits
value-between F zero v = let e = range-zero F in rw e (unfold lowest_by between in refl)
value-between F (suc k) v = abs-between (range F (suc k)) v ∙ unfold lowest_by in refl

pub same-range : (F : Filter) (m k : ℕ) → k ≤ m → pos (range F (min k m)) ≡ pos (range F k)
same-range F m k h = let e : min k m ≡ k = omega arith in ap (λ (i : ℕ). pos (range F i)) e

-- ---- a row's test, made on the part that is lent
module _ (m : ℕ) (F : Filter) where
  pub admit-is : (k w r a n : ℕ) (l : List ℤ) (low high : ℤ) → a ≡ row_place m w r → n ≡ w → a + n ≤ length l → low ≡ lowest_by F k → high ≡ pos (range F k) →
      every (length (mid_of a n l)) (λ i. between low high (at (mid_of a n l) i)) ≡ row_fits m (value_fits F) k w r (at l)
  unfolding row_fits
  admit-is k w r a n l low high ea en room el eh =
      ap (λ (n' : ℕ). every n' (λ i. between low high (at (mid_of a n l) i))) (length-mid a n l room ∙ en)
      ∙ every-same w _ _ (λ i h.
      let place : a + i ≡ row_place m w r + i = omega arith in
      let seen : at (mid_of a n l) i ≡ at l (row_place m w r + i) =
      ap (λ (f : ℕ → ℤ). f i) (at_mid a n l) ∙ window-in a n (at l) i (omega arith) ∙ ap (at l) place in
      cc (seen, el, eh, value-between F k (at l (row_place m w r + i))))
