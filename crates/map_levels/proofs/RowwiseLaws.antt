-- The laws of what is done to one row: what each pass leaves at a place, a turn of its loop, and what two passes come to together. Assumes nothing.
use mathlib.Core.Path.{◌≡◌, refl, sym, ap, ◌∙◌, fun_ext}
use mathlib.Core.List.{List}
use mathlib.Core.Bool.{Bool, true, false, ◌&&◌}
use Prim.Native.Nat.{ℕ, suc, ◌+◌, ◌-◌, ◌≤◌, ◌<◌}
use native.Mathlib.Decide.{dec_lt}
use native.Mathlib.Omega.{arith}
use lib.IntN.{ℤ, pos}
use lib.ListN.{length}
use borrow.Author.Tests.{lt-ltb, le-ltb, le-leb}
use lib.Dec.{leb}
use Rattle.areas.proofs.AreaLaws.{front_at, did}
use Rattle.numbers.specs.Signal.{at, pick, windowed, both}
use borrow.Rule.Slice.PartMut.{mid_of}
use Rattle.numbers.proofs.Parts.{window-in, window-past, length-mid, at_mid}
use Rattle.lifting.specs.Line.{Half, lo, hi}
use Rattle.lifting.specs.Halves.{fronted}
use Rattle.lifting.specs.Grid.{Side, side, place, count, deinterleaved, joined}
use Rattle.lifting.specs.GridHalves.{halves_of, in_halves}
use Rattle.lifting.proofs.GridLaws.{counts, place-in, joined-reads, halves-low, halves-high, halves-past, halves_are, front-in, front-past}
use Rattle.wavelet.specs.Maps.{every}
use Rattle.map_levels.specs.Rowwise.{cut, interleaved_in_place, between}

-- ---- a part of n numbers as a signal
pub cut_in : (n : ℕ) (x : ℕ → ℤ) (j : ℕ) → j < n → cut n x j ≡ x j
unfolding cut
cut_in n x j h = simp (lt-ltb j n h)

pub cut-past : (n : ℕ) (x : ℕ → ℤ) (j : ℕ) → n ≤ j → cut n x j ≡ pos 0
unfolding cut
cut-past n x j h = simp (le-ltb j n h)

pub window-cut : (a n : ℕ) (y x : ℕ → ℤ) → ((c : ℕ) → c < n → y (a + c) ≡ x c) → windowed a n y ≡ cut n x
window-cut a n y x same =
    fun_ext λ j.
    elim (dec_lt j n) [
      | yes p ↦ window-in a n y j p ∙ same j p ∙ sym (cut_in n x j p)
      | no d ↦ window-past a n y j (omega arith) ∙ sym (cut-past n x j (omega arith))
    ]

-- ---- a row deinterleaved or interleaved through another area: its first n numbers x stand at the front of l, and the part of k = n of them is lent
pub lent-front : (n k : ℕ) (x z : ℕ → ℤ) (l : List ℤ) → k ≡ n → n ≤ length l → at l ≡ fronted n x z → at (mid_of 0 k l) ≡ cut n x
lent-front n k x z l e h is =
    at_mid 0 k l
    ∙ rw e
    (window-cut 0 n (at l) x (λ c q. let j : 0 + c ≡ c = omega arith in rw j (ap (λ (f : ℕ → ℤ). f c) is ∙ front_at n x z c q)))

-- a line's halves are within its length
pub halves-cut : (S : Side) (y : ℕ → ℤ) (a : Half) (n : ℕ) → n < count a S → halves_of S (cut S.length y) a n ≡ halves_of S y a n
unfolding halves_of
halves-cut S y lo n b = let both = counts S in cut_in S.length y n (omega arith)
halves-cut S y hi n b = let both = counts S in cut_in S.length y (count lo S + n) (omega arith)

pub cut-deinterleaved : (S : Side) (x z : ℕ → ℤ) → in_halves S (deinterleaved S (cut S.length x)) z ≡ in_halves S (deinterleaved S x) z
unfolding deinterleaved
cut-deinterleaved S x z =
    let sum = counts S in
    halves_are S (deinterleaved S (cut S.length x)) z _
    (λ m h. cut_in S.length x (place S lo m) (place-in S lo m h) ∙ sym (halves-low S (deinterleaved S x) z m h))
    (λ m h.
    let k : count lo S + m - count lo S ≡ m = omega arith in
    cut_in S.length x (place S hi m) (place-in S hi m h) ∙ sym (halves-high S (deinterleaved S x) z (count lo S + m) (omega arith) (omega arith) ∙
    ap (deinterleaved S x hi) k))
    (λ j h. sym (halves-past S (deinterleaved S x) z j h))

pub cut-interleaved : (S : Side) (x z : ℕ → ℤ)
    → fronted S.length (joined S (halves_of S (cut S.length x))) z ≡ fronted S.length (joined S (halves_of S x)) z
cut-interleaved S x z =
    fun_ext λ j.
    elim (dec_lt j S.length) [
      | yes b ↦ front-in S.length _ z j b ∙ joined-reads S _ _ (halves-cut S x) j b ∙ sym (front-in S.length _ z j b)
      | no b ↦ front-past S.length _ z j (omega arith) ∙ sym (front-past S.length _ z j (omega arith))
    ]

module _ (S : Side) (k : ℕ) (y x z : ℕ → ℤ) (l : List ℤ) (e : k ≡ S.length) (h : S.length ≤ length l) (is : at l ≡ fronted S.length x z) where
  pub interleave-through : (m : ℕ) → m ≡ S.length → y ≡ pick (leb (length (mid_of 0 k l)) m)
      (fronted (length (mid_of 0 k l)) (joined (side S.start (length (mid_of 0 k l))) (halves_of (side S.start (length (mid_of 0 k l))) (at (mid_of 0 k l))))
      x) x → y ≡ interleaved_in_place S x
  unfolding interleaved_in_place
  interleave-through m em made =
      let n = S.length in
      let mid = length-mid 0 k l (omega arith) in
      let is' : y ≡ fronted n (joined S (halves_of S (at (mid_of 0 k l)))) x =
      rw (mid ∙ e) at (did _ _ _ _ (le-leb (length (mid_of 0 k l)) m (omega arith)) made) in
      is' ∙ ap (λ (u : ℕ → ℤ). fronted n (joined S (halves_of S u)) x) (lent-front n k x z l e h is) ∙ cut-interleaved S x x

-- ---- a test of every number, gathered row by row: t is the test of row i
pub and_both : (a b : Bool) → a && b ≡ both a b
and_both true b = refl
and_both false b = refl

pub gather-turn : (ok t : Bool) (i : ℕ) (p : ℕ → Bool) → ok ≡ every i p → t ≡ p i → ok && t ≡ every (i + 1) p
unfolding every
gather-turn ok t i p is it = let e : i + 1 ≡ suc i = omega arith in rw e (and_both ok t ∙ cc (is, it))

-- the bounds read back
pub between-read : (n : ℕ) (x : ℕ → ℤ) {low low' high high' : ℤ} → low ≡ low' → high ≡ high' →
    every n (λ j. between low high (x j)) ≡ every n (λ j. between low' high' (x j))
between-read n x e f = λ i. every n (λ j. between (e i) (f i) (x j))
