-- The lifting of a line that starts at coordinate 0 with the mirror worked out: what is mirrored is the nearest that is there. Assumes nothing.
use mathlib.Core.Path.{◌≡◌, refl, ap, ◌∙◌}
use Prim.Native.Nat.{ℕ, ◌+◌, ◌-◌, ◌*◌, ◌/◌, ◌%◌, ◌<◌}
use native.Mathlib.Omega.{arith}
use lib.IntN.{ℤ, pos, nat_abs, ◌-ℤ◌}
use borrow.Author.Tests.{lt-ltb}
use Rattle.numbers.proofs.Integers.{dif, dif-nat_abs}
use Rattle.lifting.specs.Line.{predicted, updated, unpredicted, unupdated, mirror, high, high_at, low, back_even, back_odd, Half, lo, hi, count, joined}
use Rattle.lifting.specs.Passes.{near}
use Rattle.lifting.proofs.Filter.{place}

previous : (k : ℕ) → nat_abs (pos k -ℤ pos 1) ≡ (k - 1) + (1 - k)
unfolding dif
previous k = dif-nat_abs k 1

pub mirror-next : (N n : ℕ) → n < count hi N → mirror N (pos (2 * n + 2)) ≡ 2 * near (count lo N) (n + 1)
unfolding mirror count
mirror-next N n b = omega arith

pub mirror-before : (N n : ℕ) → 1 < N → n < count lo N → mirror N (pos (2 * n) -ℤ pos 1) / 2 ≡ n - 1
unfolding mirror count
mirror-before N n l b = let e = previous (2 * n) in omega arith

pub mirror-after : (N n : ℕ) → 1 < N → n < count lo N → mirror N (pos (2 * n + 1)) / 2 ≡ near (count hi N) n
unfolding mirror count
mirror-after N n l b = omega arith

module _ (keep : ℤ → ℤ) (N : ℕ) where
  pub high-near : (x : ℕ → ℤ) (n : ℕ) → n < count hi N → high keep N x n ≡ predicted keep (x (2 * n + 1)) (x (2 * n)) (x (2 * near (count lo N) (n + 1)))
  unfolding high
  high-near x n b = rw (mirror-next N n b) refl

  pub low_near : (x : ℕ → ℤ) (n : ℕ) → 1 < N → n < count lo N
      → low keep N x n ≡ updated keep (x (2 * n)) (high keep N x (n - 1)) (high keep N x (near (count hi N) n))
  unfolding low high_at
  low_near x n l b = simp (lt-ltb 1 N l, mirror-before N n l b, mirror-after N n l b)

  pub even-near : (s d : ℕ → ℤ) (n : ℕ) → 1 < N → n < count lo N → back_even keep N s d n ≡ unupdated keep (s n) (d (n - 1)) (d (near (count hi N) n))
  unfolding back_even high_at
  even-near s d n l b = simp (lt-ltb 1 N l, mirror-before N n l b, mirror-after N n l b)

  pub odd-near : (s d : ℕ → ℤ) (n : ℕ) → n < count hi N
      → back_odd keep N s d n ≡ unpredicted keep (d n) (back_even keep N s d n) (back_even keep N s d (near (count lo N) (n + 1)))
  unfolding back_odd
  odd-near s d n b =
      ap (λ (i : ℕ). unpredicted keep (d n) (back_even keep N s d n) (back_even keep N s d i))
      (ap (λ (i : ℕ). i / 2) (mirror-next N n b) ∙ omega arith)

pub joined-place : (p : Half → ℕ → ℤ) (h : Half) (n : ℕ) → joined p (place lo h n) ≡ p h n
unfolding joined
joined-place p lo n =
    let e : (2 * n) % 2 ≡ 0 = omega arith in
    let f : 2 * n / 2 ≡ n = omega arith in
    simp (e, f)
joined-place p hi n =
    let e : (2 * n + 1) % 2 ≡ 1 = omega arith in
    let f : (2 * n + 1) / 2 ≡ n = omega arith in
    simp (e, f)
