-- The steps back with 32-bit sums are T.800's where the numbers are small, and those of a plane in range are. Assumes nothing.
use mathlib.Core.Path.{◌≡◌, sym, ap, ◌∙◌}
use Prim.Native.Nat.{ℕ, ◌+◌, ◌-◌, ◌*◌, ◌%◌, ◌^◌, ◌≤◌, ◌<◌}
use native.Mathlib.Decide.{dec_lt}
use borrow.Author.Tests.{lt-ltb, le-ltb}
use native.Mathlib.Omega.{arith}
use lib.IntN.{ℤ, pos, nat_abs, ◌+ℤ◌, ◌-ℤ◌}
use lib.Signed.{shr_z}
use Rattle.numbers.specs.Word.{wrap32}
use Rattle.numbers.proofs.Integers.{each, lin, dif-nat_abs}
use Rattle.lifting.specs.Line.{lo, unpredicted, unupdated}
use Rattle.lifting.specs.Grid.{Side, count}
use Rattle.lifting.specs.GridHalves.{unlifted_in_place}
use Rattle.lifting.specs.Passes.{near, highs_changed, lows_changed}
use Rattle.lifting.proofs.GridLaws.{some}
use Rattle.lifting.proofs.PassLaws.{highs-low, highs-high, lows-low, lows-past, unlifted-is}
use Rattle.map_levels.specs.SweepBack.{short_unupdated, short_unpredicted, short_unlifted}
use Rattle.map_levels.proofs.ShortSums.{sum_kept, two-kept, half-within, less-small}

pub short-unpredicted : (x a b : ℤ) → nat_abs a ≤ 2 ^ 29 → nat_abs b ≤ 2 ^ 29 → short_unpredicted x a b ≡ unpredicted wrap32 x a b
unfolding short_unpredicted unpredicted
short-unpredicted x a b f g = ap (λ (s : ℤ). wrap32 (x +ℤ shr_z s 2)) (sum_kept a b f g)

pub short-unupdated : (x a b : ℤ) → nat_abs a ≤ 2 ^ 29 → nat_abs b ≤ 2 ^ 29 → short_unupdated x a b ≡ unupdated wrap32 x a b
unfolding short_unupdated unupdated
short-unupdated x a b f g =
    ap (λ (s : ℤ). wrap32 (x -ℤ shr_z (wrap32 (s +ℤ pos 2)) 4)) (sum_kept a b f g) ∙ ap (λ (s : ℤ). wrap32 (x -ℤ shr_z s 4)) (two-kept a b f g)

-- how far numbers within M grow by each
quarter-small : (M : ℕ) (a b : ℤ) → nat_abs a ≤ M → nat_abs b ≤ M → nat_abs (shr_z (a +ℤ b +ℤ pos 2) 4) ≤ M
quarter-small M = each _ λ p q. each _ λ r s. simp (lin, dif-nat_abs) (omega arith)

sum-within : (M : ℕ) (a b : ℤ) → nat_abs a ≤ M → nat_abs b ≤ M → nat_abs (a +ℤ b) ≤ 2 * M
sum-within M = each _ λ p q. each _ λ r s. simp (lin, dif-nat_abs) (omega arith)

more-small : (M : ℕ) (x h : ℤ) → M ≤ 2 ^ 28 → nat_abs x ≤ M → nat_abs h ≤ M → nat_abs (wrap32 (x +ℤ h)) ≤ 2 * M
more-small M x h most f g = rw (sum_kept x h (omega arith) (omega arith)) (sum-within M x h f g)

pub unupdated-small : (M : ℕ) (x a b : ℤ) → M ≤ 2 ^ 28 → nat_abs x ≤ M → nat_abs a ≤ M → nat_abs b ≤ M → nat_abs (unupdated wrap32 x a b) ≤ 2 * M
unfolding unupdated
unupdated-small M x a b most f g h = less-small M x (shr_z (a +ℤ b +ℤ pos 2) 4) most f (quarter-small M a b g h)

pub unpredicted-small : (M : ℕ) (x a b : ℤ) → M ≤ 2 ^ 28 → nat_abs x ≤ M → nat_abs a ≤ M → nat_abs b ≤ M → nat_abs (unpredicted wrap32 x a b) ≤ 2 * M
unfolding unpredicted
unpredicted-small M x a b most f g h = more-small M x (shr_z (a +ℤ b) 2) most f (half-within M a b g h)

-- ---- a line lifted back by them
module _ (S : Side) (y : ℕ → ℤ) (more : 1 < S.length) (small : (j : ℕ) → j < S.length → nat_abs (y j) ≤ 2 ^ 26) where
  abbrev low : ℕ
  low = count lo S

  abbrev N : ℕ
  N = S.length

  abbrev o : ℕ
  o = S.start % 2

  abbrev shorts : ℕ → ℤ
  shorts = lows_changed short_unupdated o low N y

  abbrev lows : ℕ → ℤ
  lows = lows_changed (unupdated wrap32) o low N y

  low_same : (j : ℕ) → j < low → shorts j ≡ lows j
  low_same j b =
      let s = some S more in
      let k = low + near (N - low) (j + o - 1) in
      let m = low + near (N - low) (j + o) in
      lows-low short_unupdated o low N y j b
      ∙ short-unupdated _ _ _ (omega (arith, small k (omega arith))) (omega (arith, small m (omega arith)))
      ∙ sym (lows-low (unupdated wrap32) o low N y j b)

  low_small : (j : ℕ) → j < low → nat_abs (lows j) ≤ 2 * 2 ^ 26
  low_small j b =
      let s = some S more in
      rw (lows-low (unupdated wrap32) o low N y j b)
      (unupdated-small (2 ^ 26) _ _ _ (omega arith) (small j (omega arith)) (small (low + near (N - low) (j + o - 1)) (omega arith))
      (small (low + near (N - low) (j + o)) (omega arith)))

  high_same : (n : ℕ) → low + n < N →
      highs_changed short_unpredicted (1 - o) low N shorts (low + n) ≡ highs_changed (unpredicted wrap32) (1 - o) low N lows (low + n)
  high_same n b =
      let s = some S more in
      let k = near low (n + (1 - o) - 1) in
      let m = near low (n + (1 - o)) in
      let kb : k < low = omega arith in
      let mb : m < low = omega arith in
      let h : shorts (low + n) ≡ lows (low + n) =
      lows-past short_unupdated o low N y (low + n) (omega arith) ∙ sym (lows-past (unupdated wrap32) o low N y (low + n) (omega arith)) in
      highs-high short_unpredicted (1 - o) low N shorts n b
      ∙ cc (h, low_same k kb, low_same m mb)
      ∙ short-unpredicted (lows (low + n)) (lows k) (lows m) (omega (arith, low_small k kb)) (omega (arith, low_small m mb))
      ∙ sym (highs-high (unpredicted wrap32) (1 - o) low N lows n b)

  high_small : (n : ℕ) → low + n < N → nat_abs (highs_changed (unpredicted wrap32) (1 - o) low N lows (low + n)) ≤ 2 ^ 28
  high_small n b =
      let s = some S more in
      let k = near low (n + (1 - o) - 1) in
      let m = near low (n + (1 - o)) in
      let kb : k < low = omega arith in
      let mb : m < low = omega arith in
      rw (highs-high (unpredicted wrap32) (1 - o) low N lows n b, lows-past (unupdated wrap32) o low N y (low + n) (omega arith))
      (omega (
        arith,
        unpredicted-small (2 * 2 ^ 26) (y (low + n)) (lows k) (lows m) (omega arith) (omega (arith, small (low + n) b)) (low_small k kb)
            (low_small m mb),
      ))

  both-same : (j : ℕ) → j < N →
      (highs_changed short_unpredicted (1 - o) low N shorts j ≡ highs_changed (unpredicted wrap32) (1 - o) low N lows j)
      × (nat_abs (highs_changed (unpredicted wrap32) (1 - o) low N lows j) ≤ 2 ^ 28)
  both-same j b =
      elim (dec_lt j low) [
        | yes l ↦ (
          highs-low short_unpredicted (1 - o) low N shorts j l ∙ low_same j l ∙ sym (highs-low (unpredicted wrap32) (1 - o) low N lows j l),
          rw (highs-low (unpredicted wrap32) (1 - o) low N lows j l) (omega (arith, low_small j l)),
        )
        | no l ↦
            let e : low + (j - low) ≡ j = omega arith in
            (rw e at (high_same (j - low) (omega arith)), rw e at (high_small (j - low) (omega arith)))
      ]

-- a small line in halves is lifted back as the standard says, and what it gives is small enough for the columns
pub short-unlifted : (S : Side) (y : ℕ → ℤ) → ((j : ℕ) → j < S.length → nat_abs (y j) ≤ 2 ^ 26) → (j : ℕ) → j < S.length →
    short_unlifted S y j ≡ unlifted_in_place S y j
unfolding short_unlifted
short-unlifted S y small j b =
    elim (dec_lt 1 S.length) [
      | yes more ↦ simp (lt-ltb 1 S.length more)
          ((both-same S y more small j b).0 ∙ sym (ap (λ (f : ℕ → ℤ). f j) (unlifted-is S y more)))
      | no d ↦ simp (le-ltb 1 S.length (omega arith))
    ]

-- and what it gives is small enough for the columns
pub unlifted-small : (S : Side) (y : ℕ → ℤ) → 1 < S.length → ((j : ℕ) → j < S.length → nat_abs (y j) ≤ 2 ^ 26) → (j : ℕ) → j < S.length →
    nat_abs (unlifted_in_place S y j) ≤ 2 ^ 28
unlifted-small S y more small j b = rw (unlifted-is S y more) (both-same S y more small j b).1
