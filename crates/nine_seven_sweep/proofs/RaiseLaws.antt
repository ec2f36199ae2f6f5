-- The columns forward: a turn predicts high row n, and updates the low row that it has been the last to go by. Assumes nothing.
use mathlib.Core.Path.{◌≡◌, refl, sym, ap, ◌∙◌}
use mathlib.Core.Logic.{◌≢◌}
use Prim.Native.Nat.{ℕ, ◌+◌, ◌-◌, ◌*◌, ◌%◌, ◌≤◌, ◌<◌}
use native.Mathlib.Decide.{dec_lt, ℕ_discrete}
use native.Mathlib.Omega.{arith}
use lib.IntN.{ℤ}
use borrow.Author.Tests.{lt-ltb, le-ltb, le-leb, lt-leb}
use Rattle.numbers.specs.Word.{wrap32}
use Rattle.lifting.specs.Line.{Half, lo, hi}
use Rattle.lifting.specs.Grid.{Side, count, joined}
use Rattle.lifting.specs.GridHalves.{halves_of}
use Rattle.lifting.proofs.GridLaws.{ahead, joined-place, halves-low, halves-high}
use Rattle.lifting.proofs.Neighbours.{left, right, left-in, right-in}
use Rattle.nine_seven.specs.NineSeven.{predicted, updated, line_forward}
use Rattle.nine_seven.specs.Memory.{lifted_in_place}
use Rattle.nine_seven.proofs.MirrorLaws.{far_before, far_after, far-more, far-last, far-less, far-before-in, far-after-in}
use Rattle.nine_seven.proofs.NineSevenLaws.{high-near, low_near}
use Rattle.nine_seven_sweep.specs.Columns.{column, columns_lifted}
use Rattle.nine_seven_sweep.specs.Passes.{Rows, in_half, high_changed, low_changed, high_turn, low_turn}
use Rattle.nine_seven_sweep.proofs.Fronts.{Apart, Fronts, begin, by_two, by-four, low-done, high-done, high-none, end}

apart : (H : Side) → Apart H (in_half H)
unfolding in_half count
apart H =
    record {
      inside = in';
      one = one';
      two = λ n m i j. omega arith;
    }
  where
    in' : (k : Half) (n : ℕ) → n < count k H → in_half H k n < H.length
    in' lo n b = omega arith
    in' hi n b = omega arith

    one' : (k : Half) (n m : ℕ) → n ≢ m → in_half H k n ≢ in_half H k m
    one' lo n m d = d
    one' hi n m d = omega arith

-- the low rows that high row n goes by are those from n − 1 − b on, b being the parity of the first row
module _ (H : Side) (n : ℕ) (more : 1 < H.length) (g : n < count hi H) where
  left-from : n - (1 + H.start % 2) ≤ left lo H n
  unfolding count
  left-from = omega arith

  right-from : n - (1 + H.start % 2) ≤ right lo H n
  unfolding count
  right-from = omega arith

  before-from : n - (1 + H.start % 2) ≤ far_before H n
  unfolding count
  before-from =
      elim (ℕ_discrete n 0) [
        | yes e ↦ omega arith
        | no d ↦ let f = far-more (count lo H) 0 (ahead H lo) n (omega arith) in omega arith
      ]

  after-from : n - (1 + H.start % 2) ≤ far_after H n
  unfolding count
  after-from =
      elim (ℕ_discrete (n + 1) (count hi H)) [
        | yes e ↦ let f = far-last (count lo H) (count hi H) (ahead H lo) n e in omega arith
        | no d ↦ let f = far-less (count lo H) (count hi H) (ahead H lo) n (omega arith) in omega arith
      ]

-- the high rows that low row m goes by are those below n, where m is n − 1 − b
module _ (H : Side) (m : ℕ) where
  left_below : left hi H m < m + (1 + H.start % 2)
  left_below = omega arith

  right-below : right hi H m < m + (1 + H.start % 2)
  right-below = omega arith

-- before turn n
abbrev forward : ℕ → Side → (ℕ → ℤ) → Half → ℕ → ℕ → ℤ
forward s H x₀ k n c = line_forward wrap32 H (joined H (halves_of H (column s x₀ c))) k n

abbrev pub Raised : ℕ → ℕ → Side → (ℕ → ℤ) → ℕ → (ℕ → ℤ) → Type 0
Raised s w H x₀ n x = Fronts s w H (in_half H) (forward s H x₀) x₀ (n - (1 + H.start % 2)) n x

pub raise-start : (s w : ℕ) (H : Side) (x₀ : ℕ → ℤ) → Raised s w H x₀ 0 x₀
raise-start s w H x₀ = let z : 0 - (1 + H.start % 2) ≡ 0 = omega arith in rw z (begin s w H (in_half H) (forward s H x₀) x₀)

module _ (N s w : ℕ) (H : Side) (x₀ : ℕ → ℤ) (R : Rows N s w H.length) (more : 1 < H.length) where
  abbrev halves : ℕ → Half → ℕ → ℤ
  halves c = halves_of H (column s x₀ c)

  abbrev made : Half → ℕ → ℕ → ℤ
  made = forward s H x₀

  abbrev P : Half → ℕ → ℕ
  P = in_half H

  stands : (k : Half) (n c : ℕ) → x₀ (in_half H k n * s + c) ≡ halves c k n
  unfolding in_half halves_of column
  stands lo n c = refl
  stands hi n c = refl

  high_is : (n c : ℕ) → n < count hi H → made hi n c ≡
      predicted wrap32 (x₀ (P hi n * s + c)) (x₀ (P lo (left lo H n) * s + c)) (x₀ (P lo (right lo H n) * s + c))
      (x₀ (P lo (far_before H n) * s + c)) (x₀ (P lo (far_after H n) * s + c))
  high_is n c b =
      let p = halves c in
      cc (
        high-near H more wrap32 (joined H p) n b,
        joined-place H p hi n,
        joined-place H p lo (left lo H n),
        joined-place H p lo (right lo H n),
        joined-place H p lo (far_before H n),
        joined-place H p lo (far_after H n),
        stands hi n c,
        stands lo (left lo H n) c,
        stands lo (right lo H n) c,
        stands lo (far_before H n) c,
        stands lo (far_after H n) c,
      )

  low-is : (n c : ℕ) → n < count lo H → made lo n c ≡ updated wrap32 (x₀ (P lo n * s + c)) (made hi (left hi H n) c) (made hi (right hi H n) c)
  low-is n c b =
      let p = halves c in
      low_near H more wrap32 (joined H p) n b
      ∙ ap (λ (v : ℤ). updated wrap32 v (made hi (left hi H n) c) (made hi (right hi H n) c)) (joined-place H p lo n ∙ sym (stands lo n c))

  -- high row n, where there is one
  raise-high : (n : ℕ) (x x' : ℕ → ℤ) → x' ≡ high_turn (predicted wrap32) (in_half H) N s w H n 0 x → Raised s w H x₀ n x →
      Fronts s w H (in_half H) made x₀ (n - (1 + H.start % 2)) (n + 1) x'
  raise-high n x x' is F =
      let z : n - 0 ≡ n = omega arith in
      elim (dec_lt n (count hi H)) [
        | no d ↦
            let e : x' ≡ x = is ∙ simp (le-leb 0 n (omega arith), z, le-ltb n (count hi H) (omega arith)) in
            rw e (high-none s w H (in_half H) made x₀ (n - (1 + H.start % 2)) n x (omega arith) F)
        | yes b ↦
            let A = apart H in
            let e : x' ≡ high_changed (predicted wrap32) (in_half H) N s w H n x = is ∙ simp (le-leb 0 n (omega arith), z, lt-ltb n (count hi H) b) in
            let l = (left-in lo H n more b).0 in
            let r = (right-in lo H n more b).0 in
            let f = (far-before-in H n more b).0 in
            let a = (far-after-in H n more b).0 in
            let S = by-four N s w H.length R x x' (predicted wrap32) (P hi n) (P lo (left lo H n)) (P lo (right lo H n)) (P lo (far_before H n))
            (P lo (far_after H n)) (A.inside hi n b) (A.inside lo (left lo H n) l) (A.inside lo (right lo H n) r) (A.inside lo (far_before H n) f)
            (A.inside lo (far_after H n) a) e in
            high-done s w H (in_half H) made x₀ A R.wide x x' (n - (1 + H.start % 2)) n F _ b S
            (λ c cw. cc (
              high_is n c b,
              F.rest_highs n c cw (omega arith) b,
              F.rest_lows (left lo H n) c cw (left-from H n more b) l,
              F.rest_lows (right lo H n) c cw (right-from H n more b) r,
              F.rest_lows (far_before H n) c cw (before-from H n more b) f,
              F.rest_lows (far_after H n) c cw (after-from H n more b) a,
            ))
      ]

  -- and the low row behind it
  raise-low : (n : ℕ) (x x' : ℕ → ℤ) → n ≤ count lo H + H.start % 2 →
      x' ≡ low_turn (updated wrap32) (in_half H) N s w H n (1 + H.start % 2) x →
      Fronts s w H (in_half H) made x₀ (n - (1 + H.start % 2)) (n + 1) x → Raised s w H x₀ (n + 1) x'
  raise-low n x x' nl is F =
      elim (dec_lt n (1 + H.start % 2)) [
        | yes b ↦
            let e : x' ≡ x = is ∙ simp (lt-leb (1 + H.start % 2) n b) in
            let z : n + 1 - (1 + H.start % 2) ≡ n - (1 + H.start % 2) = omega arith in
            rw (e, z) F
        | no d ↦
            let A = apart H in
            let m = n - (1 + H.start % 2) in
            let ml : m < count lo H = omega arith in
            let z : n + 1 - (1 + H.start % 2) ≡ m + 1 = omega arith in
            let e : x' ≡ low_changed (updated wrap32) (in_half H) N s w H m x =
            is ∙ simp (le-leb (1 + H.start % 2) n (omega arith), lt-ltb m (count lo H) ml) in
            let l = (left-in hi H m more ml).0 in
            let r = (right-in hi H m more ml).0 in
            let lb = left_below H m in
            let rb = right-below H m in
            let S = by_two N s w H.length R x x' (updated wrap32) (P lo m) (P hi (left hi H m)) (P hi (right hi H m)) (A.inside lo m ml)
            (A.inside hi (left hi H m) l) (A.inside hi (right hi H m) r) e in
            rw z
            (low-done s w H (in_half H) made x₀ A R.wide x x' m (n + 1) F _ ml S
            (λ c cw. cc (
              low-is m c ml,
              F.rest_lows m c cw (omega arith) ml,
              F.highs (left hi H m) c cw (omega arith) l,
              F.highs (right hi H m) c cw (omega arith) r,
            )))
      ]

  pub raise-turn : (n : ℕ) (x x₁ x₂ : ℕ → ℤ) → n ≤ count lo H + H.start % 2 → x₁ ≡ high_turn (predicted wrap32) (in_half H) N s w H n 0 x →
      x₂ ≡ low_turn (updated wrap32) (in_half H) N s w H n (1 + H.start % 2) x₁ → Raised s w H x₀ n x → Raised s w H x₀ (n + 1) x₂
  raise-turn n x x₁ x₂ nl e₁ e₂ F = raise-low n x₁ x₂ nl e₂ (raise-high n x x₁ e₁ F)

  pub raise-end : (n : ℕ) (x : ℕ → ℤ) → count lo H + 1 + H.start % 2 ≤ n → Raised s w H x₀ n x → x ≡ columns_lifted s w H x₀
  unfolding columns_lifted lifted_in_place in_half count
  raise-end n x b F =
      end s w H (in_half H) made x₀ (n - (1 + H.start % 2)) n x (lifted_in_place H) (omega (arith, R.some, R.wide)) (omega arith) (omega arith) F
      (λ q c qh cw lows highs.
      let line = line_forward wrap32 H (joined H (halves c)) in
      elim (dec_lt q (count lo H)) [
        | yes l ↦ lows q l ∙ sym (halves-low H line (column s x₀ c) q l)
        | no l ↦
            let k : q ≡ count lo H + (q - count lo H) = omega arith in
            ap (λ (i : ℕ). x (i * s + c)) k
            ∙ highs (q - count lo H) (omega arith)
            ∙ sym (halves-high H line (column s x₀ c) q (omega arith) qh)
      ])
