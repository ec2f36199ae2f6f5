-- After as many halvings as its numbers have binary digits a side starts at 0 or 1 and has one coordinate or none. After another it stays: a single coordinate
-- 1 is odd, and gone. Assumes nothing.
use mathlib.Core.Path.{◌≡◌, sym, ap, ap₂, ◌∙◌}
use Prim.Native.Nat.{ℕ, zero, suc, ◌+◌, ◌-◌, ◌^◌, min, ◌≤◌, ◌<◌}
use native.Mathlib.Nat.{pow-suc}
use native.Mathlib.Decide.{dec_lt}
use native.Mathlib.Omega.{arith}
use Rattle.lifting.specs.Grid.{Side, side}
use Rattle.wavelet.specs.Levels.{next, side_at}
use Rattle.wavelet.proofs.SideLaws.{count-lo, next_start, next-length, next-end, size-suc, size-inner}

abbrev Short : Side → Type 0
Short S = (S.start ≤ 1) × (S.start + S.length ≤ 2)

abbrev Fixed : Side → Type 0
Fixed S = (S.start ≤ 1) × (S.start + S.length ≤ 1)

short : (k : ℕ) (S : Side) → S.start ≤ 2 ^ k → S.start + S.length ≤ 2 ^ k + 2 ^ k → Short (side_at k S)
unfolding side_at
short zero S a b = (a, b)
short (suc k) S a b = rw (size-inner k S) (short k (next S) (omega (arith, next_start S, pow-suc 2 k)) (omega (arith, next-end S, pow-suc 2 k)))

next-short : (S : Side) → Short S → Fixed (next S)
next-short S b = (omega (arith, next_start S), omega (arith, next-end S))

next-fixed : (S : Side) → Fixed S → next S ≡ S
next-fixed S b = ap₂ side (omega (arith, next_start S)) (omega (arith, next-length S, count-lo S))

stays : (d k : ℕ) (S : Side) → Fixed (side_at k S) → side_at (d + k) S ≡ side_at k S
stays zero k S b = let e : 0 + k ≡ k = omega arith in rw e
stays (suc d) k S b =
    let e = stays d k S b in
    let s : suc d + k ≡ suc (d + k) = omega arith in
    rw s (size-suc (d + k) S ∙ ap next e ∙ next-fixed (side_at k S) b)

pub side-turns : (level : ℕ) (S : Side) → S.start < 2 ^ 64 → S.length < 2 ^ 64 → side_at (min level 65) S ≡ side_at level S
side-turns level S a b =
    elim (dec_lt level 65) [
      | yes l ↦ ap (λ (k : ℕ). side_at k S) (omega arith)
      | no l ↦
          let e : min level 65 ≡ 65 = omega arith in
          let d : level ≡ (level - 65) + 65 = omega arith in
          let f : Fixed (side_at 65 S) = rw (size-suc 64 S) (next-short (side_at 64 S) (short 64 S (omega arith) (omega arith))) in
          ap (λ (k : ℕ). side_at k S) e ∙ sym (ap (λ (k : ℕ). side_at k S) d ∙ stays (level - 65) 65 S f)
    ]
