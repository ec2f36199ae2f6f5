-- The laws of the sides of the levels: where each starts and how long it is. Assumes nothing.
use mathlib.Core.Path.{◌≡◌, refl, ap, ◌∙◌}
use Prim.Native.Nat.{ℕ, zero, suc, ◌+◌, ◌-◌, ◌*◌, ◌/◌, ◌%◌, ◌^◌, ◌≤◌, ◌<◌}
use native.Mathlib.Nat.{pow-suc, add-div_right, div-div-eq-div-mul}
use native.Mathlib.Omega.{arith}
use Rattle.lifting.specs.Line.{Half, lo, hi}
use Rattle.lifting.specs.Grid.{Side, side, count}
use Rattle.wavelet.specs.Levels.{next, side_at}

-- ---- a side deinterleaved
pub count-le : (h : Half) (S : Side) → count h S ≤ S.length
unfolding count
count-le lo S = omega arith
count-le hi S = omega arith

module _ (S : Side) where
  pub count-lo : count lo S ≡ (S.length + 1 - S.start % 2) / 2
  unfolding count
  count-lo = refl

  pub count-hi : count hi S ≡ (S.length + S.start % 2) / 2
  unfolding count
  count-hi = refl

  pub count-sum : count lo S + count hi S ≡ S.length
  unfolding count
  count-sum = omega arith

  pub count_none : S.length ≡ 0 → (h : Half) → count h S ≡ 0
  unfolding count
  count_none e lo = omega arith
  count_none e hi = omega arith

-- ---- the next side: its samples are the even coordinates, halved
module _ (S : Side) where
  pub next_start : (next S).start ≡ (S.start + 1) / 2
  unfolding next
  next_start = refl

  pub next-length : (next S).length ≡ count lo S
  unfolding next
  next-length = refl

  pub next-end : (next S).start + (next S).length ≡ (S.start + S.length + 1) / 2
  unfolding next count
  next-end = omega arith

  pub next_le : (next S).length ≤ S.length
  unfolding next
  next_le = count-le lo S

-- ---- the sides of the levels
pub size-zero : (S : Side) → side_at 0 S ≡ S
unfolding side_at
size-zero S = refl

pub size-suc : (k : ℕ) (S : Side) → side_at (suc k) S ≡ next (side_at k S)
unfolding side_at
size-suc k S = refl

pub size_back : (k : ℕ) (S : Side) → 0 < k → side_at k S ≡ next (side_at (k - 1) S)
size_back zero S h = absurd (omega arith)
size_back (suc k) S h = let e : suc k - 1 ≡ k = omega arith in rw (e, size-suc)

-- level k + 1 of a side is level k of the next
pub size-inner : (k : ℕ) (S : Side) → side_at (suc k) S ≡ side_at k (next S)
unfolding side_at
size-inner zero S = refl
size-inner (suc k) S = ap next (size-inner k S)

-- how long they are
pub length-suc : (k : ℕ) (S : Side) → (side_at (suc k) S).length ≡ count lo (side_at k S)
unfolding side_at next
length-suc k S = refl

pub length_back : (k : ℕ) (S : Side) → 0 < k → (side_at k S).length ≡ count lo (side_at (k - 1) S)
length_back k S h = ap (λ (T : Side). T.length) (size_back k S h) ∙ next-length (side_at (k - 1) S)

pub size-falls : (k : ℕ) (S : Side) → (side_at (suc k) S).length ≤ (side_at k S).length
size-falls k S = rw (length-suc k S) (count-le lo (side_at k S))

pub size-le : (k : ℕ) (S : Side) → (side_at k S).length ≤ S.length
unfolding side_at
size-le zero S = omega arith
size-le (suc k) S = omega (arith, size-falls k S, size-le k S)

-- where they start: the coordinate does not see the length
pub start-suc : (k : ℕ) (S : Side) → (side_at (suc k) S).start ≡ ((side_at k S).start + 1) / 2
unfolding side_at next
start-suc k S = refl

pub start-same : (k s N N' : ℕ) → (side_at k (side s N)).start ≡ (side_at k (side s N')).start
unfolding side_at next
start-same zero s N N' = refl
start-same (suc k) s N N' = ap (λ (c : ℕ). (c + 1) / 2) (start-same k s N N')

-- a longer side with the same start has levels that are no shorter
pub size-grows : (k s N N' : ℕ) → N ≤ N' → (side_at k (side s N)).length ≤ (side_at k (side s N')).length
unfolding side_at
size-grows zero s N N' h = h
size-grows (suc k) s N N' h =
    omega (
      arith,
      start-same k s N N',
      next-length (side_at k (side s N)),
      next-length (side_at k (side s N')),
      count-lo (side_at k (side s N)),
      count-lo (side_at k (side s N')),
      size-grows k s N N' h,
    )

-- ---- both ends of a level's side at once: each is halved up from level to level, ⌈end / 2^k⌉
pub unit-some : (k : ℕ) → 0 < 2 ^ k
unit-some zero = omega arith
unit-some (suc k) = omega (arith, pow-suc 2 k, unit-some k)

unfoldable pub up_to : ℕ → ℕ → ℕ
up_to k v = (v + (2 ^ k - 1)) / 2 ^ k

up-zero : (v : ℕ) → v ≡ up_to 0 v
unfolding up_to
up-zero v = omega arith

up_suc : (k v : ℕ) → (up_to k v + 1) / 2 ≡ up_to (suc k) v
unfolding up_to
up_suc k v =
    let one : (v + (2 ^ k - 1) + 2 ^ k) / 2 ^ k ≡ (v + (2 ^ k - 1)) / 2 ^ k + 1 = add-div_right (v + (2 ^ k - 1)) (unit-some k) in
    let twice : 2 ^ suc k ≡ 2 ^ k * 2 = pow-suc 2 k in
    let sum : v + (2 ^ k - 1) + 2 ^ k ≡ v + (2 ^ k * 2 - 1) = omega (arith, unit-some k) in
    rw (← one, div-div-eq-div-mul, sum, twice) refl

pub side-end : (k : ℕ) (S : Side) → ((side_at k S).start ≡ up_to k S.start) × ((side_at k S).start + (side_at k S).length ≡ up_to k (S.start + S.length))
unfolding side_at
side-end zero S = (up-zero S.start, up-zero (S.start + S.length))
side-end (suc k) S =
    let e = side-end k S in (
      next_start (side_at k S) ∙ ap (λ (v : ℕ). (v + 1) / 2) e.0 ∙ up_suc k S.start,
      next-end (side_at k S) ∙ ap (λ (v : ℕ). (v + 1) / 2) e.1 ∙ up_suc k (S.start + S.length),
    )

pub size-ends : (k s n : ℕ) → (up_to k s ≤ up_to k (s + n)) × (up_to k (s + n) - up_to k s ≡ (side_at k (side s n)).length)
size-ends k s n = let e = side-end k (side s n) in (omega (arith, e.0, e.1), omega (arith, e.0, e.1))
