-- The laws of the levels' widths and of the store's length, for any number r of rows a level. Assumes nothing.
use mathlib.Core.Path.{◌≡◌, refl}
use Prim.Native.Nat.{ℕ, zero, suc, ◌+◌, ◌-◌, ◌*◌, ◌/◌, ◌≤◌, ◌<◌}
use native.Mathlib.Decide.{ℕ_discrete}
use native.Mathlib.Omega.{arith}
use native.Mathlib.Numerals.{add-one}
use native.Mathlib.Nat.{mul-zero, mul-add, mul-le-mul_left}
use Rattle.lifting.specs.Grid.{Side, side}
use Rattle.wavelet.specs.Limits.{max_levels}
use Rattle.wavelet.specs.Levels.{next, side_at}
use Rattle.wavelet.specs.Store.{widths, store_length, any_widths, any_length}
use Rattle.wavelet.proofs.SideLaws.{next-length, count-lo, size-inner, size-grows}

-- ---- the widths added up
pub widths-none : (W : Side) → widths W 0 ≡ 0
unfolding widths
widths-none W = refl

-- one level more, the coarsest
pub widths-more : (W : Side) (L : ℕ) → widths W (suc L) ≡ widths W L + (side_at L W).length
unfolding widths
widths-more W L = refl

-- the finest level, and the levels below it
inner : (W : Side) (L : ℕ) → widths W (suc L) ≡ W.length + widths (next W) L
unfolding widths side_at
inner W zero = omega arith
inner W (suc L) = let e = size-inner L W in rw (inner W L, e) (omega arith)

-- the next level is at most half as long, wherever it starts
half-most : (W : Side) → (next W).length ≤ (W.length + 1) / 2
half-most W = omega (arith, next-length W, count-lo W)

-- less than two a column and one a level
pub widths-le : (W : Side) (L : ℕ) → widths W L ≤ 2 * W.length + L
widths-le W zero = omega (arith, widths-none W)
widths-le W (suc L) = omega (arith, inner W L, widths-le (next W) L, half-most W)

-- fewer levels have no more
widths-in : (W : Side) (k L : ℕ) → k ≤ L → widths W k ≤ widths W L
widths-in W k zero h = let e : k ≡ 0 = omega arith in rw e (omega arith)
widths-in W k (suc L) h = elim (ℕ_discrete k (suc L)) [
  | yes e ↦ rw e (omega arith)
  | no d ↦ omega (arith, widths-more W L, widths-in W k L (omega arith))
]

-- nor has a narrower map with the same start
widths-grow : (L s N N' : ℕ) → N ≤ N' → widths (side s N) L ≤ widths (side s N') L
widths-grow zero s N N' h = omega (arith, widths-none (side s N), widths-none (side s N'))
widths-grow (suc L) s N N' h = omega (arith, widths-more (side s N) L, widths-more (side s N') L, widths-grow L s N N' h, size-grows L s N N' h)

-- ---- the most that they add up to, level by level
one : (W : Side) → widths W 1 ≤ W.length
one W = omega (arith, inner W 0, widths-none (next W))

two : (W : Side) → 2 * widths W 2 ≤ 3 * W.length + 1
two W = omega (arith, inner W 1, half-most W, one (next W))

three : (W : Side) → 4 * widths W 3 ≤ 7 * W.length + 5
three W = omega (arith, inner W 2, half-most W, two (next W))

four : (W : Side) → 8 * widths W 4 ≤ 15 * W.length + 17
four W = omega (arith, inner W 3, half-most W, three (next W))

five : (W : Side) → 16 * widths W 5 ≤ 31 * W.length + 49
five W = omega (arith, inner W 4, half-most W, four (next W))

-- at every number of levels
widths-most : (W : Side) (L : ℕ) → L ≤ max_levels → widths W L ≤ any_widths W.length
unfolding max_levels any_widths
widths-most W L h = omega (arith, widths-in W L max_levels h, five W)

-- ---- the store
module _ (r : ℕ) where
  pub store_is : (W : Side) (L : ℕ) → store_length r W L ≡ r * widths W L
  unfolding store_length
  store_is W L = refl

  pub store-none : (W : Side) → store_length r W 0 ≡ 0
  store-none W = rw (store_is W 0, widths-none W) (mul-zero r)

  -- one level more, the coarsest
  pub store-more : (W : Side) (L : ℕ) → store_length r W (suc L) ≡ store_length r W L + r * (side_at L W).length
  store-more W L = rw (store_is W (suc L), store_is W L, widths-more W L) (mul-add r (widths W L) (side_at L W).length)

  -- the finest level, and the levels below it
  pub store_below : (W : Side) (L : ℕ) → store_length r W (suc L) ≡ r * W.length + store_length r (next W) L
  store_below W L = rw (store_is W (suc L), store_is (next W) L, inner W L) (mul-add r W.length (widths (next W) L))

  pub store-next : (W : Side) (L : ℕ) → store_length r W (L + 1) ≡ r * W.length + store_length r (next W) L
  store-next W L = rw add-one (store_below W L)

  pub store-back : (W : Side) (L : ℕ) → 0 < L → store_length r W L ≡ r * W.length + store_length r (next W) (L - 1)
  store-back W zero h = absurd (omega arith)
  store-back W (suc L) h = let e : suc L - 1 ≡ L = omega arith in rw e (store_below W L)

  -- fewer levels need no more
  pub store_in : (W : Side) (k L : ℕ) → k ≤ L → store_length r W k ≤ store_length r W L
  store_in W k L h = rw (store_is W k, store_is W L) (mul-le-mul_left r (widths-in W k L h))

  -- a narrower map with the same start needs no more
  pub store-grows : (L s N N' : ℕ) → N ≤ N' → store_length r (side s N) L ≤ store_length r (side s N') L
  store-grows L s N N' h = rw (store_is (side s N) L, store_is (side s N') L) (mul-le-mul_left r (widths-grow L s N N' h))

  -- level 1's stretch lies within the store
  pub first-room : (W : Side) (L : ℕ) → 1 ≤ L → r * W.length ≤ store_length r W L
  first-room W L h = omega (arith, store-back W L h)

  -- enough for every number of levels
  pub store-most : (W : Side) (L : ℕ) → L ≤ max_levels → store_length r W L ≤ any_length r W.length
  unfolding any_length
  store-most W L h = rw (store_is W L) (mul-le-mul_left r (widths-most W L h))
