-- What a stream needs by its filter's number. Assumes nothing.
use mathlib.Core.Path.{◌≡◌, refl, sym, ap, ◌∙◌}
use mathlib.Core.Bool.{Bool, true, false}
use Prim.Native.Nat.{ℕ, zero, suc, ◌+◌, ◌*◌, ◌^◌, ◌≤◌, ◌<◌, min}
use native.Mathlib.Omega.{arith}
use native.Mathlib.Nat.{mul-zero, mul-le-mul}
use lib.IntN.{ℤ, pos}
use lib.Dec.{leb}
use borrow.Author.Tests.{le-leb, lt-leb}
use Rattle.numbers.specs.Signal.{pick, both}
use Rattle.numbers.proofs.Sweep as tests
use Rattle.lifting.specs.Grid.{Side, side}
use Rattle.wavelet.specs.Limits.{max_width, max_levels, range}
use Rattle.wavelet.specs.Questions.{within}
use Rattle.wavelet.specs.Store.{widths, any_widths, any_length}
use Rattle.wavelet.proofs.LimitLaws.{width_small, levels-small}
use Rattle.wavelet.proofs.QuestionLaws.{within-true}
use Rattle.wavelet.proofs.StoreLaws.{store_is, store-back, widths-le}
use Rattle.lifting.specs.FiveThree.{five_three_filter}
use Rattle.nine_seven.specs.NineSevenFilter.{nine_seven_filter}
use Rattle.filters.specs.Filters.{filter_of, is_filter}
use Rattle.filters.specs.Range as nine
use Rattle.filters.specs.Figures.{store_by, writer_store_by, any_by, streamable}

-- no filter has more levels than the limit, or many rows, or looks far ahead
pub levels-most : (f : ℕ) → (filter_of f).levels ≤ max_levels
unfolding filter_of max_levels
levels-most zero = omega arith
levels-most (suc f) = omega arith

rows_few : (f : ℕ) → (filter_of f).rows < 2 ^ 8
unfolding filter_of
rows_few zero = omega arith
rows_few (suc f) = omega arith

pub ahead-few : (f : ℕ) → (filter_of f).ahead < 2 ^ 8
unfolding filter_of
ahead-few zero = omega arith
ahead-few (suc f) = omega arith

-- the steps of the closing of l levels, and a stretch of w columns
pub steps-few : (f l : ℕ) → (filter_of f).ahead * l ≤ 2 * l
unfolding filter_of
steps-few zero l = omega arith
steps-few (suc f) l = omega arith

pub row-few : (f w : ℕ) → (filter_of f).rows * w ≤ 8 * w
unfolding filter_of
row-few zero w = omega arith
row-few (suc f) w = omega arith

-- a line store is not long: at most sixteen numbers a column and eight a level
pub store-few : (f : ℕ) (W : Side) (L : ℕ) → store_by f W L ≤ 16 * W.length + 8 * L
unfolding filter_of
store-few zero W L = omega (arith, store_is 4 W L, widths-le W L)
store-few (suc f) W L = omega (arith, store_is 8 W L, widths-le W L)

-- the sizes of a stream
pub record Streams (f : ℕ) (W : Side) (L : ℕ) : Type 0 where
  pub known : is_filter f ≡ true
  pub width : (1 ≤ W.length) × (W.length ≤ max_width)
  pub levels : (1 ≤ L) × (L ≤ (filter_of f).levels)

pub streams : (f : ℕ) (W : Side) (L : ℕ) → streamable f W L ≡ true → Streams f W L
unfolding streamable
streams f W L e =
    let a = tests.both (is_filter f) _ e in
    let b = tests.both (within 1 max_width W.length) _ a.1 in
    record { known = a.0; width = within-true 1 max_width _ b.0; levels = within-true 1 (filter_of f).levels _ b.1 }

-- ---- the code's product fits a word
picked : (b : Bool) (v : ℕ) → (b ≡ true → v < 2 ^ 32) → pick b v 0 < 2 ^ 32
picked true v h = h refl
picked false v h = omega arith

product : (f r v : ℕ) → r ≡ (filter_of f).rows → v < 2 ^ 32 → r * v ≤ 2 ^ 16 * 2 ^ 32
product f r v e h = mul-le-mul {n₁ = r} {m₁ = v} {n₂ = 2 ^ 16} {m₂ = 2 ^ 32} (omega (arith, rows_few f)) (omega arith)

scaled : (b : Bool) (r v : ℕ) → r * pick b v 0 ≡ pick b (r * v) 0
scaled true r v = refl
scaled false r v = mul-zero r

-- a test fails that is the last of its kind
fails : (k p c : Bool) (v : ℕ) → 0 ≡ pick (both k (both p (both c false))) v 0
fails true true true v = refl
fails true true false v = refl
fails true false c v = refl
fails false p c v = refl

module _ (f w x L : ℕ) where
  abbrev W : Side
  W = side x w

  abbrev sized : Bool
  sized = both (within 1 max_width w) (within 1 max_levels L)

  few : sized ≡ true → widths W L < 2 ^ 32
  few e =
      let p = tests.both (within 1 max_width w) (within 1 max_levels L) e in
      let a = within-true 1 max_width w p.0 in
      let b = within-true 1 max_levels L p.1 in
      omega (arith, widths-le W L, width_small, levels-small)

  pub length-fits : (r v : ℕ) → r ≡ (filter_of f).rows → v ≡ pick sized (widths W L) 0 → r * v < 2 ^ 64
  length-fits r v e g =
      let s : v < 2 ^ 32 = rw g (picked sized (widths W L) few) in
      omega (arith, product f r v e s)

  -- ---- its three cases
  pub unknown : is_filter f ≡ false → 0 ≡ pick (streamable f W L) (store_by f W L) 0
  unfolding streamable
  unknown e = rw e

  pub deep : (filter_of f).levels < L → 0 ≡ pick (streamable f W L) (store_by f W L) 0
  unfolding streamable within
  deep h = rw (lt-leb L (filter_of f).levels h) (fails (is_filter f) (both (leb 1 w) (leb w max_width)) (leb 1 L) (store_by f W L))

  pub stored : (r v : ℕ) → is_filter f ≡ true → L ≤ (filter_of f).levels → r ≡ (filter_of f).rows → v ≡ pick sized (widths W L) 0 →
      r * v ≡ pick (streamable f W L) (store_by f W L) 0
  unfolding streamable within
  stored r v k h e g =
      let a : leb L (filter_of f).levels ≡ true = le-leb L _ h in
      let b : leb L max_levels ≡ true = le-leb L _ (omega (arith, levels-most f)) in
      rw (g, e, k, a, b, store_is (filter_of f).rows W L)
      (scaled (both (both (leb 1 w) (leb w max_width)) (both (leb 1 L) true)) (filter_of f).rows (widths W L))

-- ---- a length that holds any number of levels
module _ (f w n : ℕ) where
  pub wide : max_width < w → false ≡ both (leb w max_width) (leb (any_by f w) n)
  wide h = rw (lt-leb w max_width h)

  pub any-fits : (r v : ℕ) → r ≡ (filter_of f).rows → w ≤ max_width → v ≡ pick (leb w max_width) (any_widths w) 0 → r * v < 2 ^ 64
  unfolding any_widths
  any-fits r v e h g =
      let s : v < 2 ^ 32 = rw (g, le-leb w max_width h) (omega (arith, width_small)) in
      omega (arith, product f r v e s)

  pub narrow : (r v : ℕ) → r ≡ (filter_of f).rows → w ≤ max_width → v ≡ pick (leb w max_width) (any_widths w) 0 →
      leb (r * v) n ≡ both (leb w max_width) (leb (any_by f w) n)
  unfolding any_length
  narrow r v e h g = rw (g, e, le-leb w max_width h)

-- ---- the numbers of a filter
module _ (f : ℕ) where
  abbrev Figures : ℕ → ℕ → ℕ → Type 0
  Figures l r a = (l ≡ (filter_of f).levels) × (r ≡ (filter_of f).rows) × (a ≡ (filter_of f).ahead)

  pub first-figures : f ≡ 0 → Figures max_levels 4 1
  unfolding filter_of max_levels
  first-figures e = rw e (refl, refl, refl)

pub second-figures : (f : ℕ) → (f ≡ 0 → ⊥) → Figures f nine.max_levels 8 2
unfolding filter_of nine.max_levels
second-figures zero d = absurd (d refl)
second-figures (suc f) d = (refl, refl, refl)

abbrev Ranged : ℕ → ℕ → ℤ → Type 0
Ranged f k z = z ≡ pos (range (filter_of f) (min k (filter_of f).levels))

pub first-ranged : (f k : ℕ) (z : ℤ) → f ≡ 0 → z ≡ pos (range five_three_filter (min k max_levels)) → Ranged f k z
unfolding filter_of max_levels
first-ranged zero k z e p = p
first-ranged (suc f) k z e p = absurd (omega arith)

pub second-ranged : (f k : ℕ) (z : ℤ) → (f ≡ 0 → ⊥) → z ≡ pos (range nine_seven_filter (min k nine.max_levels)) → Ranged f k z
unfolding filter_of nine.max_levels
second-ranged zero k z d p = absurd (d refl)
second-ranged (suc f) k z d p = p

-- ---- a writer's store: the levels' stretches and a row more
pub stretch-some : (f : ℕ) (W : Side) (L : ℕ) → streamable f W L ≡ true → 0 < store_by f W L
unfolding filter_of
stretch-some zero W L e =
    let s = streams 0 W L e in
    omega (arith, s.width.0, store-back 4 W L s.levels.0)
stretch-some (suc f) W L e =
    let s = streams (suc f) W L e in
    omega (arith, s.width.0, store-back 8 W L s.levels.0)

module _ (f : ℕ) (W : Side) (L n : ℕ) (e : n ≡ pick (streamable f W L) (store_by f W L) 0) where
  pub writer_none : n ≡ 0 → 0 ≡ pick (streamable f W L) (writer_store_by f W L) 0
  writer_none z = go (streamable f W L) refl (sym z ∙ e)
    where
      go : (t : Bool) → streamable f W L ≡ t → 0 ≡ pick t (store_by f W L) 0 → 0 ≡ pick t (writer_store_by f W L) 0
      go true s h = absurd (omega (arith, stretch-some f W L s))
      go false s h = refl

  writer-stream : 0 < n → streamable f W L ≡ true
  writer-stream z = go (streamable f W L) refl e
    where
      go : (t : Bool) → streamable f W L ≡ t → n ≡ pick t (store_by f W L) 0 → streamable f W L ≡ true
      go true s h = s
      go false s h = absurd (omega arith)

  pub writer-some : 0 < n → n + W.length ≡ pick (streamable f W L) (writer_store_by f W L) 0
  writer-some z = let s = writer-stream z in rw (e, s) refl

  pub writer-fits : 0 < n → n + W.length < 2 ^ 64
  writer-fits z =
      let s = writer-stream z in
      let t = streams f W L s in
      let g : n ≡ store_by f W L = e ∙ ap (λ b. pick b (store_by f W L) 0) s in
      omega (arith, g, store-few f W L, t.width.1, width_small, t.levels.1, levels-most f, levels-small)
