-- The row calls of the turns, by the rows that they are given. Assumes nothing.
use mathlib.Core.Path.{◌≡◌, ◌∙◌}
use Prim.Native.Nat.{ℕ, ◌+◌, ◌-◌, ◌*◌, ◌%◌, ◌≤◌, ◌<◌}
use native.Mathlib.Omega.{arith}
use lib.IntN.{ℤ}
use mir.Syntax.{w64}
use mir.Val.{Fits}
use borrow.Author.Tests.{lt-ltb, le-ltb, le-leb, lt-leb}
use Rattle.lifting.specs.Line.{Half, lo, hi}
use Rattle.lifting.specs.Grid.{Side, count, place}
use Rattle.lifting.specs.Rows.{rows_changed}
use Rattle.lifting.proofs.GridLaws.{counts}
use Rattle.nine_seven.specs.Rows.{rows_by}
use Rattle.nine_seven.specs.Near.{Beside, Around}
use Rattle.nine_seven.proofs.NearLaws.{two-there, four-there}
use Rattle.nine_seven_sweep.specs.Passes.{in_half, high_changed, low_changed, high_turn, low_turn}

-- the low rows are no more than all, and how many high ones there are
pub lows-within : (H : Side) (low : ℕ) → low ≡ count lo H → low ≤ H.length
lows-within H low e = let both = counts H in omega arith

pub high-room : (H : Side) (low n : ℕ) → low ≡ count lo H → n < count hi H → n < H.length - low
high-room H low n e b = let both = counts H in omega arith

pub few : (s : ℕ) → s % 2 ≤ 1
few s = omega arith

pub few-other : (s : ℕ) → 1 - s % 2 ≤ 1
few-other s = omega arith

module _ (N s w : ℕ) (H : Side) (n low : ℕ) (x x' : ℕ → ℤ) (el : low ≡ count lo H) where
  highs : H.length - low ≡ count hi H
  highs = let both = counts H in omega arith

  module _ (f : ℤ → ℤ → ℤ → ℤ → ℤ → ℤ) (l r b a : ℕ) (by : Around low (H.length - low) (1 - H.start % 2) n l r b a) where
    pub high-in-halves : x' ≡ rows_by f N s w (low + n) l r b a x → x' ≡ high_changed f (in_half H) N s w H n x
    unfolding in_half
    high-in-halves is = cc (is, el, highs, by.left, by.right, by.before, by.after)

    pub high-in-order : x' ≡ rows_by f N s w (2 * n + (1 - H.start % 2)) (2 * l + H.start % 2) (2 * r + H.start % 2) (2 * b + H.start % 2)
        (2 * a + H.start % 2) x → x' ≡ high_changed f (place H) N s w H n x
    unfolding place
    high-in-order is = cc (is, el, highs, by.left, by.right, by.before, by.after)

  module _ (f : ℤ → ℤ → ℤ → ℤ) (l r : ℕ) (by : Beside (H.length - low) (H.start % 2) n l r) where
    pub low-in-halves : x' ≡ rows_changed f N s w n (low + l) (low + r) x → x' ≡ low_changed f (in_half H) N s w H n x
    unfolding in_half
    low-in-halves is = cc (is, el, highs, by.left, by.right)

    pub low-in-order : x' ≡ rows_changed f N s w (2 * n + H.start % 2) (2 * l + (1 - H.start % 2)) (2 * r + (1 - H.start % 2)) x →
        x' ≡ low_changed f (place H) N s w H n x
    unfolding place
    low-in-order is = cc (is, el, highs, by.left, by.right)

abbrev pub Places : ℕ → ℕ → Type 0
Places o k = Fits w64 (2 * k) × Fits w64 (2 * k + o)

-- of a low row and the high ones beside it, of a high row and the low ones around it; b is the parity of the first row
abbrev pub LowPlaces : ℕ → ℕ → ℕ → ℕ → Type 0
LowPlaces b n l r = Places b n × Places (1 - b) l × Places (1 - b) r

abbrev pub HighPlaces : ℕ → ℕ → ℕ → ℕ → ℕ → ℕ → Type 0
HighPlaces b n l r f a = Places (1 - b) n × Places b l × Places b r × Places b f × Places b a

module _ (H : Side) (fits : Fits w64 H.length) where
  low-there : (k : ℕ) → k < count lo H → Places (H.start % 2) k
  unfolding count
  low-there k b = (omega arith, omega arith)

  high-there : (k : ℕ) → k < count hi H → Places (1 - H.start % 2) k
  unfolding count
  high-there k b = (omega arith, omega arith)

  pub sum-there : (low n : ℕ) → low ≡ count lo H → n < count hi H → Fits w64 (low + n)
  sum-there low n e b = let both = counts H in omega arith

  module _ (low n : ℕ) (more : 1 < H.length) (el : low ≡ count lo H) where
    highs-are : H.length - low ≡ count hi H
    highs-are = let both = counts H in omega arith

    some-high : 0 < H.length - low
    unfolding count
    some-high = omega arith

    some-low : 0 < low
    unfolding count
    some-low = omega arith

    near-low : n < count hi H → n + (1 - H.start % 2) ≤ low
    unfolding count
    near-low b = omega arith

    sum_below : (k : ℕ) → k < H.length - low → Fits w64 (low + k)
    sum_below k b = omega arith

    module _ (l r : ℕ) (by : Beside (H.length - low) (H.start % 2) n l r) where
      two : (l < H.length - low) × (r < H.length - low)
      two = two-there (H.length - low) (H.start % 2) n l r by some-high

      pub low_sums : Fits w64 (low + l) × Fits w64 (low + r)
      low_sums = (sum_below l two.0, sum_below r two.1)

      pub low-places : n < count lo H → LowPlaces (H.start % 2) n l r
      low-places b = (low-there n b, high-there l (rw highs-are at two.0), high-there r (rw highs-are at two.1))

    pub high-places : (l r b a : ℕ) → Around low (H.length - low) (1 - H.start % 2) n l r b a → n < count hi H
        → HighPlaces (H.start % 2) n l r b a
    high-places l r b a by h =
        let f = four-there low (H.length - low) (1 - H.start % 2) n l r b a by some-low (near-low h) (high-room H low n el h) in
        (high-there n h, low-there l (rw el at f.0), low-there r (rw el at f.1), low-there b (rw el at f.2), low-there a (rw el at f.3))

-- a turn's own row, d behind it, and a turn that has none
module _ (P : Half → ℕ → ℕ) (N s w : ℕ) (H : Side) (k d : ℕ) (x x' : ℕ → ℤ) where
  pub high-made : (f : ℤ → ℤ → ℤ → ℤ → ℤ → ℤ) → d ≤ k → k - d < count hi H → x' ≡ high_changed f P N s w H (k - d) x → x' ≡ high_turn f P N s w H k d x
  high-made f a b is = is ∙ simp (le-leb d k a, lt-ltb (k - d) (count hi H) b)

  pub low-made : (f : ℤ → ℤ → ℤ → ℤ) → d ≤ k → k - d < count lo H → x' ≡ low_changed f P N s w H (k - d) x → x' ≡ low_turn f P N s w H k d x
  low-made f a b is = is ∙ simp (le-leb d k a, lt-ltb (k - d) (count lo H) b)

-- the turn's own row
module _ (P : Half → ℕ → ℕ) (N s w : ℕ) (H : Side) (k : ℕ) (x x' : ℕ → ℤ) where
  own : k - 0 ≡ k
  own = omega arith

  pub high-own : (f : ℤ → ℤ → ℤ → ℤ → ℤ → ℤ) → k < count hi H → x' ≡ high_changed f P N s w H k x → x' ≡ high_turn f P N s w H k 0 x
  high-own f b is = is ∙ simp (le-leb 0 k (omega arith), own, lt-ltb k (count hi H) b)

  pub low-own : (f : ℤ → ℤ → ℤ → ℤ) → k < count lo H → x' ≡ low_changed f P N s w H k x → x' ≡ low_turn f P N s w H k 0 x
  low-own f b is = is ∙ simp (le-leb 0 k (omega arith), own, lt-ltb k (count lo H) b)

module _ (P : Half → ℕ → ℕ) (N s w : ℕ) (H : Side) (k d : ℕ) (x : ℕ → ℤ) where
  pub high-early : (f : ℤ → ℤ → ℤ → ℤ → ℤ → ℤ) → k < d → x ≡ high_turn f P N s w H k d x
  high-early f a = simp (lt-leb d k a)

  pub low-early : (f : ℤ → ℤ → ℤ → ℤ) → k < d → x ≡ low_turn f P N s w H k d x
  low-early f a = simp (lt-leb d k a)

  pub high-late : (f : ℤ → ℤ → ℤ → ℤ → ℤ → ℤ) → d ≤ k → count hi H ≤ k - d → x ≡ high_turn f P N s w H k d x
  high-late f a b = simp (le-leb d k a, le-ltb (k - d) (count hi H) b)

  pub low-late : (f : ℤ → ℤ → ℤ → ℤ) → d ≤ k → count lo H ≤ k - d → x ≡ low_turn f P N s w H k d x
  low-late f a b = simp (le-leb d k a, le-ltb (k - d) (count lo H) b)

-- one step after the other, the area as long as it was
pub one-after : (g : ℕ → (ℕ → ℤ) → ℕ → ℤ) (N M : ℕ) (y x₁ x₂ : ℕ → ℤ) → M ≡ N → x₁ ≡ y → x₂ ≡ g M x₁ → x₂ ≡ g N y
one-after g N M y x₁ x₂ e is₁ is₂ = is₂ ∙ λ i. g (e i) (is₁ i)
