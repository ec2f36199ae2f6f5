-- The walk over the levels, as the code goes: the row wanted from a place on, and the place after a row. Assumes nothing.
use mathlib.Core.Bool.{true, false}
use mathlib.Core.Path.{◌≡◌, refl, sym, ap, ap₂, ◌∙◌}
use Prim.Native.Nat.{ℕ, zero, suc, ◌+◌, ◌-◌, ◌%◌, ◌≤◌, ◌<◌}
use native.Mathlib.Omega.{arith}
use native.Mathlib.Numerals.{add-one}
use lib.Dec.{eqb}
use mir.Syntax.{w64}
use mir.Val.{Fits}
use borrow.Author.Tests.{lt-ltb, le-ltb, lt-leb, le-leb}
use Rattle.lifting.specs.Line.{lo}
use Rattle.lifting.specs.Grid.{Side, side}
use Rattle.wavelet.specs.Levels.{side_at}
use Rattle.wavelet.specs.Order.{first_set}
use Rattle.wavelet.specs.declared.shape.Shape.{Shape}
use Rattle.wavelet.specs.Shape.{columns, rows}
use Rattle.reader_steps.specs.Sets.{has_row, row_of, taking, first_row, makes, waiting}
use Rattle.reader_steps.specs.Asked.{next_band}
use Rattle.reader_steps.specs.Places.{spot, band_at, last_of_set, next_up, past, beyond, descend, begins, enter}
use Rattle.reader_steps.specs.Places as machine
use Rattle.reader_steps.proofs.OpenedSets.{first-low}
use Rattle.reader_steps.specs.declared.places.Spot.{Spot}
use Rattle.reader_steps.specs.declared.places.Sides.{Sides}
use Rattle.reader_order.specs.Inside.{IsAt, Is}

-- ---- places and sides
pub is-spot : (q : machine.Spot) (p : Spot) → spot p.level p.set p.band ≡ q → Is q p
is-spot q p e = record {
  level = ap (λ (r : machine.Spot). r.level) e;
  set = ap (λ (r : machine.Spot). r.set) e;
  band = ap (λ (r : machine.Spot). r.band) e;
}

pub spot_of : (q : machine.Spot) (p : Spot) → Is q p → spot p.level p.set p.band ≡ q
spot_of q p is = rw (is.level, is.set, is.band)

module _ (s : Shape) (k : ℕ) (v : Sides) (is : IsAt s k v) where
  pub wide_at : side v.x v.width ≡ side_at k (columns s)
  wide_at = ap₂ side is.x is.width

  pub high-at : side v.y v.height ≡ side_at k (rows s)
  high-at = ap₂ side is.y is.height

  pub band-is : (n b : ℕ) →
      next_band (eqb (k + 1) s.levels) (side v.x v.width) (side v.y v.height) n b ≡ band_at (columns s) (rows s) s.levels k n b
  unfolding band_at
  band-is n b = cc (wide_at, high-at, add-one k)

-- ---- the number that waits
row_under : (f : ℕ) (S : Side) (n : ℕ) → first_row f S n ≤ S.length - 1
unfolding first_row
row_under f S zero = omega arith
row_under f S (suc n) = omega arith

later : (H : Side) (j r : ℕ) → r + first_set (side_at j H) lo ≡ taking H (suc j) r
unfolding taking
later H j r = refl

module _ (f : ℕ) (H S : Side) (k n r : ℕ) (side : S ≡ side_at k H) (row : r ≡ first_row f S n) where
  pub wait-top : k ≡ 0 → r ≡ waiting f H k n
  unfolding waiting
  wait-top e = row ∙ ap (λ (T : Side). first_row f T n) side ∙ go k e
    where
      go : (j : ℕ) → j ≡ 0 → first_row f (side_at k H) n ≡ taking H j (first_row f (side_at k H) n)
      go zero z = unfold taking in refl
      go (suc j) z = absurd (omega arith)

  pub wait-row : (p : ℕ) → (k ≡ 0 → ⊥) → p ≡ (side_at (k - 1) H).start → r + p % 2 ≡ waiting f H k n
  unfolding waiting
  wait-row p some e = ap₂ (λ a b. a + b % 2) (row ∙ ap (λ (T : Side). first_row f T n) side) e ∙ go k some
    where
      go : (j : ℕ) → (j ≡ 0 → ⊥) → first_row f (side_at k H) n + (side_at (j - 1) H).start % 2 ≡ taking H j (first_row f (side_at k H) n)
      go zero z = absurd (z refl)
      go (suc j) z =
          let i : suc j - 1 ≡ j = omega arith in
          ap (λ (q : ℕ). first_row f (side_at k H) n + (side_at q H).start % 2) i
          ∙ ap (λ (q : ℕ). first_row f (side_at k H) n + q) (sym (first-low (side_at j H))) ∙ later H j (first_row f (side_at k H) n)

  pub wait-fits : Fits w64 S.length → (p : ℕ) → Fits w64 (r + p % 2)
  wait-fits h p = omega (arith, row, row_under f S n)

-- ---- the row wanted
module _ (f : ℕ) (W H : Side) (L : ℕ) where
  pub up-here : (k b c n : ℕ) → 0 < k → c ≡ band_at W H L (k - 1) n b → c < 4 → spot (k - 1 + 1) n c ≡ next_up f W H L k n b
  unfolding next_up
  up-here zero b c n some e h = absurd (omega arith)
  up-here (suc k) b c n some e h =
      let i : suc k - 1 ≡ k = omega arith in
      let j : suc k - 1 + 1 ≡ suc k = omega arith in
      let is : c ≡ band_at W H L k n b = e ∙ ap (λ (j : ℕ). band_at W H L j n b) i in
      rw (j, ← is, lt-ltb c 4 h)

  pub up-finer : (k b c n m : ℕ) → 0 < k → c ≡ band_at W H L (k - 1) n b → 4 ≤ c → m ≡ waiting f H (k - 1) n →
      next_up f W H L (k - 1) m 1 ≡ next_up f W H L k n b
  unfolding next_up
  up-finer zero b c n m some e h w = absurd (omega arith)
  up-finer (suc k) b c n m some e h w =
      let i : suc k - 1 ≡ k = omega arith in
      let is : c ≡ band_at W H L k n b = e ∙ ap (λ (j : ℕ). band_at W H L j n b) i in
      rw (← is, le-ltb c 4 h) (ap₂ (λ j a. next_up f W H L j a 1) i (w ∙ ap (λ j. waiting f H j n) i))

  pub up_none : (k n b : ℕ) → k ≤ 0 → spot 0 0 4 ≡ next_up f W H L k n b
  unfolding next_up
  up_none zero n b e = refl
  up_none (suc k) n b e = absurd (omega arith)

  -- ---- where a height row begins, and where a set does
  pub enter-is : (d : ℕ) → descend f (L - 0) 0 W H d d ≡ enter f W H L d
  unfolding enter
  enter-is d = let z : L - 0 ≡ L = omega arith in rw z refl

  module _ (k n p : ℕ) (low : p ≡ (side_at k H).start) where
    pub begin-alone : n < p % 2 → spot (k + 1) n 1 ≡ begins f W H L (k + 1) n
    unfolding begins has_row
    begin-alone h = rw (add-one k, lt-leb (first_set (side_at k H) lo) n (omega (arith, first-low (side_at k H), ap (λ i. i % 2) low))) refl

    pub begin-on : p % 2 ≤ n → {X S : Side} → X ≡ side_at (k + 1) W → S ≡ side_at (k + 1) H →
        descend f (L - (k + 1)) (k + 1) X S n (n - p % 2) ≡ begins f W H L (k + 1) n
    unfolding begins has_row row_of
    begin-on h {X} {S} ex es =
        let z : n - p % 2 ≡ n - first_set (side_at k H) lo = omega (arith, first-low (side_at k H), ap (λ i. i % 2) low) in
        rw (ex, es, z, add-one k, le-leb (first_set (side_at k H) lo) n (omega (arith, first-low (side_at k H), ap (λ i. i % 2) low))) refl

  -- ---- past a set, and after a row
  pub past-on : (k n w : ℕ) → makes f (side_at k H) n ≡ true → w ≡ waiting f H k n → spot k w 1 ≡ past f W H L k n
  unfolding past
  past-on k n w e is = rw (e, is) refl

  pub past-begin : (k n : ℕ) → makes f (side_at k H) n ≡ false → begins f W H L (k + 1) (n + 1) ≡ past f W H L k n
  unfolding past
  past-begin k n e = rw (e, add-one k, add-one n) refl

  pub after_more : (k n c b : ℕ) → b ≡ band_at W H L k n (c + 1) → b < 4 → spot (k + 1) n (c + 1) ≡ beyond f W H L k n c
  unfolding beyond last_of_set
  after_more k n c b e h = rw (← e, lt-leb 4 b h, add-one k) refl

  pub after-set : (k n c b : ℕ) → b ≡ band_at W H L k n (c + 1) → 4 ≤ b → past f W H L k n ≡ beyond f W H L k n c
  unfolding beyond last_of_set
  after-set k n c b e h = rw (← e, le-leb 4 b h) refl
