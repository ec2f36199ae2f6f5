-- The band rows of a set in a level's stretch of m rows: fed, taken from the next level, and together the rows of the set. Assumes nothing.
use mathlib.Core.Path.{◌≡◌, refl, sym, ap, ap₂, subst, ◌∙◌}
use mathlib.Core.Bool.{Bool, true, false}
use Prim.Native.Nat.{ℕ, ◌+◌, ◌-◌, ◌*◌, ◌≤◌, ◌<◌}
use native.Mathlib.Omega.{arith}
use lib.IntN.{ℤ}
use lib.Dec.{T, ltb, leb}
use borrow.Author.Tests.{lt-ltb, le-leb, lt-leb}
use Rattle.numbers.specs.Signal.{both}
use Rattle.numbers.proofs.Sweep.{both as both_hold}
use Rattle.lifting.specs.Line.{Half, lo, hi, Half-discrete}
use Rattle.lifting.specs.Grid.{Side, count, deinterleaved, joined}
use Rattle.lifting.specs.GridHalves.{halves_of}
use Rattle.wavelet.specs.Bands.{Grid, Band, LL, HL, LH, HH, code, across, down, band_of}
use Rattle.wavelet.specs.Levels.{next}
use Rattle.wavelet.specs.Order.{first_set, last_set, set_row, set_has}
use Rattle.wavelet.proofs.BandPlaces.{band-of}
use Rattle.level.specs.Stretch.{slot, row_place, local, row_of_set, half_place, band_fed, row_in, low_row_taken, RowStands, BandStands}
use Rattle.level.proofs.RowsIn.{apart, row-end, only-fed, fed-here, fed-beside, only-taken, taken_is, taken-beside, half-inside, half-reads}

-- ---- the bands but LL
not_wide : HL ≡ LL → ⊥
unfolding code
not_wide e = let z : ◌≡◌ {A = ℕ} 1 0 = ap code e in omega arith

not_low : LH ≡ LL → ⊥
unfolding code
not_low e = let z : ◌≡◌ {A = ℕ} 2 0 = ap code e in omega arith

not-both : HH ≡ LL → ⊥
unfolding code
not-both e = let z : ◌≡◌ {A = ℕ} 3 0 = ap code e in omega arith

-- ---- the bands that a set has
pub no_true : (b : Bool) → b ≡ false → b ≡ true → ⊥
no_true b e f = subst T (sym f ∙ e) tt

in-set : (h : Half) (H : Side) (n : ℕ) → first_set H h ≤ n → n - first_set H h < count h H → (w : ℕ) → 0 < w →
    both (ltb 0 w) (both (leb (first_set H h) n) (ltb (n - first_set H h) (count h H))) ≡ true
in-set h H n a b w c = rw (lt-ltb 0 w c, le-leb (first_set H h) n a, lt-ltb (n - first_set H h) (count h H) b) refl

low-there : (H : Side) (n : ℕ) → 0 < H.length → n ≤ last_set H → first_set H lo ≤ n → n - first_set H lo < count lo H
unfolding first_set last_set count
low-there H n g l b = omega arith

module _ {m : ℕ} (some : 1 < m) where
  few : 0 < m
  few = omega arith

  -- ---- two memories that agree in a level's rows
  abbrev pub SameMem : Side → (ℕ → ℤ) → (ℕ → ℤ) → Type 0
  SameMem W x y = (j : ℕ) → j < m * W.length → y j ≡ x j

  pub is_same : (W : Side) (x y : ℕ → ℤ) (q : ℕ) (c : Half → ℕ → ℤ) → SameMem W x y → RowStands m W x q c → RowStands m W y q c
  is_same W x y q c e s h i b =
      e (row_place m W.length q + (half_place h W + i)) (omega (arith, half-inside h W i b, row-end few W.length q)) ∙ s h i b

  -- the two rows of a set have two slots
  set-rows : (a b : Half) (n : ℕ) → (a ≡ b → ⊥) → slot m (row_of_set a n) ≡ slot m (row_of_set b n) → ⊥
  unfolding row_of_set
  set-rows lo lo n d z = d refl
  set-rows lo hi n d z = apart m (2 * n) (2 * n + 1) (λ e. omega arith) (omega arith) (omega arith) z
  set-rows hi lo n d z = apart m (2 * n + 1) (2 * n) (λ e. omega arith) (omega arith) (omega arith) z
  set-rows hi hi n d z = d refl

  module _ (W H : Side) (p : Band → Grid) (n : ℕ) where
    abbrev Got : (ℕ → ℤ) → Band → Type 0
    Got x c = BandStands m W H p n x c

    pub got_same : (c : Band) (x y : ℕ → ℤ) → SameMem W x y → Got x c → Got y c
    got_same c x y e s t i q =
        e (row_place m W.length (row_of_set (down c) n) + (half_place (across c) W + i))
        (omega (arith, half-inside (across c) W i q, row-end few W.length (row_of_set (down c) n))) ∙ s t i q

    -- ---- a band row fed
    pub got-old : (c e : Band) (v x : ℕ → ℤ) → (c ≡ e → ⊥) → Got x e → Got (band_fed m W c n v x) e
    got-old c e v x d s t i q = elim (Half-discrete (down c) (down e)) [
      | yes z ↦ ap (λ (a : Half). band_fed m W c n v x (row_place m W.length (row_of_set a n) + (half_place (across e) W + i))) (sym z)
          ∙ fed-beside few W c n v x (across e) (λ y. d (sym (band-of c) ∙ ap₂ band_of y z ∙ band-of e)) i q
          ∙ ap (λ (a : Half). x (row_place m W.length (row_of_set a n) + (half_place (across e) W + i))) z
          ∙ s t i q
      | no z ↦ (only-fed few W c n v x).row (row_of_set (down e) n) (half_place (across e) W + i) (set-rows (down c) (down e) n z) (half-inside (across e) W i q)
          ∙ s t i q
    ]

    pub got-new : (c : Band) (v x : ℕ → ℤ) → ((i : ℕ) → i < count (across c) W → v i ≡ p c (set_row H c n) i) → Got (band_fed m W c n v x) c
    got-new c v x e t i q = fed-here few W c n v x (across c) refl i q ∙ e i q

    -- ---- all bands are there: the rows of the set
    pub low-bands : 0 < H.length → n ≤ last_set H → (y : ℕ → ℤ) → ((c : Band) → Got y c) → first_set H lo ≤ n →
        RowStands m W y (2 * n) (λ a. p (band_of a lo) (n - first_set H lo))
    unfolding band_of across down row_of_set set_has set_row first_set
    low-bands g l y got u lo i q = got LL (in-set lo H n u (low-there H n g l u) (count lo W) (omega arith)) i q
    low-bands g l y got u hi i q = got HL (in-set lo H n u (low-there H n g l u) (count hi W) (omega arith)) i q

    zero-less : n - 0 ≡ n
    zero-less = omega arith

    pub high-bands : (y : ℕ → ℤ) → ((c : Band) → Got y c) → n < count hi H → RowStands m W y (2 * n + 1) (λ a. p (band_of a hi) n)
    unfolding band_of across down row_of_set set_has set_row first_set
    high-bands y got u lo i q =
        got LH (in-set hi H n (omega arith) (rw zero-less u) (count lo W) (omega arith)) i q ∙ ap (λ (r : ℕ). p LH r i) zero-less
    high-bands y got u hi i q =
        got HH (in-set hi H n (omega arith) (rw zero-less u) (count hi W) (omega arith)) i q ∙ ap (λ (r : ℕ). p HH r i) zero-less

    -- ---- below the last level, the bands but LL being fed
    module _ (x : ℕ → ℤ) (got : (c : Band) → (c ≡ LL → ⊥) → Got x c) where
      -- a set without a low row
      pub no-low : n < first_set H lo → (c : Band) → Got x c
      unfolding set_has set_row down
      no-low b LL = λ t. absurd (none (ltb 0 (count (across LL) W)) t)
        where
          none : (u : Bool) → both u (both (leb (first_set H lo) n) (ltb (n - first_set H lo) (count lo H))) ≡ true → ⊥
          none true t = no_true _ (lt-leb (first_set H lo) n b) (both_hold (leb (first_set H lo) n) (ltb (n - first_set H lo) (count lo H)) t).0
          none false t = subst T (sym t) tt
      no-low b HL = got HL not_wide
      no-low b LH = got LH not_low
      no-low b HH = got HH not-both

      -- else its low-low row is the next level's
      module _ (low : (i : ℕ) → i < count lo W →
          joined (next W) (halves_of (next W) (row_in m (next W).length (local (next H).start (n - first_set H lo)) (λ j. x (m * W.length + j)))) i
          ≡ p LL (n - first_set H lo) i) where
        low_halves : (a : Half) (i : ℕ) → i < count a (next W) →
            x (m * W.length + (row_place m (count lo W) (local (next H).start (n - first_set H lo)) + (half_place a (next W) + i))) ≡
            deinterleaved (next W) (p LL (n - first_set H lo)) a i
        unfolding next
        low_halves a i b =
            half-reads few (next W) (λ j. x (m * W.length + j)) (local (next H).start (n - first_set H lo)) (p LL (n - first_set H lo)) low a i b

        beside : slot m (2 * n) ≡ slot m (2 * n + 1) → ⊥
        beside = apart m (2 * n) (2 * n + 1) (λ e. omega arith) (omega arith) (omega arith)

        pub got-taken : (c : Band) → Got (low_row_taken m W H n x) c
        unfolding across down row_of_set set_row
        got-taken LL = λ t i b. taken_is few W H n x (p LL (n - first_set H lo)) low_halves i b
        got-taken HL = λ t i b. taken-beside few W H n x i b ∙ got HL not_wide t i b
        got-taken LH = λ t i b. (only-taken few W H n x).row (2 * n + 1) (half_place lo W + i) beside (half-inside lo W i b) ∙ got LH not_low t i b
        got-taken HH = λ t i b. (only-taken few W H n x).row (2 * n + 1) (half_place hi W + i) beside (half-inside hi W i b) ∙ got HH not-both t i b
