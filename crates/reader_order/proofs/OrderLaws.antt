-- What the code tests and finds of the order, in plain numbers. Assumes nothing.
use mathlib.Core.Bool.{Bool, true, false, ◌&&◌}
use mathlib.Core.Path.{◌≡◌, refl}
use Prim.Native.Nat.{ℕ, zero, suc, ◌+◌, ◌-◌, ◌≤◌, ◌<◌}
use native.Mathlib.Omega.{arith}
use native.Mathlib.Numerals.{add-one}
use lib.Dec.{leb, ltb}
use borrow.Author.Tests.{lt-ltb, le-ltb, ltb-true, leb-true, eqb-true}
use Rattle.numbers.specs.Signal.{both}
use Rattle.numbers.proofs.Sweep.{both as halves}
use Rattle.wavelet.specs.Limits.{max_height}
use Rattle.wavelet.specs.Levels.{side_at}
use Rattle.wavelet.specs.Order.{set_row}
use Rattle.wavelet.specs.Questions.{within, Sized}
use Rattle.wavelet.specs.declared.shape.Shape.{Shape}
use Rattle.wavelet.specs.Shape.{columns, rows}
use Rattle.wavelet.proofs.QuestionLaws.{sized, within-true}
use Rattle.reader_steps.specs.Asked.{named}
use Rattle.reader_steps.specs.Places.{Spot, spot_fed, beyond, enter}
use Rattle.reader_order.specs.declared.Place.{Place}
use Rattle.reader_order.specs.Order.{placed, nowhere, at, wanted_from, seek, shape_fits, place_fits, first_place, next_place, row_at}

pub and_both : (a b : Bool) → a && b ≡ both a b
and_both true b = refl
and_both false b = refl

pub nowhere-is : (p : Place) → (p.drawn ≡ 0) × (p.level ≡ 0) × (p.set ≡ 0) × (p.band ≡ 0) → p ≡ nowhere
nowhere-is p e = λ i. placed (e.0 i) (e.1 i) (e.2 i) (e.3 i)

module _ (s : Shape) where
  pub fits-sized : shape_fits s ≡ true → Sized s.width s.height s.levels
  unfolding shape_fits
  fits-sized e = sized s.width s.height s.levels (eqb-true _ _ e)

  -- the parts of the test of a place
  pub record PlaceIn (p : Place) : Type 0 where
    pub fits : shape_fits s ≡ true
    pub some : 1 ≤ p.level
    pub most : p.level ≤ s.levels
    pub drawn : p.drawn < s.height
    pub set : p.set ≤ max_height
    pub band : p.band < 4

  pub place-in : (p : Place) → place_fits s p ≡ true → PlaceIn p
  unfolding place_fits
  place-in p e =
      let a = halves _ _ e in
      let b = halves _ _ a.1 in
      let w = within-true 1 s.levels p.level b.0 in
      let d = halves _ _ b.1 in
      let g = halves _ _ d.0 in
      record {
        fits = a.0;
        some = w.0;
        most = w.1;
        drawn = ltb-true _ _ g.0;
        set = leb-true _ _ g.1;
        band = ltb-true _ _ d.1;
      }

  -- the same test, part by part, as the code makes it
  pub place-no-shape : (p : Place) → shape_fits s ≡ false → false ≡ place_fits s p
  unfolding place_fits
  place-no-shape p e = rw e refl

  pub place-no-level : (p : Place) → shape_fits s ≡ true → within 1 s.levels p.level ≡ false → false ≡ place_fits s p
  unfolding place_fits
  place-no-level p e f = rw (e, f) refl

  pub place-last : (p : Place) → shape_fits s ≡ true → within 1 s.levels p.level ≡ true →
      (ltb p.drawn s.height && leb p.set max_height) && ltb p.band 4 ≡ place_fits s p
  unfolding place_fits
  place-last p e f = rw (
    e,
    f,
    and_both (ltb p.drawn s.height) (leb p.set max_height),
    and_both (both (ltb p.drawn s.height) (leb p.set max_height)) (ltb p.band 4),
  ) refl

  -- ---- the row of a place
  pub row-none : (p : Place) → place_fits s p ≡ false → 0 ≡ row_at s p
  unfolding row_at
  row-none p e = rw e refl

  pub row-some : (p : Place) → place_fits s p ≡ true → set_row (side_at (p.level - 1) (rows s)) (named p.band) p.set ≡ row_at s p
  unfolding row_at
  row-some p e = rw e refl

  -- ---- the search for a row
  pub seek-over : (d : ℕ) (q : Spot) → s.height ≤ d → nowhere ≡ seek s (s.height - d) d q
  unfolding seek
  seek-over d q h = let z : s.height - d ≡ 0 = omega arith in rw z refl

  module _ (d : ℕ) (q : Spot) (more : d < s.height) where
    left : s.height - d ≡ suc (s.height - (d + 1))
    left = omega arith

    pub seek_found : 0 < (wanted_from s q).level → at d (wanted_from s q) ≡ seek s (s.height - d) d q
    unfolding seek
    seek_found h = rw (left, lt-ltb 0 (wanted_from s q).level h) refl

    pub seek-drawn : (wanted_from s q).level ≤ 0 →
        seek s (s.height - (d + 1)) (d + 1) (enter s.filter (columns s) (rows s) s.levels (d + 1)) ≡ seek s (s.height - d) d q
    unfolding seek
    seek-drawn h = rw (left, le-ltb 0 (wanted_from s q).level h, add-one d) refl

  -- ---- the first row, and the next
  pub first-none : shape_fits s ≡ false → nowhere ≡ first_place s
  unfolding first_place
  first-none e = rw e refl

  pub first_some : shape_fits s ≡ true → seek s (s.height - 0) 0 (enter s.filter (columns s) (rows s) s.levels 0) ≡ first_place s
  unfolding first_place
  first_some e = let z : s.height - 0 ≡ s.height = omega arith in rw (e, z) refl

  pub next-none : (p : Place) → place_fits s p ≡ false → nowhere ≡ next_place s p
  unfolding next_place
  next-none p e = rw e refl

  pub fed-is : (k n c : ℕ) → 1 ≤ k → beyond s.filter (columns s) (rows s) s.levels (k - 1) n c ≡ spot_fed s.filter (columns s) (rows s)
      s.levels k n c
  unfolding spot_fed
  fed-is zero n c h = absurd (omega arith)
  fed-is (suc k) n c h = let z : suc k - 1 ≡ k = omega arith in rw z refl

  pub next-some : (p : Place) → place_fits s p ≡ true →
      seek s (s.height - p.drawn) p.drawn (beyond s.filter (columns s) (rows s) s.levels (p.level - 1) p.set p.band) ≡ next_place s p
  unfolding next_place
  next-some p e = rw (e, ← fed-is p.level p.set p.band (place-in p e).some) refl
