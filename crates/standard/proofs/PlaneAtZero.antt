-- The plane of document 01, band by band: `plane-at` and `map-back-at` say of sizes what those of wavelet's LevelTheory say of sides. Assumes nothing.
use mathlib.Core.Path.{◌≡◌, refl, ap, fun_ext}
use Prim.Native.Nat.{ℕ, suc, ◌+◌, ◌-◌, ◌<◌}
use native.Mathlib.Omega.{arith}
use lib.IntN.{ℤ}
use borrow.Author.Tests.{lt-ltb, le-ltb}
use Rattle.lifting.specs.Line.{Half, lo, hi, count}
use Rattle.wavelet.specs.Bands.{Grid, Band, LL, HL, LH, HH, across, down, band_of}
use Rattle.wavelet.proofs.LevelTheory.{over}
use Rattle.standard.specs.ZeroBands.{subband, level_back}
use Rattle.standard.specs.ZeroPlane.{half_at, place_in, plane_cell, map_back}

-- where number n of half h of a side of N stands in the plane: the low half at the front, the high half after it
unfoldable pub placed : Half → ℕ → ℕ → ℕ
placed lo N n = n
placed hi N n = count lo N + n

-- band b as it stands in a plane x of W × H
unfoldable pub band_in : ℕ → ℕ → Grid → Band → Grid
band_in W H x b r c = x (placed (down b) H r) (placed (across b) W c)

module _ (keep : ℤ → ℤ) (L W H : ℕ) where
  -- level 1 of the plane: its three bands, and in the low-low corner the plane of the low-low part
  pub plane-at : (g : Grid) (b : Band) (r c : ℕ) → r < count (down b) H → c < count (across b) W →
      band_in W H (plane_cell keep (suc L) W H g) b r c
      ≡ over (plane_cell keep L (count lo W) (count lo H) (subband keep W H g LL)) (subband keep W H g) b r c
  unfolding band_in plane_cell over placed half_at place_in across down band_of
  plane-at g LL r c p q = simp (lt-ltb r (count lo H) p, lt-ltb c (count lo W) q)
  plane-at g HL r c p q =
      let e : count lo W + c - count lo W ≡ c = omega arith in
      simp (lt-ltb r (count lo H) p, le-ltb (count lo W + c) (count lo W) (omega arith), e)
  plane-at g LH r c p q =
      let e : count lo H + r - count lo H ≡ r = omega arith in
      simp (lt-ltb c (count lo W) q, le-ltb (count lo H + r) (count lo H) (omega arith), e)
  plane-at g HH r c p q =
      let e : count lo H + r - count lo H ≡ r = omega arith in
      let d : count lo W + c - count lo W ≡ c = omega arith in
      simp (le-ltb (count lo H + r) (count lo H) (omega arith), le-ltb (count lo W + c) (count lo W) (omega arith), e, d)

  pub map-back-at : (x : Grid) → map_back keep (suc L) W H x ≡ level_back keep W H (over (map_back keep L (count lo W) (count lo H) x) (band_in W H x))
  unfolding map_back over band_in placed across down
  map-back-at x = ap (level_back keep W H) (fun_ext λ b. elim b [ LL ↦ refl | HL ↦ refl | LH ↦ refl | HH ↦ refl ])
