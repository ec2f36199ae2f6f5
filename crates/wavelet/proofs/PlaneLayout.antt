-- The plane's layout: every kept band row stands in the plane where document 01 says, and every place of the plane is a place of exactly one of them.
-- Assumes nothing.
use mathlib.Core.Path.{◌≡◌, refl, sym, ap, ◌∙◌}
use mathlib.Core.Bool.{Bool, true, false}
use Prim.Native.Nat.{ℕ, zero, suc, ◌+◌, ◌*◌, ◌≤◌, ◌<◌}
use native.Mathlib.Omega.{arith}
use lib.IntN.{ℤ}
use borrow.Author.Tests.{lt-ltb}
use Rattle.lifting.specs.Line.{lo, hi}
use Rattle.lifting.specs.Grid.{Side, count}
use Rattle.lifting.specs.Filter.{Filter}
use Rattle.wavelet.specs.Bands.{Grid, Band, LL, HL, LH, HH, across, down, band_of, subband}
use Rattle.wavelet.specs.Levels.{next, level_band}
use Rattle.wavelet.specs.Plane.{in_corner, plane_cell, plane_of, level_at, half_at, place_in}
use Rattle.wavelet.specs.View.{band_rows, band_columns, band_start}
use Rattle.wavelet.proofs.GridLaws.{flat-at}
use Rattle.wavelet.proofs.SideLaws.{next-length}
use Rattle.wavelet.proofs.SidePlaces.{offset, extent, extent-end, offset-inner, inner_below, extent-first, low-test, half-at, place-in}
use Rattle.wavelet.proofs.BandPlaces.{band-start, rows-in, columns-in, band-of}
use Rattle.wavelet.proofs.LevelLaws.{level-first, level-inner}

-- ---- the low-low corner of a level, and the rest
corner-in : (W H : Side) (r c : ℕ) → r < count lo H → c < count lo W → in_corner W H r c ≡ true
unfolding in_corner
corner-in W H r c p q = simp (lt-ltb r (count lo H) p, lt-ltb c (count lo W) q)

-- the three bands beside the corner
abbrev beside : Band → Bool
beside LL = false
beside HL = true
beside LH = true
beside HH = true

not-LL : (b : Band) → beside b ≡ true → b ≡ LL → ⊥
not-LL b h e = let z : ◌≡◌ {A = ℕ} 0 1 = cc (ap beside e) in omega arith

corner-out : (W H : Side) (b : Band) (r c : ℕ) → beside b ≡ true → r < count (down b) H → c < count (across b) W →
    in_corner W H (offset (down b) 1 H + r) (offset (across b) 1 W + c) ≡ false
unfolding in_corner down across
corner-out W H LL r c h p q = absurd (not-LL LL h refl)
corner-out W H HL r c h p q = rw (low-test H r lo p, low-test W c hi q)
corner-out W H LH r c h p q = rw (low-test H r hi p)
corner-out W H HH r c h p q = rw (low-test H r hi p)

-- level k + 1 stands in the corner
corner-inner : (k : ℕ) (W H : Side) (b : Band) (r c : ℕ) → r < extent (down b) (suc k) (next H) → c < extent (across b) (suc k) (next W) →
    in_corner W H (offset (down b) (suc k) (next H) + r) (offset (across b) (suc k) (next W) + c) ≡ true
corner-inner k W H b r c p q =
    corner-in W H _ _
    (omega (arith, next-length H, extent-end (down b) (suc k) (next H) (omega arith)))
    (omega (arith, next-length W, extent-end (across b) (suc k) (next W) (omega arith)))

-- ---- the coefficient at a place
module _ (F : Filter) (keep : ℤ → ℤ) (L : ℕ) (W H : Side) (g : Grid) (r c : ℕ) where
  cell-in : in_corner W H r c ≡ true → plane_cell F keep (suc L) W H g r c ≡ plane_cell F keep L (next W) (next H) (subband F keep W H g LL) r c
  unfolding plane_cell
  cell-in e = rw e

  cell_out : in_corner W H r c ≡ false → plane_cell F keep (suc L) W H g r c ≡ subband F keep W H g (band_of (half_at W c) (half_at H r)) (place_in H r) (place_in W c)
  unfolding plane_cell
  cell_out e = rw e

cell-none : (F : Filter) (keep : ℤ → ℤ) (W H : Side) (g : Grid) (r c : ℕ) → plane_cell F keep 0 W H g r c ≡ g r c
unfolding plane_cell
cell-none F keep W H g r c = refl

cell-LL : (F : Filter) (keep : ℤ → ℤ) (L : ℕ) (W H : Side) (g : Grid) (r c : ℕ) → r < count lo H → c < count lo W → L ≡ 0 →
    plane_cell F keep (suc L) W H g r c ≡ subband F keep W H g LL r c
cell-LL F keep L W H g r c p q e =
    cell-in F keep L W H g r c (corner-in W H r c p q)
    ∙ ap (λ (l : ℕ). plane_cell F keep l (next W) (next H) (subband F keep W H g LL) r c) e
    ∙ cell-none F keep (next W) (next H) (subband F keep W H g LL) r c

cell-beside : (F : Filter) (keep : ℤ → ℤ) (L : ℕ) (W H : Side) (g : Grid) (b : Band) (r c : ℕ) → beside b ≡ true → r < count (down b) H
    → c < count (across b) W →
    plane_cell F keep (suc L) W H g (offset (down b) 1 H + r) (offset (across b) 1 W + c) ≡ subband F keep W H g b r c
cell-beside F keep L W H g b r c h p q =
    cell_out F keep L W H g _ _ (corner-out W H b r c h p q)
    ∙ rw (half-at W c (across b) q, half-at H r (down b) p, place-in H r (down b) p, place-in W c (across b) q, band-of b)

-- the finest level, and then every level by the low-low part of the finest
cell-first : (F : Filter) (keep : ℤ → ℤ) (L : ℕ) (W H : Side) (g : Grid) (b : Band) (r c : ℕ) → r < count (down b) H → c < count (across b) W
    → (b ≡ LL → L ≡ 0) →
    plane_cell F keep (suc L) W H g (offset (down b) 1 H + r) (offset (across b) 1 W + c) ≡ subband F keep W H g b r c
unfolding down across offset
cell-first F keep L W H g LL r c p q l =
    let er : 0 + r ≡ r = omega arith in
    let ec : 0 + c ≡ c = omega arith in
    rw (er, ec) (cell-LL F keep L W H g r c p q (l refl))
cell-first F keep L W H g HL r c p q l = cell-beside F keep L W H g HL r c refl p q
cell-first F keep L W H g LH r c p q l = cell-beside F keep L W H g LH r c refl p q
cell-first F keep L W H g HH r c p q l = cell-beside F keep L W H g HH r c refl p q

cell-is : (F : Filter) (keep : ℤ → ℤ) (k L : ℕ) (W H : Side) (g : Grid) (b : Band) (r c : ℕ) → k < L → (b ≡ LL → suc k ≡ L) → r < extent (down b) (suc k) H →
    c < extent (across b) (suc k) W →
    plane_cell F keep L W H g (offset (down b) (suc k) H + r) (offset (across b) (suc k) W + c) ≡ level_band F keep W H g (suc k) b r c
cell-is F keep k zero W H g b r c h l p q = absurd (omega arith)
cell-is F keep zero (suc L) W H g b r c h l p q =
    cell-first F keep L W H g b r c (rw extent-first at p) (rw extent-first at q) (λ e. let d = l e in omega arith)
    ∙ sym (ap (λ (f : Grid). f r c) (level-first F keep W H g b))
cell-is F keep (suc k) (suc L) W H g b r c h l p q =
    let p' = inner_below (down b) k H r p in
    let q' = inner_below (across b) k W c q in
    ap (λ (x : ℕ). plane_cell F keep (suc L) W H g (x + r) (offset (across b) (suc (suc k)) W + c)) (offset-inner (down b) (suc k) H)
    ∙ ap (λ (x : ℕ). plane_cell F keep (suc L) W H g (offset (down b) (suc k) (next H) + r) (x + c)) (offset-inner (across b) (suc k) W)
    ∙ cell-in F keep L W H g _ _ (corner-inner k W H b r c p' q')
    ∙ cell-is F keep k L (next W) (next H) (subband F keep W H g LL) b r c (omega arith) (λ e. let d = l e in omega arith) p' q'
    ∙ sym (ap (λ (f : Grid). f r c) (level-inner F keep W H g k b))

-- ---- the level at a place
module _ (L : ℕ) (W H : Side) (r c : ℕ) where
  level_in : in_corner W H r c ≡ true → level_at (suc L) W H r c ≡ suc (level_at L (next W) (next H) r c)
  unfolding level_at
  level_in e = rw e (omega arith)

  level_out : in_corner W H r c ≡ false → level_at (suc L) W H r c ≡ 1
  unfolding level_at
  level_out e = rw e

level-none : (W H : Side) (r c : ℕ) → level_at 0 W H r c ≡ 0
unfolding level_at
level-none W H r c = refl

level-LL : (L : ℕ) (W H : Side) (r c : ℕ) → r < count lo H → c < count lo W → L ≡ 0 → level_at (suc L) W H r c ≡ 1
level-LL L W H r c p q e =
    level_in L W H r c (corner-in W H r c p q)
    ∙ ap (λ (l : ℕ). suc (level_at l (next W) (next H) r c)) e
    ∙ ap suc (level-none (next W) (next H) r c)

level-finest : (L : ℕ) (W H : Side) (b : Band) (r c : ℕ) → r < count (down b) H → c < count (across b) W → (b ≡ LL → L ≡ 0) →
    level_at (suc L) W H (offset (down b) 1 H + r) (offset (across b) 1 W + c) ≡ 1
unfolding down across offset
level-finest L W H LL r c p q l =
    let er : 0 + r ≡ r = omega arith in
    let ec : 0 + c ≡ c = omega arith in
    rw (er, ec) (level-LL L W H r c p q (l refl))
level-finest L W H HL r c p q l = level_out L W H _ _ (corner-out W H HL r c refl p q)
level-finest L W H LH r c p q l = level_out L W H _ _ (corner-out W H LH r c refl p q)
level-finest L W H HH r c p q l = level_out L W H _ _ (corner-out W H HH r c refl p q)

level-is : (k L : ℕ) (W H : Side) (b : Band) (r c : ℕ) → k < L → (b ≡ LL → suc k ≡ L) → r < extent (down b) (suc k) H → c < extent (across b) (suc k) W →
    level_at L W H (offset (down b) (suc k) H + r) (offset (across b) (suc k) W + c) ≡ suc k
level-is k zero W H b r c h l p q = absurd (omega arith)
level-is zero (suc L) W H b r c h l p q =
    level-finest L W H b r c (rw extent-first at p) (rw extent-first at q) (λ e. let d = l e in omega arith)
level-is (suc k) (suc L) W H b r c h l p q =
    let p' = inner_below (down b) k H r p in
    let q' = inner_below (across b) k W c q in
    ap (λ (x : ℕ). level_at (suc L) W H (x + r) (offset (across b) (suc (suc k)) W + c)) (offset-inner (down b) (suc k) H)
    ∙ ap (λ (x : ℕ). level_at (suc L) W H (offset (down b) (suc k) (next H) + r) (x + c)) (offset-inner (across b) (suc k) W)
    ∙ level_in L W H _ _ (corner-inner k W H b r c p' q')
    ∙ ap suc (level-is k L (next W) (next H) b r c (omega arith) (λ e. let d = l e in omega arith) p' q')

-- ---- the kept band rows
-- place c of row r of band b of level k, kept at L levels
pub record Stands (L : ℕ) (W H : Side) (k : ℕ) (b : Band) (r c : ℕ) : Type 0 where
  pub deep : 1 ≤ k
  pub most : k ≤ L
  pub last : b ≡ LL → k ≡ L
  pub row : r < band_rows H k b
  pub column : c < band_columns W k b

-- its row and its column in the plane
abbrev pub plane_row : Side → ℕ → Band → ℕ → ℕ
plane_row H k b r = offset (down b) k H + r

abbrev pub plane_column : Side → ℕ → Band → ℕ → ℕ
plane_column W k b c = offset (across b) k W + c

pub place_is : (W H : Side) (k : ℕ) (b : Band) (r c : ℕ) → band_start W H k b r + c ≡ plane_row H k b r * W.length + plane_column W k b c
place_is W H k b r c = omega (arith, band-start W H k b r)

pub column-in : (L : ℕ) (W H : Side) (k : ℕ) (b : Band) (r c : ℕ) → Stands L W H k b r c → plane_column W k b c < W.length
column-in L W H k b r c s = omega (arith, columns-in W H k b s.deep, s.column)

pub row_in : (L : ℕ) (W H : Side) (k : ℕ) (b : Band) (r c : ℕ) → Stands L W H k b r c → plane_row H k b r < H.length
row_in L W H k b r c s = omega (arith, rows-in W H k b s.deep, s.row)

module _ (F : Filter) (keep : ℤ → ℤ) (L : ℕ) (W H : Side) (g : Grid) where
  pub cell-places : (k : ℕ) (b : Band) (r c : ℕ) → Stands L W H k b r c →
      plane_cell F keep L W H g (plane_row H k b r) (plane_column W k b c) ≡ level_band F keep W H g k b r c
  unfolding band_rows band_columns
  cell-places zero b r c s = absurd (omega (arith, s.deep))
  cell-places (suc k) b r c s = cell-is F keep k L W H g b r c s.most s.last s.row s.column

  -- every kept band row stands in the plane where document 01 says
  pub plane-places : (k : ℕ) (b : Band) (r c : ℕ) → Stands L W H k b r c → plane_of F keep L W H g (band_start W H k b r + c) ≡ level_band F keep W H g k b r c
  unfolding plane_of
  plane-places k b r c s =
      ap (plane_of F keep L W H g) (place_is W H k b r c)
      ∙ flat-at W.length (plane_cell F keep L W H g) _ _ (column-in L W H k b r c s)
      ∙ cell-places k b r c s

pub level-places : (L : ℕ) (W H : Side) (k : ℕ) (b : Band) (r c : ℕ) → Stands L W H k b r c → level_at L W H (plane_row H k b r) (plane_column W k b c) ≡ k
unfolding band_rows band_columns
level-places L W H zero b r c s = absurd (omega (arith, s.deep))
level-places L W H (suc k) b r c s = level-is k L W H b r c s.most s.last s.row s.column
