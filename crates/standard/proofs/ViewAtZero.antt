-- The bands of a map whose origin is (0, 0), their rows in the plane and the line store are those of document 01. Assumes nothing.
use mathlib.Core.Path.{◌≡◌, refl, ap, ap₂, ◌∙◌}
use mathlib.Core.List.{List}
use Prim.Native.Nat.{ℕ, zero, suc, ◌+◌, ◌-◌, ◌*◌}
use lib.IntN.{ℤ}
use lib.ListN.{length}
use Rattle.lifting.specs.Grid.{Side, side, count}
use Rattle.lifting.specs.FiveThree.{five_three_filter}
use Rattle.lifting.proofs.AtZero.{count-zero}
use Rattle.wavelet.specs.Bands.{Band, LL, HL, LH, HH, across, down}
use Rattle.wavelet.specs.Levels.{side_at}
use Rattle.wavelet.specs.View.{band_rows, band_columns, band_start}
use Rattle.wavelet.specs.ViewCall.{band_row_exists, view_question, view_start, view_length, view_row, view_place}
use Rattle.wavelet.specs.Store.{widths, store_length}
use Rattle.standard.specs.ZeroLevels.{size}
use Rattle.standard.specs.ZeroView as view
use Rattle.standard.specs.ZeroViewCall as call
use Rattle.standard.specs.ZeroStore as store
use Rattle.standard.proofs.AtZero.{side-zero}

pub length-zero : (k N : ℕ) → (side_at k (side 0 N)).length ≡ size k N
length-zero k N = ap (λ (S : Side). S.length) (side-zero k N)

-- ---- the bands
pub band-rows-zero : (H k : ℕ) (b : Band) → band_rows (side 0 H) k b ≡ view.band_rows H k b
unfolding band_rows view.band_rows
band-rows-zero H k b = ap (count (down b)) (side-zero (k - 1) H) ∙ count-zero (down b) (size (k - 1) H)

pub band-columns-zero : (W k : ℕ) (b : Band) → band_columns (side 0 W) k b ≡ view.band_columns W k b
unfolding band_columns view.band_columns
band-columns-zero W k b = ap (count (across b)) (side-zero (k - 1) W) ∙ count-zero (across b) (size (k - 1) W)

pub band-start-zero : (W H k : ℕ) (b : Band) (r : ℕ) → band_start (side 0 W) (side 0 H) k b r ≡ view.band_start W H k b r
unfolding band_start view.band_start
band-start-zero W H k LL r = refl
band-start-zero W H k HL r = ap (λ (w : ℕ). r * W + w) (length-zero k W)
band-start-zero W H k LH r = ap (λ (h : ℕ). (h + r) * W) (length-zero k H)
band-start-zero W H k HH r = ap₂ (λ (h w : ℕ). (h + r) * W + w) (length-zero k H) (length-zero k W)

pub band-row-zero : (W H L k : ℕ) (b : Band) (r : ℕ) → band_row_exists (side 0 W) (side 0 H) L k b r ≡ call.band_row_exists W H L k b r
unfolding band_row_exists call.band_row_exists
band-row-zero W H L k b r = rw (band-columns-zero W k b, band-rows-zero H k b) refl

-- ---- the view
pub view-question-zero : (n W H L k c r : ℕ) → view_question n (side 0 W) (side 0 H) L k c r ≡ call.view_question n W H L k c r
unfolding view_question call.view_question
view-question-zero n W H L k c r =
    rw (band-row-zero W H L k LL r, band-row-zero W H L k HL r, band-row-zero W H L k LH r, band-row-zero W H L k HH r) refl

pub view-start-zero : (W H k c r : ℕ) → view_start (side 0 W) (side 0 H) k c r ≡ call.view_start W H k c r
unfolding view_start call.view_start
view-start-zero W H k c r =
    rw (band-start-zero W H k LL r, band-start-zero W H k HL r, band-start-zero W H k LH r, band-start-zero W H k HH r) refl

pub view-length-zero : (W k c : ℕ) → view_length (side 0 W) k c ≡ call.view_length W k c
unfolding view_length call.view_length
view-length-zero W k c = rw (band-columns-zero W k LL, band-columns-zero W k HL, band-columns-zero W k LH, band-columns-zero W k HH) refl

pub view-row-zero : (plane : List ℤ) (W H L k c r : ℕ) → view_row plane (side 0 W) (side 0 H) L k c r ≡ call.view_row plane W H L k c r
unfolding view_row call.view_row
view-row-zero plane W H L k c r = rw (view-question-zero (length plane) W H L k c r, view-length-zero W k c, view-start-zero W H k c r) refl

pub view-place-zero : (n W H L k c r : ℕ) → view_place n (side 0 W) (side 0 H) L k c r ≡ call.view_place n W H L k c r
unfolding view_place call.view_place
view-place-zero n W H L k c r = rw (view-question-zero n W H L k c r, view-start-zero W H k c r) refl

-- ---- the line store
pub widths-zero : (W L : ℕ) → widths (side 0 W) L ≡ store.widths W L
unfolding widths store.widths
widths-zero W zero = refl
widths-zero W (suc L) = ap₂ ◌+◌ (widths-zero W L) (length-zero L W)

pub store-length-zero : (W L : ℕ) → store_length five_three_filter.rows (side 0 W) L ≡ store.store_length W L
unfolding store_length store.store_length
store-length-zero W L = ap (λ (n : ℕ). 4 * n) (widths-zero W L)
