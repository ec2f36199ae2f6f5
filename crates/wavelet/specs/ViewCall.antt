-- The view of a band row: its questions in the order of document 01, and the stretch of the plane that it is.
use Rattle.std.specs.Prelude.{Bool, true, false, List, [], ℕ, ◌+◌, ◌*◌, ℤ, length, take, drop, leb, ltb, eqb}
use Rattle.numbers.specs.Signal.{pick, both}
use Rattle.lifting.specs.Grid.{Side}
use Rattle.wavelet.specs.Limits.{max_width, max_height, max_levels}
use Rattle.wavelet.specs.Bands.{Band, LL, HL, LH, HH, code}
use Rattle.wavelet.specs.Questions.{ask, within}
use Rattle.wavelet.specs.View.{band_rows, band_columns, band_start}

-- what f says of the band that a code names; "any other code names no band"
abbrev pub named {ℓ} : {A : Type ℓ} → ℕ → (Band → A) → A → A
named c f none =
    pick (eqb c (code LL)) (f LL)
    (pick (eqb c (code HL)) (f HL)
    (pick (eqb c (code LH)) (f LH)
    (pick (eqb c (code HH)) (f HH)
    none)))

-- "LL is kept at level L only."
unfoldable pub kept_at : ℕ → ℕ → Band → Bool
kept_at L k LL = eqb k L
kept_at L k HL = true
kept_at L k LH = true
kept_at L k HH = true

-- Is r a row of this band of level k? "A band with no row or no column has no band row."
unfoldable pub band_row_exists : Side → Side → ℕ → ℕ → Band → ℕ → Bool
band_row_exists W H L k b r =
    both (within 1 L k)
    (both (kept_at L k b)
    (both (ltb 0 (band_columns W k b))
    (ltb r (band_rows H k b))))

-- n is the length of the plane, k the level, c the band's code, r the row
unfoldable pub view_question : ℕ → Side → Side → ℕ → ℕ → ℕ → ℕ → ℕ
view_question n W H L k c r =
    ask (within 1 max_width W.length) 2
    (ask (within 1 max_height H.length) 3
    (ask (within 1 max_levels L) 4
    (ask (leb (W.length * H.length) n) 5
    (ask (named c (λ b. band_row_exists W H L k b r) false) 6
    0))))

unfoldable pub view_start : Side → Side → ℕ → ℕ → ℕ → ℕ
view_start W H k c r = named c (λ b. band_start W H k b r) 0

unfoldable pub view_length : Side → ℕ → ℕ → ℕ
view_length W k c = named c (band_columns W k) 0

-- "The view of a band row is a stretch of the caller's plane, not a copy. A refused view is an empty stretch, which no band row is"
unfoldable pub view_row : List ℤ → Side → Side → ℕ → ℕ → ℕ → ℕ → List ℤ
view_row plane W H L k c r =
    pick (eqb (view_question (length plane) W H L k c r) 0) (take (view_length W k c) (drop (view_start W H k c r) plane)) []

-- where in the plane that stretch begins; an empty one at its front
unfoldable pub view_place : ℕ → Side → Side → ℕ → ℕ → ℕ → ℕ → ℕ
view_place n W H L k c r = pick (eqb (view_question n W H L k c r) 0) (view_start W H k c r) 0

-- the address, block and byte, of number i of an area of 32-bit numbers at address a
unfoldable pub address_of : ℕ × ℕ → ℕ → ℕ × ℕ
address_of a i = (a.0, i * 4 + a.1)
