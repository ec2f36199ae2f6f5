-- The band rows that a set asks for. Document 01: "Set n of level k needs its LL row (for k below L: the next row that level k+1 makes), then HL, LH, HH,
-- skipping bands without rows."
-- A level splits the columns W and the rows H; `last` says that it is level L.
use Rattle.std.specs.Prelude.{Bool, true, List, [], ◌∷◌, ℕ, zero, suc}
use Rattle.numbers.specs.Signal.{pick, both}
use Rattle.lifting.specs.Grid.{Side}
use Rattle.wavelet.specs.Bands.{Band, LL, HL, LH, HH, code}
use Rattle.wavelet.specs.Order.{set_has}

-- "LL is kept at level L only."
unfoldable pub kept_at : Bool → Band → Bool
kept_at last LL = last
kept_at last HL = true
kept_at last LH = true
kept_at last HH = true

-- does set n have a row of this band to be fed?
unfoldable pub asked : Bool → Side → Side → ℕ → Band → Bool
asked last W H n b = both (kept_at last b) (set_has W H b n)

-- the bands whose codes are b or more, in their order
unfoldable pub bands_from : ℕ → List Band
bands_from zero = LL ∷ HL ∷ LH ∷ HH ∷ []
bands_from (suc zero) = HL ∷ LH ∷ HH ∷ []
bands_from (suc (suc zero)) = LH ∷ HH ∷ []
bands_from (suc (suc (suc zero))) = HH ∷ []
bands_from (suc (suc (suc (suc b)))) = []

-- those of a list that pass a test
unfoldable pub those : (Band → Bool) → List Band → List Band
those p [] = []
those p (b ∷ bs) = pick (p b) (b ∷ those p bs) (those p bs)

-- the bands from code b on that set n still asks for
unfoldable pub look : Bool → Side → Side → ℕ → ℕ → List Band
look last W H n b = those (asked last W H n) (bands_from b)

-- the code of the first, 4 where there is none
unfoldable pub first_code : List Band → ℕ
first_code [] = 4
first_code (b ∷ bs) = code b

unfoldable pub next_band : Bool → Side → Side → ℕ → ℕ → ℕ
next_band last W H n b = first_code (look last W H n b)

-- the band of a code
unfoldable pub named : ℕ → Band
named zero = LL
named (suc zero) = HL
named (suc (suc zero)) = LH
named (suc (suc (suc c))) = HH
