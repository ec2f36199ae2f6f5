-- What a changed rectangle reaches in the plane of a map, by the 5/3 from the origin. Document 02, Q-9.
use Rattle.std.specs.Prelude.{Bool, ℕ, zero, suc, ◌+◌, ◌-◌, ◌*◌, ◌/◌, leb}
use Rattle.numbers.specs.Signal.{pick, both}
use Rattle.lifting.specs.Line.{Half, lo, hi}
use Rattle.lifting.specs.Grid.{Side}
use Rattle.wavelet.specs.Levels.{next}
use Rattle.wavelet.specs.Plane.{half_at, place_in, in_corner}

-- changed places of one direction, from the first to the last
pub record Span : Type 0 where
  pub first : ℕ
  pub last : ℕ

abbrev pub span : ℕ → ℕ → Span
span a b = record { first = a; last = b }

unfoldable pub changed : Span → ℕ → Bool
changed s i = both (leb s.first i) (leb i s.last)

-- "changed places a to b reach high n where 2n ≤ b and 2n+2 ≥ a, and low n where 2n−2 ≤ b and 2n+2 ≥ a"
unfoldable pub reached : Span → Half → ℕ → Bool
reached s hi n = both (leb (2 * n) s.last) (leb s.first (2 * n + 2))
reached s lo n = both (leb (2 * n) (s.last + 2)) (leb s.first (2 * n + 2))

-- "the low reach is the changed range of the next level": the least low n that is reached, and the greatest (0 − 1 is 0; `low-span` of proofs/SpanLaws)
unfoldable pub low_span : Span → Span
low_span s = span ((s.first - 1) / 2) ((s.last + 2) / 2)

-- Is the place at row r and column c of the plane in reach, s being the changed columns and t the changed rows? In the shape of `plane_cell`; where no level is
-- left, the reach is what is changed.
unfoldable pub in_reach : ℕ → Side → Side → Span → Span → ℕ → ℕ → Bool
in_reach zero W H s t r c = both (changed s c) (changed t r)
in_reach (suc L) W H s t r c =
    pick (in_corner W H r c)
    (in_reach L (next W) (next H) (low_span s) (low_span t) r c)
    (both (reached s (half_at W c) (place_in W c)) (reached t (half_at H r) (place_in H r)))
