-- Maps at origin 0 and the planes they have: what demand 2 speaks of.
use Rattle.std.specs.Prelude.{◌≡◌, Bool, true, ℕ, zero, suc, ◌<◌, nat_abs, leb}
use Rattle.numbers.specs.Signal.{both}
use Rattle.numbers.specs.Word.{whole, wrap32}
use Rattle.lifting.specs.Line.{lo, count}
use Rattle.lifting.specs.FiveThree.{five_three_filter}
use Rattle.wavelet.specs.Limits.{range}
use Rattle.wavelet.specs.Bands.{Grid}
use Rattle.wavelet.specs.Maps.{IsMap, every_cell, value_fits}
use Rattle.standard.specs.ZeroPlane.{plane_cell, level_at, map_back}

-- plane x is that map's, at L levels: T.800's whole numbers, at every place
pub record HasPlane (L W H : ℕ) (g x : Grid) : Type 0 where
  pub map : IsMap W H g
  pub coefficients : (r c : ℕ) → r < H → c < W → x r c ≡ plane_cell whole L W H g r c

-- question 7: "Is each coefficient in its level's range?"
unfoldable pub in-range : ℕ → ℕ → ℕ → Grid → Bool
in-range L W H x = every_cell W H (λ r c. leb (nat_abs (x r c)) (range five_three_filter (level_at L W H r c)))

-- question 14: "Do all rebuilt values fit: heights 0 to 65,535, LL values of level k in that level's range?"
-- k is the level that the rebuilt W × H grid is the low-low part of, 0 for the map
unfoldable pub rebuilt_fits : ℕ → ℕ → ℕ → ℕ → Grid → Bool
rebuilt_fits k zero W H x = true
rebuilt_fits k (suc L) W H x =
    both (rebuilt_fits (suc k) L (count lo W) (count lo H) x)
    (every_cell W H (λ r c. value_fits five_three_filter k (map_back wrap32 (suc L) W H x r c)))
