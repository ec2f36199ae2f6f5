-- A value as it is drawn. Document 02, Q-6: "each value limited to 0 to 65,535", of a reader with a stop; document 01: without one "a made height row is then
-- drawn modulo 65,536".
use Rattle.std.specs.Prelude.{ℕ, zero, suc, min, ℤ, pos, negsuc}
use Rattle.wavelet.specs.Limits.{max_sample}
use Rattle.areas.specs.Areas.{height16}

unfoldable pub limited : ℤ → ℤ
limited (pos n) = pos (min n max_sample)
limited (negsuc n) = pos 0

-- by the stop, 0 for none: what is drawn of a number in the store,
abbrev pub shown : ℕ → ℤ → ℤ
shown zero v = height16 v
shown (suc b) v = limited v

-- and of a value that fits: a height is drawn as it is
abbrev pub drawn_as : ℕ → ℤ → ℤ
drawn_as zero v = v
drawn_as (suc b) v = limited v
