-- What 32 bits keep of a whole number. Document 01: "Sums are taken over whole numbers and stored modulo 2^32 as signed."
use Rattle.std.specs.Prelude.{ℤ, pos, ◌+ℤ◌, ◌-ℤ◌, ◌*ℤ◌}
use Rattle.std.specs.Int.Signed.{shr_z}

-- z modulo 2^32, from −2^31 up to 2^31 − 1: z less the multiple of 2^32 that brings it there (`shr_z` divides and rounds down)
unfoldable pub wrap32 : ℤ → ℤ
wrap32 z = z -ℤ pos 4294967296 *ℤ shr_z (z +ℤ pos 2147483648) 4294967296

-- a number kept whole: what T.800 itself does
abbrev pub whole : ℤ → ℤ
whole z = z
