-- The bytes of a header.
use Rattle.std.specs.Prelude.{Bool, true, ℕ, ◌-◌, leb, eqb}
use Rattle.numbers.specs.Signal.{pick, both}

-- "Whitespace is space, TAB, CR or LF"
unfoldable pub space : ℕ → Bool
space b = pick (eqb b 32) true (pick (eqb b 9) true (pick (eqb b 13) true (eqb b 10)))

-- CR or LF: a comment ends with it
unfoldable pub line_end : ℕ → Bool
line_end b = pick (eqb b 13) true (eqb b 10)

-- 0 to 9
unfoldable pub digit : ℕ → Bool
digit b = both (leb 48 b) (leb b 57)

-- 0 of a byte below the digits
abbrev pub digit_value : ℕ → ℕ
digit_value b = b - 48
