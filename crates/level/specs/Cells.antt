-- Where the numbers of a row in halves stand: its even coordinates first.
use Rattle.std.specs.Prelude.{ℕ, ◌+◌, ◌/◌, ◌%◌, eqb}
use Rattle.numbers.specs.Signal.{pick}
use Rattle.lifting.specs.Line.{lo}
use Rattle.lifting.specs.Grid.{Side, count}

-- column c of a row of the columns W, counted from where the row begins (`row_place` of Stretch: of any number of rows)
unfoldable pub spot : Side → ℕ → ℕ
spot W c = pick (eqb ((W.start % 2 + c) % 2) 0) (c / 2) (count lo W + c / 2)
