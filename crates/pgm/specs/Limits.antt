-- What is read as a picture, each limit said once.
use Rattle.std.specs.Prelude.{Bool, ℕ, leb}
use Rattle.numbers.specs.Signal.{both}

-- Netpbm: the largest number of a header, "less than 65536"
unfoldable pub max_field : ℕ
max_field = 65535

-- document 01, question 15: "width 1 to 1,025, height 1 to 65,535"
unfoldable pub max_picture_width : ℕ
max_picture_width = 1025

unfoldable pub max_picture_height : ℕ
max_picture_height = 65535

-- is n from 1 to `most`?
unfoldable pub up_to : ℕ → ℕ → Bool
up_to most n = both (leb 1 n) (leb n most)

unfoldable pub size_fits : ℕ → ℕ → Bool
size_fits W H = both (up_to max_picture_width W) (up_to max_picture_height H)
