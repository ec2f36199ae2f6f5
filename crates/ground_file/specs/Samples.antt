-- The worked cases of docs/FORMAT.md: a shape, a step, a plane and the bytes of its file.
use Rattle.std.specs.Prelude.{List, [], ◌∷◌, ℕ, ℤ, pos, neg_ℤ}
use Rattle.wavelet.specs.declared.shape.Shape.{Shape}

-- a shape at origin 0, by the 5/3
abbrev pub shaped : ℕ → ℕ → ℕ → Shape
shaped w h l = record { width = w; height = h; levels = l; x = 0; y = 0; filter = 0 }

-- rows (0, 2), (1, 1) at L = 1: the plane 2, 1, 0, −2
abbrev pub square_plane : List ℤ
square_plane = pos 2 ∷ pos 1 ∷ pos 0 ∷ neg_ℤ (pos 2) ∷ []

abbrev pub square_file : List ℕ
square_file =
    137 ∷ 71 ∷ 78 ∷ 68 ∷ 13 ∷ 10 ∷ 26 ∷ 10 ∷ 1 ∷ 0 ∷ 1 ∷ 1 ∷ 0 ∷ 0 ∷ 0 ∷ 0 ∷ 2 ∷ 0 ∷ 2 ∷ 0 ∷ 0 ∷ 0 ∷ 0 ∷ 0
    ∷ 3 ∷ 4 ∷ 2 ∷ 2 ∷ 0 ∷ 2 ∷ 3 ∷ 236 ∷ 174 ∷ 243 ∷ 99 ∷ []

-- the column 1, 4, 2, 7 at L = 2 and step 2: the plane 4, 1, 3, 5 rounded to 4, 0, 2, 4
abbrev pub column_plane : List ℤ
column_plane = pos 4 ∷ pos 0 ∷ pos 2 ∷ pos 4 ∷ []

abbrev pub column_file : List ℕ
column_file =
    137 ∷ 71 ∷ 78 ∷ 68 ∷ 13 ∷ 10 ∷ 26 ∷ 10 ∷ 1 ∷ 0 ∷ 2 ∷ 2 ∷ 0 ∷ 0 ∷ 0 ∷ 0 ∷ 1 ∷ 0 ∷ 4 ∷ 0 ∷ 0 ∷ 0 ∷ 0 ∷ 0
    ∷ 4 ∷ 8 ∷ 0 ∷ 2 ∷ 2 ∷ 3 ∷ 4 ∷ 245 ∷ 148 ∷ 56 ∷ 1 ∷ []

-- one row of 17 heights at L = 1
abbrev pub row_heights : List ℤ
row_heights =
    pos 0 ∷ pos 37 ∷ pos 148 ∷ pos 333 ∷ pos 592 ∷ pos 925 ∷ pos 332 ∷ pos 813 ∷ pos 368 ∷ pos 997 ∷ pos 700 ∷ pos 477 ∷ pos 328 ∷ pos 253 ∷ pos 252
    ∷ pos 325 ∷ pos 472 ∷ []

abbrev pub row_file : List ℕ
row_file =
    137 ∷ 71 ∷ 78 ∷ 68 ∷ 13 ∷ 10 ∷ 26 ∷ 10 ∷ 1 ∷ 0 ∷ 1 ∷ 1 ∷ 0 ∷ 0 ∷ 0 ∷ 0 ∷ 17 ∷ 0 ∷ 1 ∷ 0 ∷ 0 ∷ 0 ∷ 0 ∷ 0
    ∷ 171 ∷ 35 ∷ 32 ∷ 136 ∷ 93 ∷ 209 ∷ 8 ∷ 75 ∷ 39 ∷ 179 ∷ 137 ∷ 58 ∷ 140 ∷ 3 ∷ 10 ∷ 73 ∷ 36 ∷ 225 ∷ 185 ∷ 231 ∷ 158 ∷ 39 ∷ 145 ∷ 68 ∷ 18
    ∷ 251 ∷ 151 ∷ 211 ∷ 236 ∷ []
