-- A row changed by four others, in an area whose rows are those of `lifting` (Rows): row t is the w numbers from place t * s on.
use Rattle.std.specs.Prelude.{Bool, ℕ, ◌+◌, ◌-◌, ◌*◌, ℤ, leb, ltb}
use Rattle.numbers.specs.Signal.{pick, both}
use Rattle.lifting.specs.Rows.{row_fits, rows_fit}

-- row t and the four others lie within n numbers
unfoldable pub five_fit : ℕ → ℕ → ℕ → ℕ → ℕ → ℕ → ℕ → ℕ → Bool
five_fit n s w t a b c e = both (rows_fit n s w t a b) (both (row_fits n s w c) (row_fits n s w e))

-- row t changed by f of its own number and those of rows a, b, c and e; every other place as it was
unfoldable pub row_by : (ℤ → ℤ → ℤ → ℤ → ℤ → ℤ) → ℕ → ℕ → ℕ → ℕ → ℕ → ℕ → ℕ → (ℕ → ℤ) → ℕ → ℤ
row_by f s w t a b c e x j =
    pick (leb (t * s) j)
    (pick (ltb j (t * s + w))
    (f (x j) (x (a * s + (j - t * s))) (x (b * s + (j - t * s))) (x (c * s + (j - t * s))) (x (e * s + (j - t * s)))) (x j))
    (x j)

-- the same where the rows fit in n numbers; nothing changed where they do not
unfoldable pub rows_by : (ℤ → ℤ → ℤ → ℤ → ℤ → ℤ) → ℕ → ℕ → ℕ → ℕ → ℕ → ℕ → ℕ → ℕ → (ℕ → ℤ) → ℕ → ℤ
rows_by f n s w t a b c e x = pick (five_fit n s w t a b c e) (row_by f s w t a b c e x) x
