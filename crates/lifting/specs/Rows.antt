-- Rows in one area: row t is the w numbers from place t * s on, s being the stride. A row call changes row t, number by number, by what stands in the same
-- columns of rows l and r.
use Rattle.std.specs.Prelude.{Bool, ℕ, ◌+◌, ◌-◌, ◌*◌, ℤ, leb, ltb}
use Rattle.numbers.specs.Signal.{pick, both}

-- row t lies within n numbers, and rows do not overlap
unfoldable pub row_fits : ℕ → ℕ → ℕ → ℕ → Bool
row_fits n s w t = both (leb w s) (leb (t * s + w) n)

unfoldable pub rows_fit : ℕ → ℕ → ℕ → ℕ → ℕ → ℕ → Bool
rows_fit n s w t l r = both (row_fits n s w t) (both (row_fits n s w l) (row_fits n s w r))

-- row t changed by f of its own number and those of rows l and r; every other place as it was
unfoldable pub row_changed : (ℤ → ℤ → ℤ → ℤ) → ℕ → ℕ → ℕ → ℕ → ℕ → (ℕ → ℤ) → ℕ → ℤ
row_changed f s w t l r x j =
    pick (leb (t * s) j)
    (pick (ltb j (t * s + w)) (f (x j) (x (l * s + (j - t * s))) (x (r * s + (j - t * s)))) (x j))
    (x j)

-- the same where the rows fit in n numbers; nothing changed where they do not
unfoldable pub rows_changed : (ℤ → ℤ → ℤ → ℤ) → ℕ → ℕ → ℕ → ℕ → ℕ → ℕ → (ℕ → ℤ) → ℕ → ℤ
rows_changed f n s w t l r x = pick (rows_fit n s w t l r) (row_changed f s w t l r x) x
