-- A pair of rows lifted along the columns: row h, a high row, predicted by rows l and r, the low rows on both sides of it, and then row l updated by row b,
-- the high row before, and by row h. Rows are those of `Rows`: row t is the w numbers from place t * s on.
use Rattle.std.specs.Prelude.{◌≡◌, Bool, false, ℕ, zero, suc, ◌+◌, ◌<◌, ◌*◌, ℤ, eqb}
use Rattle.numbers.specs.Signal.{pick, both, stored}
use Rattle.numbers.specs.Tests.{every}
use Rattle.numbers.specs.Word.{wrap32}
use Rattle.lifting.specs.Line.{predicted, updated, unpredicted, unupdated}
use Rattle.lifting.specs.Ranges.{within}
use Rattle.lifting.specs.Rows.{row_fits, rows_fit, row_changed}

-- the four rows lie within n numbers, and rows h and l are two; any others may be the same
unfoldable pub pair_fits : ℕ → ℕ → ℕ → ℕ → ℕ → ℕ → ℕ → Bool
pair_fits n s w h l r b = pick (eqb l h) false (both (rows_fit n s w h l r) (row_fits n s w b))

unfoldable pub pair_lifted : ℕ → ℕ → ℕ → ℕ → ℕ → ℕ → (ℕ → ℤ) → ℕ → ℤ
pair_lifted s w h l r b x = row_changed (updated wrap32) s w l b h (row_changed (predicted wrap32) s w h l r x)

-- the same, and row h copied to row b: each number becomes that of row h
abbrev pub first : ℤ → ℤ → ℤ → ℤ
first v a b = a

unfoldable pub pair_copied : ℕ → ℕ → ℕ → ℕ → ℕ → ℕ → (ℕ → ℤ) → ℕ → ℤ
pair_copied s w h l r b x = row_changed first s w b h h (pair_lifted s w h l r b x)

-- the way back: row l, a low row, without its update by rows h and r, the high rows on both sides of it, and then row h, the high row before it, without its
-- prediction by row b, the low row before, and by row l
unfoldable pub pair_unlifted : ℕ → ℕ → ℕ → ℕ → ℕ → ℕ → (ℕ → ℤ) → ℕ → ℤ
pair_unlifted s w h l r b x = row_changed (unpredicted wrap32) s w h b l (row_changed (unupdated wrap32) s w l h r x)

-- every number of rows h and l lies from `least` to `most`
unfoldable pub pair_within : ℤ → ℤ → ℕ → ℕ → ℕ → ℕ → (ℕ → ℤ) → Bool
pair_within least most s w h l x = every w (λ i. both (within least most (x (l * s + i))) (within least most (x (h * s + i))))

-- ---- one column, at its places in these rows. Private functions alone cite this.
-- the four places lie within n numbers, and those that are changed are two
abbrev pub column_in : ℕ → ℕ → ℕ → ℕ → ℕ → Type 0
column_in n h l r b = (h < n) × (l < n) × (r < n) × (b < n) × (l ≡ h → ⊥)

-- the number at place t changed by f of itself and those at places l and r
abbrev pub changed_at : (ℤ → ℤ → ℤ → ℤ) → ℕ → ℕ → ℕ → (ℕ → ℤ) → ℕ → ℤ
changed_at f t l r x = stored t (f (x t) (x l) (x r)) x

abbrev pub lifted_at : ℕ → ℕ → ℕ → ℕ → (ℕ → ℤ) → ℕ → ℤ
lifted_at h l r b x = changed_at (updated wrap32) l b h (changed_at (predicted wrap32) h l r x)

-- and the high number copied to place b
abbrev pub copied_at : ℕ → ℕ → ℕ → ℕ → (ℕ → ℤ) → ℕ → ℤ
copied_at h l r b x = changed_at first b h h (lifted_at h l r b x)

abbrev pub unlifted_at : ℕ → ℕ → ℕ → ℕ → (ℕ → ℤ) → ℕ → ℤ
unlifted_at h l r b x = changed_at (unpredicted wrap32) h b l (changed_at (unupdated wrap32) l h r x)

-- the first i columns, each at its places by f, the one after the other
unfoldable pub each_column : (ℕ → ℕ → ℕ → ℕ → (ℕ → ℤ) → ℕ → ℤ) → ℕ → ℕ → ℕ → ℕ → ℕ → ℕ → (ℕ → ℤ) → ℕ → ℤ
each_column f s zero h l r b x = x
each_column f s (suc i) h l r b x = f (h * s + i) (l * s + i) (r * s + i) (b * s + i) (each_column f s i h l r b x)
