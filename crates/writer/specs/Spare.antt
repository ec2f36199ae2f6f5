-- The spare row. Document 02, Q-2: "heights go to one more row of W numbers right after the levels' stretches, until that row is complete". While band rows
-- wait no row is begun, and `column` counts the heights that stand there.
use Rattle.std.specs.Prelude.{List, ℕ, zero, suc, ◌+◌, ◌-◌, ◌%◌, min, ltb, length}
use Rattle.numbers.specs.Signal.{pick, spliced}
use Rattle.level.specs.Level.{Memory}
use Rattle.level.specs.Heights.{height_at}
use Rattle.filters.specs.Figures.{store_by}
use Rattle.analysis.specs.Forward.{heights_put}
use Rattle.writer.specs.declared.Writer.{Writer}
use Rattle.writer.specs.Taking.{kind, columns_of, Taking, none, at_column, complete, row_makes}

-- where it begins
abbrev pub spare_at : Writer → ℕ
spare_at s = store_by s.filter (columns_of s) s.levels

-- ---- an offer while rows wait takes the heights that it has room for, of k
abbrev pub spare_room : Writer → ℕ → ℕ
spare_room s k = min (s.width - s.column) k

unfoldable pub holding : List ℕ → Writer → Memory → Taking
holding run s x = record {
  taken = spare_room s (length run);
  writer = at_column s (s.column + spare_room s (length run));
  store = spliced (spare_at s + s.column) (spare_room s (length run)) (height_at run) x;
}

-- ---- "The draw that empties the wait moves that row's heights on": s is the writer after it, and they become the first of the row begun
abbrev pub moved_row : Writer → Memory → Memory
moved_row s x = heights_put s.filter (columns_of s) (s.y % 2 + s.rows) 0 s.column (λ j. x (spare_at s + j)) x

-- where they complete it, what that makes
unfoldable pub moving : Writer → Memory → Taking
moving s x =
    pick (ltb s.column s.width)
    (record { taken = s.column; writer = s; store = moved_row s x })
    (record {
      taken = s.column;
      writer = complete s (row_makes (kind s) s (moved_row s x));
      store = (row_makes (kind s) s (moved_row s x)).store;
    })

-- v is the writer's level: 0, and nothing waits
unfoldable pub moved_on : ℕ → Writer → Memory → Taking
moved_on zero s x = moving s x
moved_on (suc v) s x = none s x
