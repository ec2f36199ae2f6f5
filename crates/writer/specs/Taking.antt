-- "An offer takes heights until a band row waits, the row limit is reached or the run is used up, and gives the number taken."
use Rattle.std.specs.Prelude.{Bool, List, [], ◌∷◌, ℕ, suc, ◌+◌, pos, ltb, eqb}
use Rattle.numbers.specs.Signal.{pick, both, stored}
use Rattle.lifting.specs.Grid.{Side, side}
use Rattle.wavelet.specs.Limits.{max_height}
use Rattle.level.specs.Level.{Memory, LevelKind}
use Rattle.analysis.specs.Forward.{kind_of}
use Rattle.writer.specs.declared.Writer.{Writer}
use Rattle.progress.specs.Counts.{start_of}
use Rattle.writer.specs.Machine.{Out, arrive}

-- the level that the writer runs, by its filter's number: what a level does, keeps and looks ahead comes from this number alone
abbrev pub kind : Writer → LevelKind
kind s = kind_of s.filter

-- the writer's columns, where they start and how many they are
abbrev pub columns_of : Writer → Side
columns_of s = side s.x s.width

-- how many were taken, and the writer and the store then
pub record Taking : Type 0 where
  pub taken : ℕ
  pub writer : Writer
  pub store : Memory

abbrev pub none : Writer → Memory → Taking
none s x = record { taken = 0; writer = s; store = x }

abbrev pub one_more : Taking → Taking
one_more t = record { taken = suc t.taken; writer = t.writer; store = t.store }

-- no row waits, and the limit is not reached
unfoldable pub takes : Writer → Bool
takes s = both (eqb s.level 0) (ltb s.rows max_height)

-- the row begun has a height more; the writer at column c of its row; the row is complete, and o is what it makes
abbrev pub begun : Writer → Writer
begun s = record {
  x = s.x;
  y = s.y;
  width = s.width;
  levels = s.levels;
  rows = s.rows;
  column = s.column + 1;
  finished = s.finished;
  closed = s.closed;
  level = s.level;
  left = s.left;
  offset = s.offset;
  filter = s.filter;
}

abbrev pub at_column : Writer → ℕ → Writer
at_column s c = record {
  x = s.x;
  y = s.y;
  width = s.width;
  levels = s.levels;
  rows = s.rows;
  column = c;
  finished = s.finished;
  closed = s.closed;
  level = s.level;
  left = s.left;
  offset = s.offset;
  filter = s.filter;
}

abbrev pub complete : Writer → Out → Writer
complete s o = record {
  x = s.x;
  y = s.y;
  width = s.width;
  levels = s.levels;
  rows = s.rows + 1;
  column = 0;
  finished = s.finished;
  closed = s.closed;
  level = o.level;
  left = o.left;
  offset = start_of s.filter (columns_of s) o.level;
  filter = s.filter;
}

module _ (K : LevelKind) where
  -- height h is put into its place
  abbrev pub height_put : ℕ → Writer → Memory → Memory
  height_put h s x = stored (K.cell (columns_of s) s.y s.rows s.column) (pos h) x

  -- what the row makes that it completes
  abbrev pub row_makes : Writer → Memory → Out
  row_makes s x = arrive K s.levels (columns_of s) s.y s.rows x

  -- one height after the other
  unfoldable pub offering : List ℕ → Writer → Memory → Taking
  offering [] s x = none s x
  offering (h ∷ run) s x =
      pick (takes s)
      (one_more
      (pick (ltb (s.column + 1) s.width)
      (offering run (begun s) (height_put h s x))
      (offering run (complete s (row_makes s (height_put h s x))) (row_makes s (height_put h s x)).store)))
      (none s x)
