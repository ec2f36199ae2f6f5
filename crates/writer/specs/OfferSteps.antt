-- An offer as the code takes it: a stretch of a row at a time. Private functions alone cite this.
use Rattle.std.specs.Prelude.{◌≡◌, List, ℕ, ◌+◌, ◌-◌, ◌%◌, ◌<◌, min, ℤ}
use Rattle.numbers.specs.Signal.{pick}
use Rattle.level.specs.Level.{Memory}
use Rattle.level.specs.Heights.{height_at}
use Rattle.analysis.specs.Forward.{heights_put}
use Rattle.writer.specs.declared.Writer.{Writer}
use Rattle.writer.specs.Taking.{kind, columns_of, takes, at_column, complete, row_makes}
use Rattle.writer.specs.Steps.{Room}

-- how many heights the next stretch has, of k that are left: to the end of the row, 0 where the writer takes none
unfoldable pub next_count : Writer → ℕ → ℕ
next_count s k = pick (takes s) (min (s.width - s.column) k) 0

-- a writer whose rows have columns and whose levels are some, with a store of n numbers
pub record Roomy (s : Writer) (n : ℕ) : Type 0 where
  pub room : Room s.filter s.levels (columns_of s) s.rows n
  pub wide : 0 < s.width
  pub deep : 0 < s.levels

-- a writer that can take a height, with a store of n numbers
pub record Taker (s : Writer) (n : ℕ) : Type 0 where
  pub room : Room s.filter s.levels (columns_of s) s.rows n
  pub column : s.column < s.width
  pub deep : 0 < s.levels

-- the first c heights of its row stand in the store x: what that comes to, the writer r and the store y, of l numbers
pub record Reaching (s : Writer) (c : ℕ) (x : Memory) (r : Writer) (y : Memory) (l : ℕ) : Type 0 where
  pub inside : c < s.width → (r ≡ at_column s c) × (y ≡ x)
  pub whole : c ≡ s.width → (r ≡ complete s (row_makes (kind s) s x)) × (y ≡ (row_makes (kind s) s x).store)
  pub taker : Taker r l

-- the store with n heights h more in the row of a writer
abbrev pub filled : Writer → ℕ → (ℕ → ℤ) → Memory → Memory
filled s n h x = heights_put s.filter (columns_of s) (s.y % 2 + s.rows) s.column n h x

-- a stretch of n heights of a run, from height k on, was taken: the writer r and the store y, of l numbers
pub record HeightsTaken (s : Writer) (run : List ℕ) (k n : ℕ) (x : Memory) (r : Writer) (y : Memory) (l : ℕ) : Type 0 where
  pub reaching : Reaching s (s.column + n) (filled s n (λ j. height_at run (k + j)) x) r y l
