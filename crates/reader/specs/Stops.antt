-- A reader that stops at level j. Document 02, Q-6: "A reader may be set up to stop at level j, 1 to L. It hands out the rows of LL at level j, each value
-- limited
-- to 0 to 65,535, and never wants a row of level j or finer, except LL when j = L."
-- It is the reader of that low-low part: its columns and rows, L − j levels, level j's range in the place of 0 to 65,535 where 14 is asked. Its store is the
-- whole map's. Where no level is left, or no number, it hands on the LL rows fed (Last).
use Rattle.std.specs.Prelude.{ℕ, ◌-◌, Bool, false, ltb, eqb, Result, Ok, Err}
use Rattle.numbers.specs.Signal.{pick, both}
use Rattle.lifting.specs.Grid.{Side}
use Rattle.wavelet.specs.Levels.{side_at}
use Rattle.filters.specs.Figures.{store_by}
use Rattle.calls.specs.Lists as lists
use Rattle.reader_steps.specs.Places.{has_cells}
use Rattle.reader.specs.declared.Reader.{Reader}
use Rattle.reader.specs.declared.stops.LevelSize.{LevelSize}
use Rattle.refusal.specs.declared.Refusal.{Refusal}
use Rattle.refusal.specs.Numbers.{number}
use Rattle.reader.specs.Answers.{Reply, gives, refused}
use Rattle.reader.specs.Calls.{fresh_over}

-- the fresh reader of the columns W and the rows H of level j where no level is to be worked out; with no column there is no row. e numbers are spare.
unfoldable pub last_at : ℕ → ℕ → ℕ → Side → Side → Reader
last_at f j e W H = record {
  width = W.length;
  height = pick (eqb W.length 0) 0 H.length;
  levels = 0;
  x = W.start;
  y = H.start;
  drawn = 0;
  level = 0;
  back = 0;
  band = 0;
  ended = false;
  filter = f;
  stop = j;
  spare = e;
  admission = 0;
}

-- of the map of the columns W and the rows H at L levels: are there levels to work out, and the numbers that the levels before level j have of its store
unfoldable pub works : Side → Side → ℕ → ℕ → Bool
works W H L j = both (ltb j L) (has_cells (side_at j W) (side_at j H))

unfoldable pub left : ℕ → Side → ℕ → ℕ → ℕ
left f W L j = store_by f W L - store_by f (side_at j W) (L - j)

unfoldable pub fresh_at : ℕ → Side → Side → ℕ → ℕ → Reader
fresh_at f W H L j =
    pick (works W H L j)
    (fresh_over f j (left f W L j) (side_at j W) (side_at j H) (L - j))
    (last_at f j (store_by f W L) (side_at j W) (side_at j H))

-- what the set-up answers, q being the number of the question that turned it away; the store is left as by a set-up of the whole map
unfoldable pub stop_reply : ℕ → Side → Side → ℕ → ℕ → ℕ → Reply Reader
stop_reply f W H L j q = pick (eqb q 0) (gives (fresh_at f W H L j)) (refused q)

-- ---- the size of level k: columns and rows of its low-low part
abbrev pub of_level_size : Result LevelSize Refusal → lists.Reply (ℕ × ℕ)
of_level_size (Ok s) = lists.gives (s.columns, s.rows)
of_level_size (Err r) = lists.refused (number r)

unfoldable pub size_reply : Side → Side → ℕ → ℕ → lists.Reply (ℕ × ℕ)
size_reply W H k q = pick (eqb q 0) (lists.gives ((side_at k W).length, (side_at k H).length)) (lists.refused q)
