-- The gate questions of the writer's calls, in the order of document 01: 0, or the number of the first that says no. n is the length of the line store.
use Rattle.std.specs.Prelude.{Bool, true, not, ℕ, zero, suc, ◌+◌, ◌-◌, ◌*◌, ◌/◌, leb, ltb, eqb}
use Rattle.numbers.specs.Signal.{pick, both}
use Rattle.wavelet.specs.Limits.{max_width, max_height, max_origin}
use Rattle.wavelet.specs.Questions.{ask, within}
use Rattle.lifting.specs.Grid.{Side}
use Rattle.filters.specs.Filters.{filter_of, is_filter}
use Rattle.filters.specs.Figures.{writer_store_by, streamable}
use Rattle.writer.specs.declared.Writer.{Writer}
use Rattle.progress.specs.Counts.{most_left, start_of}
use Rattle.writer.specs.Draws.{Waiting, waiting}
use Rattle.writer.specs.Taking.{kind, columns_of}

abbrev pub either : Bool → Bool → Bool
either a b = pick a true b

-- a map starts at coordinates of the grid
abbrev pub on_grid : ℕ → ℕ → Bool
on_grid x y = both (leb x max_origin) (leb y max_origin)

-- `column` counts the heights of the row begun, fewer than it has; while band rows wait (v, the writer's level, is above 0), those of the spare row, of
-- which there is none where no height can come
unfoldable pub most_column : Writer → ℕ → ℕ
most_column s zero = s.width - 1
most_column s (suc v) = pick (both (not s.finished) (ltb s.rows max_height)) s.width 0

-- 1: "Is every count in the state inside its range, as docs/ lists them?" docs/STATE.md lists them;
-- "a state reached by calls always passes"
unfoldable pub in_ranges : Writer → Bool
in_ranges s =
    both (on_grid s.x s.y)
    (both (streamable s.filter (columns_of s) s.levels)
    (both (leb s.rows max_height)
    (both (leb s.column (most_column s s.level))
    (both (leb s.closed ((filter_of s.filter).ahead * s.levels))
    (both (leb s.level s.levels)
    (both (leb s.left (most_left s.levels s.level))
    (eqb s.offset (start_of s.filter (columns_of s) s.level))))))))

-- 5, of a stream: "Is each line store .. long enough?", where "an offered run, a fed run and a draw's output area are none of these"
unfoldable pub long_enough : ℕ → Writer → Bool
long_enough n s = leb (writer_store_by s.filter (columns_of s) s.levels) n

-- the row that waits
abbrev pub waiting_row : Writer → Waiting
waiting_row s = waiting (kind s) s.levels (columns_of s) s.y s.closed s.level s.left s.rows

-- question 18 of a set-up
abbrev pub known : ℕ → Bool
known f = is_filter f

-- of the filter of number f, the columns W and L levels. Document 02, Q-8: "Refused: 18, before 4, if the filter is unknown."
unfoldable pub set_up_question : ℕ → Side → ℕ → ℕ → ℕ
set_up_question f W L n =
    ask (within 1 max_width W.length) 2
    (ask (known f) 18
    (ask (within 1 (filter_of f).levels L) 4
    (ask (leb (writer_store_by f W L) n) 5
    0)))

-- the rows complete. Document 02, Q-2: "For number 10 they count as moved", the heights of the spare row
abbrev pub rows_taken : Writer → ℕ
rows_taken s = s.rows + s.column / s.width

-- an offer of k heights: 9, "Offer and finish: not finished yet?"; 10, "Offer of at least one height: are fewer than 65,535 rows complete?" (Q-5 has
-- the limit). Q-2: "Question 8 no longer turns an offer away"
unfoldable pub offer_question : Writer → ℕ → ℕ → ℕ
offer_question s n k =
    ask (in_ranges s) 1
    (ask (long_enough n s) 5
    (ask (not s.finished) 9
    (ask (either (eqb k 0) (ltb (rows_taken s) max_height)) 10
    0)))

-- a draw into an area of k numbers: 12, "Draw with a row to give: does the output area hold it?"
unfoldable pub draw_question : Writer → ℕ → ℕ → ℕ
draw_question s n k =
    ask (in_ranges s) 1
    (ask (long_enough n s) 5
    (ask (either (eqb s.level 0) (leb (waiting_row s).length k)) 12
    0))

-- a look at what waits
unfoldable pub waits_question : Writer → ℕ
waits_question s = ask (in_ranges s) 1 0

-- 9, "Offer and finish: not finished yet?", "asked before 8", "Offer and finish: does no row wait?"; 11, "Finish: is there a row, and none begun?"
unfoldable pub finish_question : Writer → ℕ → ℕ
finish_question s n =
    ask (in_ranges s) 1
    (ask (long_enough n s) 5
    (ask (not s.finished) 9
    (ask (eqb s.level 0) 8
    (ask (both (ltb 0 s.rows) (eqb s.column 0)) 11
    0))))
