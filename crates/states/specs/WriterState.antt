-- The state array of a writer: kind 1. docs/STATE.md lists its numbers.
use Rattle.std.specs.Prelude.{Bool, List, [], ◌∷◌, ℕ, eqb, get_or, set}
use Rattle.writer.specs.declared.Writer.{Writer}
use Rattle.states.specs.States.{flag, is_state}

abbrev pub is_writer : List ℕ → Bool
is_writer s = is_state 1 5 13 s

abbrev pub writer_of : List ℕ → Writer
writer_of s =
    record {
      width = get_or s 1 0;
      levels = get_or s 2 0;
      rows = get_or s 3 0;
      column = get_or s 4 0;
      finished = eqb (get_or s 5 0) 1;
      closed = get_or s 6 0;
      level = get_or s 7 0;
      left = get_or s 8 0;
      offset = get_or s 9 0;
      x = get_or s 10 0;
      y = get_or s 11 0;
      filter = get_or s 12 0;
    }

-- what an offer writes of the array, and what a draw: the other words stand there already
abbrev pub offered_words : Writer → List ℕ → List ℕ
offered_words w s = set (set (set (set (set s 3 w.rows) 4 w.column) 7 w.level) 8 w.left) 9 w.offset

abbrev pub drawn_words : Writer → List ℕ → List ℕ
drawn_words w s = set (set (set (set (set (set s 3 w.rows) 4 w.column) 6 w.closed) 7 w.level) 8 w.left) 9 w.offset

abbrev pub writer_words : Writer → List ℕ
writer_words w =
    1 ∷ w.width ∷ w.levels ∷ w.rows ∷ w.column ∷ flag w.finished ∷ w.closed ∷ w.level ∷ w.left ∷ w.offset
    ∷ w.x ∷ w.y ∷ w.filter ∷ 0 ∷ 0 ∷ 0 ∷ []
