-- The state array of a reader: kind 2. docs/STATE.md lists its numbers.
use Rattle.std.specs.Prelude.{Bool, List, [], ◌∷◌, ℕ, eqb, get_or, set}
use Rattle.reader.specs.declared.Reader.{Reader}
use Rattle.states.specs.States.{flag, is_state}

abbrev pub is_reader : List ℕ → Bool
is_reader s = is_state 2 7 15 s

abbrev pub reader_of : List ℕ → Reader
reader_of s =
    record {
      width = get_or s 1 0;
      height = get_or s 2 0;
      levels = get_or s 3 0;
      drawn = get_or s 4 0;
      level = get_or s 5 0;
      band = get_or s 6 0;
      ended = eqb (get_or s 7 0) 1;
      x = get_or s 8 0;
      y = get_or s 9 0;
      back = get_or s 10 0;
      filter = get_or s 11 0;
      stop = get_or s 12 0;
      spare = get_or s 13 0;
      admission = get_or s 14 0;
    }

-- what a feed or a draw that passes writes of the array: its reader is not ended, and the other words stand there already
abbrev pub moved_words : Reader → List ℕ → List ℕ
moved_words r s = set (set (set (set (set s 4 r.drawn) 5 r.level) 6 r.band) 7 0) 10 r.back

abbrev pub reader_words : Reader → List ℕ
reader_words r =
    2 ∷ r.width ∷ r.height ∷ r.levels ∷ r.drawn ∷ r.level ∷ r.band ∷ flag r.ended
    ∷ r.x ∷ r.y ∷ r.back ∷ r.filter ∷ r.stop ∷ r.spare ∷ r.admission ∷ 0 ∷ []
