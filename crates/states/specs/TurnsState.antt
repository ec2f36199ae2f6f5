-- The state array of a turn-giver, kind 3, and the answers of its calls in the caller's numbers. docs/STATE.md lists the array's numbers.
use Rattle.std.specs.Prelude.{Bool, List, [], ◌∷◌, ℕ, eqb, get_or}
use Rattle.numbers.specs.Signal.{both}
use Rattle.calls.specs.Lists.{Reply, gives, refused}
use Rattle.turns.specs.declared.Turns.{Turns}
use Rattle.turns.specs.Marks.{readers}
use Rattle.turns.specs.Answers.{Given, a_reader, nothing}

unfoldable pub is_turns : List ℕ → Bool
is_turns s = both (eqb (get_or s 0 0) 3) (eqb (get_or s 3 0) 0)

abbrev pub turns_of : List ℕ → Turns
turns_of s = record { marks = get_or s 1 0; last = get_or s 2 0 }

abbrev pub turns_words : Turns → List ℕ
turns_words t = 3 ∷ t.marks ∷ t.last ∷ 0 ∷ []

-- ---- mark and clear; s is what the array held
abbrev pub changed_words : Reply Turns → List ℕ → List ℕ
changed_words (gives t) s = turns_words t
changed_words (refused q) s = s

-- ---- a turn
abbrev pub turn_words : Reply Given → List ℕ → List ℕ
turn_words (gives (a_reader n t)) s = turns_words t
turn_words (gives nothing) s = s
turn_words (refused q) s = s

-- the reader, 16 for Nothing; z is what the out-parameter held
abbrev pub reader_of : Reply Given → ℕ → ℕ
reader_of (gives (a_reader n t)) z = n
reader_of (gives nothing) z = readers
reader_of (refused q) z = z
