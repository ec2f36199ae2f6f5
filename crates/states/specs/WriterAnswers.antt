-- What the answers of a writer's offers and draws are in the caller's numbers: the number answered, the state array and the out-parameter.
use Rattle.std.specs.Prelude.{List, [], ◌∷◌, ℕ}
use Rattle.calls.specs.Lists.{Reply, gives, refused}
use Rattle.writer.specs.Answers.{Took, Handed, a_row, nothing}
use Rattle.writer.specs.Runs.{Progress}
use Rattle.states.specs.WriterState.{writer_words, offered_words, drawn_words}

-- 0, or the number of the question that turned the call away
abbrev pub number : {A : Type 0} → Reply A → ℕ
number (gives a) = 0
number (refused q) = q

-- ---- offer; s is what the array held, z what the out-parameter
abbrev pub took_words : Reply Took → List ℕ → List ℕ
took_words (gives t) s = offered_words t.writer s
took_words (refused q) s = s

abbrev pub taken_of : Reply Took → ℕ → ℕ
taken_of (gives t) z = t.taken
taken_of (refused q) z = z

-- ---- draw
abbrev pub handed_words : Reply Handed → List ℕ → List ℕ
handed_words (gives (a_row r w)) s = drawn_words w s
handed_words (gives nothing) s = s
handed_words (refused q) s = s

-- level, band, row and length; Nothing is all zeros
abbrev pub row_of : Reply Handed → List ℕ → List ℕ
row_of (gives (a_row r w)) z = r.level ∷ r.band ∷ r.row ∷ r.length ∷ []
row_of (gives nothing) z = 0 ∷ 0 ∷ 0 ∷ 0 ∷ []
row_of (refused q) z = z

-- ---- a run: the array, and the heights taken, the rows put and the numbers put
abbrev pub ran_words : Reply Progress → List ℕ → List ℕ
ran_words (gives p) s = writer_words p.writer
ran_words (refused q) s = s

abbrev pub counts_of : Reply Progress → List ℕ → List ℕ
counts_of (gives p) z = p.taken ∷ p.rows ∷ p.numbers ∷ []
counts_of (refused q) z = z
