-- What the answers of a reader's feeds and draws are in the caller's numbers: the state array and the out-parameter. The number answered is `reader`'s.
use Rattle.std.specs.Prelude.{List, [], ◌∷◌, ℕ}
use Rattle.reader.specs.declared.Reader.{Reader}
use Rattle.reader.specs.Answers.{Reply, gives, refused, impossible, Handed, a_row, nothing}
use Rattle.numbers.specs.Signal.{pick}
use Rattle.calls.specs.Lists as lists
use Rattle.reader.specs.Runs.{Progress}
use Rattle.states.specs.ReaderState.{moved_words, reader_words}

-- ---- feed; s is what the array held. 14 leaves the ended reader
abbrev pub fed_words : Reply Reader → List ℕ → List ℕ
fed_words (gives r) s = moved_words r s
fed_words (refused q) s = s
fed_words (impossible r) s = reader_words r

-- ---- draw
abbrev pub handed_words : Reply Handed → List ℕ → List ℕ
handed_words (gives (a_row n r)) s = moved_words r s
handed_words (gives nothing) s = s
handed_words (refused q) s = s
handed_words (impossible r) s = reader_words r

-- how many heights, 0 for Nothing; z is what the out-parameter held
abbrev pub count_of : Reply Handed → ℕ → ℕ
count_of (gives (a_row n r)) z = n
count_of (gives nothing) z = 0
count_of (refused q) z = z
count_of (impossible r) z = z

-- ---- a run: the number answered, 14 where it ended the reader; the array; the numbers used and the rows drawn
abbrev pub ran_number : lists.Reply Progress → ℕ
ran_number (lists.gives p) = pick p.reader.ended 14 0
ran_number (lists.refused q) = q

abbrev pub ran_words : lists.Reply Progress → List ℕ → List ℕ
ran_words (lists.gives p) s = reader_words p.reader
ran_words (lists.refused q) s = s

abbrev pub counts_of : lists.Reply Progress → List ℕ → List ℕ
counts_of (lists.gives p) z = p.used ∷ p.rows ∷ []
counts_of (lists.refused q) z = z
