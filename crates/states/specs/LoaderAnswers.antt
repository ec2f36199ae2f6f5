-- What the answers of a loader's taking calls and draws are in the caller's numbers: the number answered, the state array and the out-parameter.
use Rattle.std.specs.Prelude.{List, ℕ}
use Rattle.ground_loader.specs.Loader.{Answer, passed, impossible, turned}
use Rattle.ground_loader.specs.LoaderAnswers.{Reply, gives, refused, ends, Handed, a_row, nothing}
use Rattle.states.specs.LoaderState.{loader_words}

-- ---- a taking call: the number answered, the array and how many bytes were taken; s is what the array held, z what the out-parameter
abbrev pub taken_number : Answer → ℕ
taken_number (passed k l) = 0
taken_number (impossible k l) = 14
taken_number (turned q) = q

abbrev pub loaded_words : Answer → List ℕ → List ℕ
loaded_words (passed k l) s = loader_words l
loaded_words (impossible k l) s = loader_words l
loaded_words (turned q) s = s

abbrev pub taken_of : Answer → ℕ → ℕ
taken_of (passed k l) z = k
taken_of (impossible k l) z = k
taken_of (turned q) z = z

-- ---- a draw
abbrev pub drawn_number : Reply Handed → ℕ
drawn_number (gives h) = 0
drawn_number (refused q) = q
drawn_number (ends l) = 14

abbrev pub drawn_words : Reply Handed → List ℕ → List ℕ
drawn_words (gives (a_row n l)) s = loader_words l
drawn_words (gives nothing) s = s
drawn_words (refused q) s = s
drawn_words (ends l) s = loader_words l

abbrev pub drawn_of : Reply Handed → ℕ → ℕ
drawn_of (gives (a_row n l)) z = n
drawn_of (gives nothing) z = 0
drawn_of (refused q) z = z
drawn_of (ends l) z = z
