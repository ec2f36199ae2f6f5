-- Lists of C calls on a turn-giver, and what is seen of them in C, as WriterLists does for a writer. Each call is made on the array that the one before left.
use mathlib.Core.List.{List, zip_with, map as each}
use Rattle.std.specs.Prelude.{ℕ}
use Rattle.calls.specs.Lists.{gives, refused, events}
use Rattle.turns.specs.declared.Turns.{Turns}
use Rattle.turns.specs.Marks.{readers}
use Rattle.turns.specs.Order.{reader, nobody}
use Rattle.turns.specs.Lists.{Call, Event}
use Rattle.turns.specs.Lists as rattle
use Rattle.states.specs.WriterAnswers.{number}
use Rattle.states.specs.TurnsState.{turns_words, changed_words, turn_words, reader_of}
use Rattle.terrain.specs.TurnsCalls as c

-- the arguments of a call that Rattle's has too, and what the out-parameter of a turn held
pub record CCall : Type 0 where
  pub call : Call
  pub reader : ℕ

-- what is seen of a call: its argument, the number answered, and after a turn the out-parameter
pub data Seen : Type 0 where
  marks : ℕ → ℕ → Seen
  clears : ℕ → ℕ → Seen
  turns : ℕ → ℕ → Seen

-- by the contracts of `terrain_turns_mark`, `terrain_turns_clear` and `terrain_turns_give`
unfoldable pub seen_of : List ℕ → Call → ℕ → Seen
seen_of s (rattle.mark n) z = marks n (number (c.marking s n))
seen_of s (rattle.clear n) z = clears n (number (c.clearing s n))
seen_of s rattle.turn z = turns (number (c.giving s)) (reader_of (c.giving s) z)

unfoldable pub leaves : List ℕ → Call → List ℕ
leaves s (rattle.mark n) = changed_words (c.marking s n) s
leaves s (rattle.clear n) = changed_words (c.clearing s n) s
leaves s rattle.turn = turn_words (c.giving s) s

abbrev pub seen_all : List CCall → List ℕ → List Seen
seen_all = events (λ d s. seen_of s d.call d.reader) (λ d s. leaves s d.call)

-- ---- the same told of a list of Rattle's calls: an answer by its number, the reader by the out-parameter, which a refusal leaves
unfoldable pub told : ℕ → Event → Seen
told z (rattle.marks n (gives u)) = marks n 0
told z (rattle.marks n (refused k)) = marks n k
told z (rattle.clears n (gives u)) = clears n 0
told z (rattle.clears n (refused k)) = clears n k
told z (rattle.turns (gives (reader n))) = turns 0 n
told z (rattle.turns (gives nobody)) = turns 0 readers
told z (rattle.turns (refused k)) = turns k z

abbrev pub told_all : List CCall → List Event → List Seen
told_all = zip_with (λ d e. told d.reader e)

abbrev pub calls : List CCall → List Call
calls ds = each (λ d. d.call) ds
