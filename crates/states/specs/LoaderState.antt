-- The state array of a loader: kind 5. docs/STATE.md lists its numbers: the reader's as in its own array, then the loader's.
use Rattle.std.specs.Prelude.{Bool, List, [], ◌∷◌, ℕ, eqb, leb, get_or}
use Rattle.numbers.specs.Signal.{both}
use Rattle.ground_loader.specs.declared.loader.Loader.{Loader}
use Rattle.states.specs.States.{flag, zero_to}
use Rattle.states.specs.ReaderState.{reader_of}

unfoldable pub is_loader : List ℕ → Bool
is_loader s = both (eqb (get_or s 0 0) 5) (both (leb (get_or s 7 0) 1) (zero_to 32 27 s))

abbrev pub loader_of : List ℕ → Loader
loader_of s =
    record {
      reader = reader_of s;
      step = get_or s 15 0;
      header = get_or s 16 0;
      coming = record {
        phase = get_or s 17 0;
        done = get_or s 18 0;
        code = get_or s 19 0;
        next = get_or s 20 0;
        left = get_or s 21 0;
        low = get_or s 22 0;
        bits = get_or s 23 0;
        most = get_or s 24 0;
      };
      sum = get_or s 25 0;
      tail = get_or s 26 0;
    }

abbrev pub loader_words : Loader → List ℕ
loader_words l =
    5 ∷ l.reader.width ∷ l.reader.height ∷ l.reader.levels ∷ l.reader.drawn ∷ l.reader.level ∷ l.reader.band ∷ flag l.reader.ended
    ∷ l.reader.x ∷ l.reader.y ∷ l.reader.back ∷ l.reader.filter ∷ l.reader.stop ∷ l.reader.spare ∷ l.reader.admission
    ∷ l.step ∷ l.header ∷ l.coming.phase ∷ l.coming.done ∷ l.coming.code ∷ l.coming.next ∷ l.coming.left ∷ l.coming.low ∷ l.coming.bits
    ∷ l.coming.most ∷ l.sum ∷ l.tail ∷ 0 ∷ 0 ∷ 0 ∷ 0 ∷ 0 ∷ []
