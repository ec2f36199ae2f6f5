-- The state array of a saver, kind 4, and what a saving call leaves of it. docs/STATE.md lists its numbers.
use Rattle.std.specs.Prelude.{Bool, List, [], ◌∷◌, ℕ, ◌%◌, eqb, leb, get_or}
use Rattle.numbers.specs.Signal.{pick, both}
use Rattle.ground_file.specs.declared.saver.Saver.{Saver}
use Rattle.ground_file.specs.Saving.{Saved}
use Rattle.states.specs.States.{zero_to}

-- x and y have 16 bits in a shape, the filter 32
unfoldable pub is_saver : List ℕ → Bool
is_saver s =
    both (eqb (get_or s 0 0) 4)
    (both (leb (get_or s 4 0) 65535) (both (leb (get_or s 5 0) 65535) (both (leb (get_or s 6 0) 4294967295) (zero_to 32 16 s))))

abbrev pub saver_of : List ℕ → Saver
saver_of s =
    record {
      shape = record {
        width = get_or s 1 0;
        height = get_or s 2 0;
        levels = get_or s 3 0;
        x = get_or s 4 0 % 65536;
        y = get_or s 5 0 % 65536;
        filter = get_or s 6 0 % 4294967296;
      };
      step = get_or s 7 0;
      place = record { drawn = get_or s 8 0; level = get_or s 9 0; set = get_or s 10 0; band = get_or s 11 0 };
      group = get_or s 12 0;
      part = get_or s 13 0;
      sum = get_or s 14 0;
      phase = get_or s 15 0;
    }

abbrev pub saver_words : Saver → List ℕ
saver_words s =
    4 ∷ s.shape.width ∷ s.shape.height ∷ s.shape.levels ∷ s.shape.x ∷ s.shape.y ∷ s.shape.filter ∷ s.step
    ∷ s.place.drawn ∷ s.place.level ∷ s.place.set ∷ s.place.band ∷ s.group ∷ s.part ∷ s.sum ∷ s.phase
    ∷ 0 ∷ 0 ∷ 0 ∷ 0 ∷ 0 ∷ 0 ∷ 0 ∷ 0 ∷ 0 ∷ 0 ∷ 0 ∷ 0 ∷ 0 ∷ 0 ∷ 0 ∷ 0 ∷ []

-- ---- a saving call; s is what the array held, z what the out-parameter
abbrev pub saved_words : Saved → List ℕ → List ℕ
saved_words r s = pick (eqb r.answer 0) (saver_words r.saver) s

abbrev pub written_of : Saved → ℕ → ℕ
written_of r z = pick (eqb r.answer 0) r.written z
