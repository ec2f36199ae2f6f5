-- What the C calls on a loader answer, and what they leave: what `ground_loader` says of the call on the loader that the state array holds, and 1 where it
-- holds none. s is the state array, n the length of the line store and x what stands in it, m the length of the row area and y what stands there.
use Rattle.std.specs.Prelude.{List, ℕ, ℤ}
use Rattle.numbers.specs.Signal.{pick}
use Rattle.wavelet.specs.declared.shape.Shape.{Shape}
use Rattle.ground_loader.specs.declared.loader.Loader.{Loader}
use Rattle.ground_loader.specs.Loader.{Want, bytes, draw_now, done, ended, Answer, turned, world_of, ran, set_up_question, want_question, take_question}
use Rattle.ground_loader.specs.Loader.{take_reply, take_store, take_row}
use Rattle.ground_loader.specs.LoaderAnswers.{Reply, gives, refused, ends, Handed, set_up_reply, want_reply, draw_reply_of, draw_store_of, draw_area_of}
use Rattle.states.specs.LoaderState.{is_loader, loader_of, loader_words}

abbrev pub number : {A : Type 0} → Reply A → ℕ
number (gives a) = 0
number (refused q) = q
number (ends l) = 14

-- ---- set-up, on a store of n numbers
abbrev pub loading : Shape → ℕ → ℕ → Reply Loader
loading s p n = set_up_reply s p (set_up_question s p n)

abbrev pub state_of : Reply Loader → List ℕ → List ℕ
state_of (gives l) s = loader_words l
state_of (refused q) s = s
state_of (ends l) s = loader_words l

-- ---- want: 0 bytes, 1 Draw, 2 Done, 3 Ended; z is what the out-parameter held
abbrev pub wanting : List ℕ → Reply Want
wanting s = pick (is_loader s) (want_reply (loader_of s) (want_question (loader_of s))) (refused 1)

abbrev pub want_code : Want → ℕ
want_code bytes = 0
want_code draw_now = 1
want_code done = 2
want_code ended = 3

abbrev pub want_of : Reply Want → ℕ → ℕ
want_of (gives v) z = want_code v
want_of (refused q) z = z
want_of (ends l) z = z

-- ---- a run of bytes taken
module _ (s : List ℕ) (n m : ℕ) (x y : ℕ → ℤ) (bs : List ℕ) where
  abbrev pub taking : Answer
  taking = pick (is_loader s) (take_reply (take_question (loader_of s) n m) (ran n bs (world_of (loader_of s) x y))) (turned 1)

  abbrev pub taking_store : ℕ → ℤ
  taking_store = pick (is_loader s) (take_store (take_question (loader_of s) n m) (ran n bs (world_of (loader_of s) x y)) x) x

  abbrev pub taking_row : ℕ → ℤ
  taking_row = pick (is_loader s) (take_row (take_question (loader_of s) n m) (ran n bs (world_of (loader_of s) x y)) y) y

-- ---- draw into an area of m heights that holds z
abbrev pub drawing : List ℕ → ℕ → (ℕ → ℤ) → ℕ → Reply Handed
drawing s n x m = pick (is_loader s) (draw_reply_of (loader_of s) n x m) (refused 1)

abbrev pub drawing_store : List ℕ → ℕ → (ℕ → ℤ) → ℕ → ℕ → ℤ
drawing_store s n x m = pick (is_loader s) (draw_store_of (loader_of s) n x m) x

abbrev pub drawing_area : List ℕ → ℕ → (ℕ → ℤ) → ℕ → (ℕ → ℤ) → ℕ → ℤ
drawing_area s n x m z = pick (is_loader s) (draw_area_of (loader_of s) n x m z) z
