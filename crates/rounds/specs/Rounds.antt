-- A program over descriptors, round by round: read, turn, write; of any program M, whose output area has room for A bytes.
-- proofs/RoundTheorems: rounds are moves of the program, they are few, and after the end of the input nothing is read. What was written is then what the
-- program's definition makes of what was read: listing_io/proofs/ListedTheorem, rewriting_io/proofs/RewrittenTheorem.
use Rattle.std.specs.Prelude.{◌≡◌, Bool, true, false, not, List, [], ◌++◌, ℕ, suc, ltb, eqb, length, take, ◌<◌, Result, Ok, is_err, IfOk, IfErr}
use Rattle.numbers.specs.Signal.{pick, both}
use Rattle.text.specs.Moves.{Went, Stops}
use Rattle.descriptors.specs.Left.{left_in, Within, used_of, count_of, is_end, is_failed, nothing_new, Fills}
use Rattle.descriptors.specs.declared.input.Left.{Left}
use Rattle.descriptors.specs.declared.input.Filled.{Filled}
use Rattle.descriptors.specs.declared.output.Cut.{Cut}
use Rattle.rounds.specs.Machine.{Machine}
use Rattle.rounds.specs.declared.round.Outcome.{Outcome}

-- nothing is being written, and the program reads: it waits for input
unfoldable pub waits_at : ℕ → ℕ → Bool
waits_at busy phase = both (eqb busy 0) (ltb phase 4)

-- nothing is being written, and it reads no more
unfoldable pub over_at : ℕ → ℕ → Bool
over_at busy phase = both (eqb busy 0) (ltb 3 phase)

abbrev pub waiting : {S : Type 0} → Machine S → S → Bool
waiting M s = waits_at (M.busy s) (M.phase s)

abbrev pub over : {S : Type 0} → Machine S → S → Bool
over M s = over_at (M.busy s) (M.phase s)

-- ---- what follows from a round
-- input or output has failed
unfoldable pub failed : Outcome → Bool
failed r = pick (is_failed r.filled.came) true (is_err r.sent)

-- the input has ended, and all of it is fed
unfoldable pub ended : Outcome → Bool
ended r = both (is_end r.filled.came) r.idle

-- its end is to be passed on
unfoldable pub ends : Outcome → Bool
ends r = both (ended r) (not (failed r))

-- all is written that there is to write; o: the program is over
unfoldable pub whole : Bool → Outcome → Bool
whole o r = pick (failed r) false o

-- there is another round
unfoldable pub going : Bool → Outcome → Bool
going o r = pick (failed r) false (pick (ended r) false (not o))

-- ---- a round
abbrev pub nowhere : Left
nowhere = record { from = 0; to = 0 }

-- before the first: nothing is left, nothing has failed
abbrev pub started : Outcome
started = record { left = nowhere; filled = nothing_new nowhere; written = 0; sent = Ok 0; idle = false }

-- what a round leaves of its read (g), its turn (a bytes used, b written, i: idle) and its write (q)
abbrev pub outcome_of : Filled → ℕ → ℕ → Bool → Result ℕ Cut → Outcome
outcome_of g a b i q = record { left = used_of g.left a; filled = g; written = b; sent = q; idle = i }

-- from state s to s', where l was left of the chunk c. c' stands there then, and o' in the area o
pub record Round {S : Type 0} (M : Machine S) (A : ℕ) (s : S) (l : Left) (c c' o o' : List ℕ) (s' : S) (r : Outcome) : Type 0 where
  pub within : Within c l
  pub area : length o ≡ A
  -- read: only if nothing is left, and the program waits
  pub fills : Fills (waiting M s) l c c' r.filled
  -- turn: what stands in the chunk then is fed, as far as the area has room
  pub used : ℕ
  pub went : Went M.Move s (left_in c' r.filled.left) 0 used o o' 0 r.written s'
  pub stops : Stops M.busy s' (left_in c' r.filled.left) used o r.written r.idle
  pub left : r.left ≡ used_of r.filled.left used
  -- write: as many bytes were taken as the turn wrote, or it failed, and fewer were
  pub sent : IfOk r.sent (λ count. count ≡ r.written)
  pub cut : IfErr r.sent (λ cut. cut.count < r.written)

-- ---- rounds one after the other
-- m of them from state s to s', none after one that failed: u is all that was read, t all that was written. c stands in the chunk then, and r is what the
-- last one left
pub data Rounds {S : Type 0} (M : Machine S) (A : ℕ) (s : S) : ℕ → List ℕ → List ℕ → S → List ℕ → Outcome → Type 0 where
  begun : {c : List ℕ} → Rounds M A s 0 [] [] s c started
  then : {m : ℕ} {s₁ s₂ : S} {u t c c' o o' : List ℕ} {r r' : Outcome} → Rounds M A s m u t s₁ c r → going (over M s₁) r ≡ true
      → Round M A s₁ r.left c c' o o' s₂ r'
      → Rounds M A s (suc m) (u ++ take (count_of r'.filled.came) c') (t ++ take r'.written o') s₂ c' r'

-- the largest number of 64 bits, from which the program counts its rounds down
abbrev pub most_rounds : ℕ
most_rounds = 18446744073709551615

-- as many rounds as there are: after the last there is no other, or they are as many as 64 bits count
pub record Ran {S : Type 0} (M : Machine S) (A : ℕ) (s s' : S) (c : List ℕ) (r : Outcome) : Type 0 where
  pub count : ℕ
  pub read : List ℕ
  pub written : List ℕ
  pub rounds : Rounds M A s count read written s' c r
  pub stopped : going (over M s') r ≡ true → count ≡ most_rounds

-- a whole run: rounds until the input ends, and on with what its end makes due. u is all that was read, t all that was written
pub data Run {S : Type 0} (M : Machine S) (A : ℕ) (end : S → S) (s : S) : List ℕ → List ℕ → S → Outcome → Type 0 where
  before : {s' : S} {c : List ℕ} {r : Outcome} (g : Ran M A s s' c r) → ends r ≡ false → Run M A end s g.read g.written s' r
  after : {s₁ s' : S} {c₁ c : List ℕ} {r₁ r : Outcome} (g : Ran M A s s₁ c₁ r₁) → ends r₁ ≡ true → (h : Ran M A (end s₁) s' c r)
      → Run M A end s (g.read ++ h.read) (g.written ++ h.written) s' r

-- a run went to its last state, with some input and some output
pub record Completed {S : Type 0} (M : Machine S) (A : ℕ) (end : S → S) (s s' : S) (r : Outcome) : Type 0 where
  pub read : List ℕ
  pub written : List ℕ
  pub run : Run M A end s read written s' r

-- its answer b: whether all was written that there is to write
pub record Answers {S : Type 0} (M : Machine S) (A : ℕ) (end : S → S) (s : S) (b : Bool) : Type 0 where
  pub state : S
  pub outcome : Outcome
  pub completed : Completed M A end s state outcome
  pub answer : b ≡ whole (over M state) outcome
