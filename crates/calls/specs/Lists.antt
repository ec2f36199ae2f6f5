-- The words of document 01, "The lists of demand 3", that writer and reader share: a call's answer, an area that is lent, and lists of calls on any machine
-- with what is seen of them. "The words below go by the calls' arguments and answers, by nothing in the state."
use Rattle.std.specs.Prelude.{Bool, true, false, List, [], ◌∷◌, ◌++◌, ℕ, zero, suc, ℤ}
use Rattle.numbers.specs.Signal.{pick}

-- ---- an answer: what the call gives, or the number of the question that turned it away
pub data Reply (A : Type 0) : Type 0 where
  gives : A → Reply A
  refused : ℕ → Reply A

-- what a call gives, if no question (0) turned it away
abbrev pub unless : {A : Type 0} → ℕ → A → Reply A
unless zero a = gives a
unless (suc q) a = refused (suc q)

-- what stands in a lent area: a, or b as before where a question turned the call away
abbrev pub changed_unless : {A : Type 0} → ℕ → A → A → A
changed_unless zero a b = a
changed_unless (suc q) a b = b

-- an answer, less the state
abbrev pub seen : {A B : Type 0} → (A → B) → Reply A → Reply B
seen f (gives a) = gives (f a)
seen f (refused q) = refused q

-- ---- an area that is lent, a run or an output area: its length and its numbers
pub record Area : Type 0 where
  pub size : ℕ
  pub numbers : ℕ → ℤ

-- ---- a machine: `event` is what is seen of a call in a world, `next` the world that it leaves. Each call is made in the world that the one before left.
module _ {Call World Event : Type 0} (event : Call → World → Event) (next : Call → World → World) where
  unfoldable pub events : List Call → World → List Event
  events [] w = []
  events (c ∷ cs) w = event c w ∷ events cs (next c w)

module _ {Call World : Type 0} (next : Call → World → World) where
  unfoldable pub final : List Call → World → World
  final [] w = w
  final (c ∷ cs) w = final cs (next c w)

-- ---- by the events alone
-- what each of them brings, one after another
module _ {Event A : Type 0} (brings : Event → List A) where
  unfoldable pub gathered : List Event → List A
  gathered [] = []
  gathered (e ∷ es) = brings e ++ gathered es

-- one of them is such
module _ {Event : Type 0} (is : Event → Bool) where
  unfoldable pub ever : List Event → Bool
  ever [] = false
  ever (e ∷ es) = pick (is e) true (ever es)

-- P holds of every element of a list
pub data All {A : Type 0} (P : A → Type 0) : List A → Type 0 where
  all_none : All P []
  all_more : {x : A} {l : List A} → P x → All P l → All P (x ∷ l)

-- ---- lists with strays: calls that are another machine's (`mine`), and calls that never come to it
pub data Mixed (A B : Type 0) : Type 0 where
  mine : A → Mixed A B
  stray : B → Mixed A B

module _ {A B Call : Type 0} (call : A → Call) where
  unfoldable pub calls : List (Mixed A B) → List Call
  calls [] = []
  calls (mine a ∷ ds) = call a ∷ calls ds
  calls (stray b ∷ ds) = calls ds

-- what is seen of them, told by that machine's events: `tell` tells the event of a call of its own, `say` says what is seen of a stray
module _ {A B Event Seen : Type 0} (tell : A → Event → Seen) (say : B → Seen) where
  unfoldable pub told_by : List (Mixed A B) → List Event → List Seen
  told_by [] es = []
  told_by (mine a ∷ ds) [] = []
  told_by (mine a ∷ ds) (e ∷ es) = tell a e ∷ told_by ds es
  told_by (stray b ∷ ds) es = say b ∷ told_by ds es
