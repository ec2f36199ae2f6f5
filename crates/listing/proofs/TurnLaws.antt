-- The turns of a feed, one after the other. Assumes nothing.
use mathlib.Core.Path.{◌≡◌, refl, ◌∙◌}
use mathlib.Core.Bool.{Bool}
use mathlib.Core.List.{List}
use Prim.Native.Nat.{ℕ, ◌+◌, ◌-◌, ◌<◌}
use native.Mathlib.Omega.{arith}
use lib.IntN.{ℤ}
use lib.ListN.{length}
use Rattle.numbers.specs.Signal.{at}
use Rattle.listing.specs.States.{State, state_of}
use Rattle.text.proofs.MoveLaws.{went-not, stops-in}
use Rattle.listing.specs.Moves.{Went, Stops}
use Rattle.listing.specs.declared.listing.Listing.{Listing}
use Rattle.text.proofs.TextLaws.{wrote-size}
use Rattle.listing.proofs.MoveLaws.{went_on}

-- so far a feed has gone: m is the store, r the row area, d what stands in the area o to write to, a and b the places in the piece and in that area
pub record Gone (n k : ℕ) (s : State) (p o : List ℕ) (l : Listing) (m r : List ℤ) (d : List ℕ) (a b : ℕ) : Type 0 where
  pub store : length m ≡ n
  pub row : length r ≡ k
  pub went : Went n k s p 0 a o d 0 b (state_of l (at m) (at r))

pub start : (p o : List ℕ) (l : Listing) (m r : List ℤ) → Gone (length m) (length r) (state_of l (at m) (at r)) p o l m r o 0 0
start p o l m r = record { store = refl; row = refl; went = went-not p o 0 0 (omega arith) (omega arith) }

module _ {n k : ℕ} {s : State} {p o : List ℕ} {l : Listing} {m r : List ℤ} {d : List ℕ} {a b : ℕ} (f : Gone n k s p o l m r d a b) where
  pub size : length d ≡ length o
  size = wrote-size f.went.wrote

  pub turned : (l' : Listing) (m' r' : List ℤ) {d' : List ℕ} {a' b' : ℕ} → length m' ≡ length m → length r' ≡ length r
      → Went (length m) (length r) (state_of l (at m) (at r)) p a a' d d' b b' (state_of l' (at m') (at r')) → Gone n k s p o l' m' r' d' a' b'
  turned l' m' r' em er w = record { store = em ∙ f.store; row = er ∙ f.row; went = went_on f.store f.row f.went w }

  pub stops : {i : Bool} → Stops (state_of l (at m) (at r)) p a d b i → Stops (state_of l (at m) (at r)) p a o b i
  stops h = stops-in size h

-- ---- what is left of the piece and of the area
abbrev pub left : List ℕ → List ℕ → ℕ → ℕ → ℕ
left p d a b = (length p - a) + (length d - b)

pub turn-less : {n k : ℕ} {s s' : State} {p d d' : List ℕ} {a a' b b' : ℕ} → Went n k s p a a' d d' b b' s' → a + b < a' + b'
    → left p d' a' b' < left p d a b
turn-less w h = omega (arith, w.used, w.wrote.place, w.part, w.wrote.room, wrote-size w.wrote)
