-- The input in pieces, as a caller feeds it: by the calls, their pieces, areas and answers alone. n and k are the lengths of line store and row area.
-- proofs/ListingPieces: whatever the pieces and the areas, the bytes written are `due_of` the pieces joined, and with the end of the input `listing_of` them.
use Rattle.std.specs.Prelude.{true, false, List, [], ◌∷◌, ◌++◌, ℕ, ◌+◌, ltb, length, take, drop}
use Rattle.numbers.specs.Signal.{pick}
use Rattle.listing.specs.States.{State}
use Rattle.listing.specs.Moves.{Went, Stops}

-- a piece p to its end: what is left of it is fed again until a call answers that it is idle. t is all that was written
pub data Piece (n k : ℕ) : State → List ℕ → List ℕ → State → Type 0 where
  last : {s s' : State} {p o o' : List ℕ} {a b : ℕ} → Went n k s p 0 a o o' 0 b s' → Stops s' p a o b true → Piece n k s p (take b o') s'
  again : {s s₁ s' : State} {p o o' t : List ℕ} {a b : ℕ} → Went n k s p 0 a o o' 0 b s₁ → Stops s₁ p a o b false → Piece n k s₁ (drop a p) t s'
      → Piece n k s p (take b o' ++ t) s'

-- pieces one after the other
pub data Pieces (n k : ℕ) : State → List (List ℕ) → List ℕ → State → Type 0 where
  none : (s : State) → Pieces n k s [] [] s
  next : {s s₁ s' : State} {p t t' : List ℕ} {ps : List (List ℕ)} → Piece n k s p t s₁ → Pieces n k s₁ ps t' s' → Pieces n k s (p ∷ ps) (t ++ t') s'

-- how many calls were not idle though they were lent room
abbrev pub pauses_in : {n k : ℕ} {s s' : State} {p t : List ℕ} → Piece n k s p t s' → ℕ
pauses_in (last c e) = 0
pauses_in (again {o = o} c e f) = pick (ltb 0 (length o)) 1 0 + pauses_in f

abbrev pub pauses : {n k : ℕ} {s s' : State} {ps : List (List ℕ)} {t : List ℕ} → Pieces n k s ps t s' → ℕ
pauses (none s) = 0
pauses (next f g) = pauses_in f + pauses g
