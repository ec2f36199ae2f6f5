-- A program that reads bytes and writes text, move by move, and what a call of it says of the piece that it is fed and of the area that it is lent.
-- `Move s u t s'`: from state s to s' the bytes u are read and the text t is written. `busy s` is 0 where nothing is being written.
use Rattle.std.specs.Prelude.{◌≡◌, Bool, true, false, List, [], ◌++◌, ℕ, ◌+◌, ◌≤◌, ◌<◌, length, take, drop}
use Rattle.text.specs.Text.{Wrote}

-- any number of moves, one after the other
pub data Goes {S : Type 0} (Move : S → List ℕ → List ℕ → S → Type 0) : S → List ℕ → List ℕ → S → Type 0 where
  stays : (s : S) → Goes Move s [] [] s
  then : {s s₁ s₂ : S} {u v t w : List ℕ} → Goes Move s u t s₁ → Move s₁ v w s₂ → Goes Move s (u ++ v) (t ++ w) s₂

-- a call went from state s to s': it read of the piece p from place a to a', and wrote into the area o from place b to b'; o' stands there then
pub record Went {S : Type 0} (Move : S → List ℕ → List ℕ → S → Type 0) (s : S) (p : List ℕ) (a a' : ℕ) (o o' : List ℕ) (b b' : ℕ) (s' : S) : Type 0 where
  pub bytes : List ℕ
  pub text : List ℕ
  pub goes : Goes Move s bytes text s'
  pub read : drop a p ≡ bytes ++ drop a' p
  pub used : a' ≡ a + length bytes
  pub part : a' ≤ length p
  pub wrote : Wrote text b b' o o'

-- it stops where something is being written and the area is full, or else (true) where the piece is used up
pub data Stops {S : Type 0} (busy : S → ℕ) (s : S) (p : List ℕ) (a : ℕ) (o : List ℕ) (b : ℕ) : Bool → Type 0 where
  full : 0 < busy s → b ≡ length o → Stops busy s p a o b false
  idle : busy s ≡ 0 → a ≡ length p → Stops busy s p a o b true

-- any calls, one after the other: u is all that was read of the pieces, t all that was written
pub data Session {S : Type 0} (Move : S → List ℕ → List ℕ → S → Type 0) : S → List ℕ → List ℕ → S → Type 0 where
  begun : (s : S) → Session Move s [] [] s
  call : {s s₁ s₂ : S} {u t p o o' : List ℕ} {a b : ℕ} → Session Move s u t s₁ → Went Move s₁ p 0 a o o' 0 b s₂
      → Session Move s (u ++ take a p) (t ++ take b o') s₂
