-- Calls that read and write, one after the other. Assumes nothing.
use mathlib.Core.Path.{◌≡◌, refl, ap, ◌∙◌}
use mathlib.Core.Bool.{Bool, true, false}
use mathlib.Core.List.{List}
use Prim.Native.Nat.{ℕ, ◌+◌, ◌-◌, ◌*◌, ◌≤◌, ◌<◌}
use native.Mathlib.Omega.{arith}
use native.Mathlib.Decide.{dec_lt}
use lib.Dec.{eqb}
use lib.ListN.{length}
use borrow.Author.Tests.{ne_eqb}
use Rattle.numbers.specs.Signal.{pick}
use Rattle.text.specs.Moves.{Went, Stops}
use Rattle.text.proofs.TextLaws.{wrote-size}
use Rattle.text.proofs.MoveLaws.{went-not, went_on, stops-in}
use Rattle.picture.specs.Machine.{Kept, kept, settled, Move, busy_on, Writes, quiet}
use Rattle.picture.specs.declared.rewriting.Rewriting.{Rewriting}

-- ---- one call
-- ---- turns
pub quiet-most : (s : Kept) → quiet s ≤ 1
quiet-most s = go (eqb (busy_on s) 0)
  where
    go : (t : Bool) → pick t 1 0 ≤ 1
    go true = omega arith
    go false = omega arith

quiet-settled : (r : Rewriting) (z : List ℕ) → quiet (kept (settled r) z) ≡ 1
unfolding settled
quiet-settled r z = refl

pub write-on : (a : ℕ) {r r' : Rewriting} {z o o' : List ℕ} {b b' : ℕ} → (r.part.kind ≡ 0 → ⊥) → b < length o → Writes r z o o' b b' r'
    → 2 * a + b + quiet (kept r z) < 2 * a + b' + quiet (kept r' z)
write-on a {r} {r'} {z} {o = o} {b = b} {b' = b'} d h w = go (quiet (kept r z)) (ap (λ t. pick t 1 0) (ne_eqb r.part.kind 0 d))
  where
    go : (q : ℕ) → q ≡ 0 → 2 * a + b + q < 2 * a + b' + quiet (kept r' z)
    go q e =
        elim (dec_lt b' (length o)) [
          | yes k ↦ omega (arith, w.wrote.place, ap (λ q. quiet (kept q z)) (w.end k) ∙ quiet-settled r z)
          | no k ↦ omega (arith, w.wrote.place, w.wrote.room)
        ]

-- so far a feed has gone: y is the row area, d what stands in the area o to write to, a and b the places in the piece and in that area
pub record Gone (r : Rewriting) (z p o : List ℕ) (s : Rewriting) (y d : List ℕ) (a b : ℕ) : Type 0 where
  pub row : length y ≡ length z
  pub went : Went Move (kept r z) p 0 a o d 0 b (kept s y)

pub start : (r : Rewriting) (z p o : List ℕ) → Gone r z p o r z o 0 0
start r z p o = record { row = refl; went = went-not p o 0 0 (omega arith) (omega arith) }

module _ {r : Rewriting} {z p o : List ℕ} {s : Rewriting} {y d : List ℕ} {a b : ℕ} (f : Gone r z p o s y d a b) where
  pub size : length d ≡ length o
  size = wrote-size f.went.wrote

  pub turned : (s' : Rewriting) (y' : List ℕ) {d' : List ℕ} {a' b' : ℕ} → length y' ≡ length y
      → Went Move (kept s y) p a a' d d' b b' (kept s' y') → Gone r z p o s' y' d' a' b'
  turned s' y' e w = record { row = e ∙ f.row; went = went_on f.went w }

  pub stops : {i : Bool} → Stops busy_on (kept s y) p a d b i → Stops busy_on (kept s y) p a o b i
  stops h = stops-in size h

-- ---- what is left of the piece and of the area
unfoldable pub left : Kept → List ℕ → List ℕ → ℕ → ℕ → ℕ
left s p d a b = 2 * (length p - a) + (length d - b) + (1 - quiet s)

pub turn-less : {s s' : Kept} {p d d' : List ℕ} {a a' b b' : ℕ} → Went Move s p a a' d d' b b' s'
    → 2 * a + b + quiet s < 2 * a' + b' + quiet s' → left s' p d' a' b' < left s p d a b
unfolding left
turn-less {s} {s'} w h = omega (arith, quiet-most s, quiet-most s', w.used, w.wrote.place, w.part, w.wrote.room, wrote-size w.wrote)
