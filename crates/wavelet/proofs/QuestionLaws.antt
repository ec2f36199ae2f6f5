-- What the shared questions say. Assumes nothing.
use mathlib.Core.Path.{◌≡◌, refl}
use mathlib.Core.Bool.{Bool, true, false}
use Prim.Native.Nat.{ℕ, ◌≤◌}
use native.Mathlib.Omega.{arith}
use lib.Dec.{leb}
use borrow.Author.Tests.{leb-true, le-leb}
use Rattle.numbers.proofs.Sweep.{both}
use Rattle.wavelet.specs.Limits.{max_width, max_height, max_levels}
use Rattle.wavelet.specs.Questions.{ask, within, size_question, Sized}

pub within-true : (a b n : ℕ) → within a b n ≡ true → (a ≤ n) × (n ≤ b)
unfolding within
within-true a b n e =
    let p = both (leb a n) (leb n b) e in
    (leb-true a n p.0, leb-true n b p.1)

pub within-yes : (a b n : ℕ) → a ≤ n → n ≤ b → within a b n ≡ true
unfolding within
within-yes a b n h g = simp (le-leb a n h, le-leb n b g)

-- three questions, and what follows them
abbrev asked : Bool → Bool → Bool → ℕ → ℕ
asked a b d x = ask a 2 (ask b 3 (ask d 4 x))

-- a no is given whatever follows; three times yes goes on to it
no : (a b d : Bool) (x : ℕ) → (asked a b d 0 ≡ 0 → ⊥) → asked a b d x ≡ asked a b d 0
no true true true x h = absurd (h refl)
no true true false x h = refl
no true false d x h = refl
no false b d x h = refl

yes : (a b d : Bool) (x : ℕ) → asked a b d 0 ≡ 0 → asked a b d x ≡ x
yes true true true x h = refl
yes true true false x h = absurd (omega arith)
yes true false d x h = absurd (omega arith)
yes false b d x h = absurd (omega arith)

all : (a b d : Bool) → asked a b d 0 ≡ 0 → (a ≡ true) × (b ≡ true) × (d ≡ true)
all true true true h = (refl, refl, refl)
all true true false h = absurd (omega arith)
all true false d h = absurd (omega arith)
all false b d h = absurd (omega arith)

module _ (W H L : ℕ) where
  abbrev sizes : ℕ → ℕ
  sizes x = asked (within 1 max_width W) (within 1 max_height H) (within 1 max_levels L) x

  pub sized : size_question W H L ≡ 0 → Sized W H L
  unfolding size_question
  sized e =
      let p = all (within 1 max_width W) (within 1 max_height H) (within 1 max_levels L) e in
      record {
        width = within-true 1 max_width W p.0;
        height = within-true 1 max_height H p.1;
        levels = within-true 1 max_levels L p.2;
      }

  pub size-no : (x : ℕ) → (size_question W H L ≡ 0 → ⊥) → sizes x ≡ size_question W H L
  unfolding size_question
  size-no x h = no (within 1 max_width W) (within 1 max_height H) (within 1 max_levels L) x h

  pub size-yes : (x : ℕ) → size_question W H L ≡ 0 → sizes x ≡ x
  unfolding size_question
  size-yes x h = yes (within 1 max_width W) (within 1 max_height H) (within 1 max_levels L) x h
