-- What the gate questions give: a call that none turned away was told yes by each (`asked-yes`), and questions in a row, whatever follows them (`asks`).
-- Assumes nothing.
use mathlib.Core.Bool.{Bool, true, false, not}
use mathlib.Core.Path.{◌≡◌, refl}
use mathlib.Core.List.{List, [], ◌∷◌}
use Prim.Native.Nat.{ℕ, suc}
use native.Mathlib.Omega.{arith}
use Rattle.wavelet.specs.Questions.{ask}
use Rattle.calls.specs.Lists.{All, all_more}

-- the question t, whose no gives suc q; r is what a yes goes on to
pub asked-yes : (t : Bool) (q r : ℕ) → ask t (suc q) r ≡ 0 → (t ≡ true) × (r ≡ 0)
asked-yes true q r e = (refl, e)
asked-yes false q r e = absurd (omega arith)

pub not_yes : (t : Bool) → not t ≡ true → t ≡ false
not_yes true e = let z : ◌≡◌ {A = ℕ} 0 1 = cc in absurd (omega arith)
not_yes false e = refl

-- ---- questions in a row, each with q where its no gives suc q; r is what follows them
abbrev pub asks : List (Bool × ℕ) → ℕ → ℕ
asks [] r = r
asks (t ∷ ts) r = ask t.0 (suc t.1) (asks ts r)

-- a no is given whatever follows
pub asks-no : (ts : List (Bool × ℕ)) (r : ℕ) → (asks ts 0 ≡ 0 → ⊥) → asks ts 0 ≡ asks ts r
asks-no [] r h = absurd (h refl)
asks-no ((true, q) ∷ ts) r h = asks-no ts r h
asks-no ((false, q) ∷ ts) r h = refl

-- told yes by each, they go on to it
pub asks-yes : (ts : List (Bool × ℕ)) (r : ℕ) → asks ts 0 ≡ 0 → r ≡ asks ts r
asks-yes [] r e = refl
asks-yes ((true, q) ∷ ts) r e = asks-yes ts r e
asks-yes ((false, q) ∷ ts) r e = absurd (omega arith)

-- they give no other number than theirs
pub asks_none : (n : ℕ) (ts : List (Bool × ℕ)) → All (λ t. t.1 ≡ n → ⊥) ts → asks ts 0 ≡ suc n → ⊥
asks_none n [] a e = omega arith
asks_none n ((true, q) ∷ ts) (all_more p a) e = asks_none n ts a e
asks_none n ((false, q) ∷ ts) (all_more p a) e = p (omega arith)
