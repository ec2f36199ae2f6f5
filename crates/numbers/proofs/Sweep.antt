-- A loop that goes through a list from the front and stores place by place. Below k the list is y's, from k on it is x's.
--     start    where y is x below k
--     store    place k is stored        skip    place k is left, where y and x agree
--     finish   the whole list is y's, where y is x from k on
-- Assumes nothing.
use mathlib.Core.Path.{◌≡◌, refl, sym, ap, ◌∙◌, subst, fun_ext}
use mathlib.Core.List.{List}
use mathlib.Core.Bool.{Bool, true, false}
use Prim.Native.Nat.{ℕ, ◌+◌, ◌≤◌, ◌<◌}
use native.Mathlib.Omega.{arith}
use native.Mathlib.Decide.{ℕ_discrete, dec_lt}
use lib.IntN.{ℤ, pos}
use lib.ListN.{length, set, length-set}
use lib.Seq.{get_or-set_same, get_or-set_other}
use Rattle.numbers.specs.Signal.{at, pick}

pub record Swept (n : ℕ) (y x : ℕ → ℤ) (k : ℕ) (l : List ℤ) : Type 0 where
  pub size : length l ≡ n
  pub done : (j : ℕ) → j < k → at l j ≡ y j
  pub rest : (j : ℕ) → k ≤ j → at l j ≡ x j

pub start : (l : List ℤ) (y : ℕ → ℤ) (k : ℕ) → ((j : ℕ) → j < k → y j ≡ at l j) → Swept (length l) y (at l) k l
start l y k h = record { size = refl; done = λ j lt. sym (h j lt); rest = λ j le. refl }

pub store : {n : ℕ} {y x : ℕ → ℤ} {k : ℕ} {l : List ℤ} (v : ℤ) → Swept n y x k l → k < n → v ≡ y k → Swept n y x (k + 1) (set l k v)
store {n} {y} {x} {k} {l} v s h e =
    record {
      size = length-set l k v ∙ s.size;
      done = λ j lt.
          elim (ℕ_discrete j k) [
            | yes p ↦ ap (at (set l k v)) p ∙ get_or-set_same l k v (pos 0) (omega (arith, s.size)) ∙ e ∙ ap y (sym p)
            | no d ↦ get_or-set_other l k j v (pos 0) d ∙ s.done j (omega arith)
          ];
      rest = λ j le. get_or-set_other l k j v (pos 0) (omega arith) ∙ s.rest j (omega arith);
    }

pub skip : {n : ℕ} {y x : ℕ → ℤ} {k : ℕ} {l : List ℤ} → Swept n y x k l → y k ≡ x k → Swept n y x (k + 1) l
skip {n} {y} {x} {k} {l} s e =
    record {
      size = s.size;
      done = λ j lt.
          elim (ℕ_discrete j k) [
            | yes p ↦ s.rest j (omega arith) ∙ ap x p ∙ sym e ∙ ap y (sym p)
            | no d ↦ s.done j (omega arith)
          ];
      rest = λ j le. s.rest j (omega arith);
    }

-- a store, and a place left
pub store2 : {n : ℕ} {y x : ℕ → ℤ} {k : ℕ} {l : List ℤ} (v : ℤ) → Swept n y x k l → k < n → v ≡ y k → y (k + 1) ≡ x (k + 1) → Swept n y x (k + 2) (set l k v)
store2 {n} {y} {x} {k} {l} v s h e f =
    subst (λ (m : ℕ). Swept n y x m (set l k v)) (omega arith) (skip (store v s h e) f)

-- a place that the sweep leaves is as it was, passed or not
pub left : {n : ℕ} {y x : ℕ → ℤ} {k : ℕ} {l : List ℤ} (j : ℕ) → Swept n y x k l → y j ≡ x j → at l j ≡ x j
left {k = k} j s e = elim (dec_lt j k) [ yes p ↦ s.done j p ∙ e | no d ↦ s.rest j (omega arith) ]

pub finish : {n : ℕ} {y x : ℕ → ℤ} {k : ℕ} {l : List ℤ} → Swept n y x k l → ((j : ℕ) → k ≤ j → y j ≡ x j) → at l ≡ y
finish {n} {y} {x} {k} {l} s h =
    fun_ext λ j. elim (dec_lt j k) [ yes p ↦ s.done j p | no d ↦ s.rest j (omega arith) ∙ sym (h j (omega arith)) ]

-- the next sweep, over what a finished one left
pub anew : {n : ℕ} {y x : ℕ → ℤ} {k : ℕ} {l : List ℤ} (z : ℕ → ℤ) → Swept n y x k l → at l ≡ y → Swept n z y 0 l
anew z s e = record { size = s.size; done = λ j lt. absurd (omega arith); rest = λ j le. ap (λ (f : ℕ → ℤ). f j) e }

-- both halves of a test that is an `and`
pub both : (a b : Bool) → pick a b false ≡ true → (a ≡ true) × (b ≡ true)
both true b h = (refl, h)
both false b h = let z : ◌≡◌ {A = ℕ} 0 1 = cc in absurd (omega arith)
