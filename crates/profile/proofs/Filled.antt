-- A list of anything that is stored place by place from the front: below k it is y's, from k on it is x's. (`Sweep` of the crate numbers is this for integers.)
-- Assumes nothing.
use mathlib.Core.Path.{◌≡◌, refl, sym, ap, ◌∙◌, fun_ext}
use mathlib.Core.List.{List}
use Prim.Native.Nat.{ℕ, ◌+◌, ◌≤◌, ◌<◌}
use native.Mathlib.Omega.{arith}
use native.Mathlib.Decide.{ℕ_discrete, dec_lt}
use lib.ListN.{length, get_or, set, length-set}
use lib.Seq.{get_or-set_same, get_or-set_other}

pub record Filled {A : Type 0} (d : A) (n : ℕ) (y x : ℕ → A) (k : ℕ) (l : List A) : Type 0 where
  pub size : length l ≡ n
  pub done : (j : ℕ) → j < k → get_or l j d ≡ y j
  pub rest : (j : ℕ) → k ≤ j → get_or l j d ≡ x j

pub start : {A : Type 0} (d : A) (l : List A) (y : ℕ → A) → Filled d (length l) y (λ j. get_or l j d) 0 l
start d l y = record { size = refl; done = λ j lt. absurd (omega arith); rest = λ j le. refl }

pub store : {A : Type 0} {d : A} {n : ℕ} {y x : ℕ → A} {k : ℕ} {l : List A} (v : A) → Filled d n y x k l → k < n → v ≡ y k → Filled d n y x (k + 1) (set l k v)
store {d = d} {n} {y} {x} {k} {l} v s h e =
    record {
      size = length-set l k v ∙ s.size;
      done = λ j lt.
          elim (ℕ_discrete j k) [
            | yes p ↦ ap (λ (i : ℕ). get_or (set l k v) i d) p ∙ get_or-set_same l k v d (omega (arith, s.size)) ∙ e ∙ ap y (sym p)
            | no q ↦ get_or-set_other l k j v d q ∙ s.done j (omega arith)
          ];
      rest = λ j le. get_or-set_other l k j v d (omega arith) ∙ s.rest j (omega arith);
    }

pub finish : {A : Type 0} {d : A} {n : ℕ} {y x : ℕ → A} {k : ℕ} {l : List A} → Filled d n y x k l → ((j : ℕ) → k ≤ j → y j ≡ x j) → (λ (j : ℕ). get_or l j d) ≡ y
finish {k = k} s h =
    fun_ext λ j. elim (dec_lt j k) [ yes p ↦ s.done j p | no q ↦ s.rest j (omega arith) ∙ sym (h j (omega arith)) ]
