-- A sweep over the elements of a line, whatever these are. Assumes nothing.
use mathlib.Core.Path.{◌≡◌, sym, ap, ◌∙◌}
use mathlib.Core.List.{List}
use Prim.Native.Nat.{ℕ, ◌≤◌, ◌<◌}
use lib.IntN.{ℤ}
use lib.ListN.{length, set}
use Rattle.numbers.proofs.Sweep.{Swept, finish}
use Rattle.areas.specs.Elements.{Elements}

module _ {A : Type 0} {whole_list : List A → List ℤ} {whole : A → ℤ} {read : List A → ℕ → ℤ} {kept : ℤ → ℤ} (laws : Elements whole_list whole read kept) where
  pub start-read : (l : List A) (y : ℕ → ℤ) (k : ℕ) → ((j : ℕ) → j < k → y j ≡ read l j) → Swept (length l) y (read l) k (whole_list l)
  start-read l y k h =
      let e = laws.signal l in
      record {
        size = laws.size l;
        done = λ j lt. ap (λ (f : ℕ → ℤ). f j) e ∙ sym (h j lt);
        rest = λ j le. ap (λ (f : ℕ → ℤ). f j) e;
      }

  module _ {n : ℕ} {y x : ℕ → ℤ} {k : ℕ} (l : List A) (sw : Swept n y x k (whole_list l)) where
    pub size-read : length l ≡ n
    size-read = sym (laws.size l) ∙ sw.size

    pub finish-read : ((j : ℕ) → k ≤ j → y j ≡ x j) → read l ≡ y
    finish-read h = sym (laws.signal l) ∙ finish sw h

  -- one place stored, and two
  pub put-one : (l : List A) (k : ℕ) (v : A) (x : ℤ) → whole v ≡ x → whole_list (set l k v) ≡ set (whole_list l) k x
  put-one l k v x e = laws.put l k v ∙ ap (set (whole_list l) k) e

  pub put-two : (l : List A) (k : ℕ) (v : A) (x : ℤ) (m : ℕ) (w : A) (y : ℤ) → whole v ≡ x → whole w ≡ y
      → whole_list (set (set l k v) m w) ≡ set (set (whole_list l) k x) m y
  put-two l k v x m w y e f = put-one (set l k v) m w y f ∙ ap (λ (q : List ℤ). set q m y) (put-one l k v x e)
