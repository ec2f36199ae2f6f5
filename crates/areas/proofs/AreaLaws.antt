-- The laws of numbers at the front of an area, of a test gathered number by number, and of a call that has room or has not. Assumes nothing.
use mathlib.Core.Path.{◌≡◌, refl, sym, ap, ◌∙◌, fun_ext}
use mathlib.Core.Bool.{Bool, true, false, ◌&&◌}
use mathlib.Core.List.{List, ◌++◌}
use Prim.Native.Nat.{ℕ, suc, ◌+◌, ◌-◌, ◌≤◌, ◌<◌}
use native.Mathlib.Decide.{dec_lt}
use native.Mathlib.Omega.{arith}
use lib.IntN.{ℤ, pos}
use lib.ListN.{length, drop, get_or-append}
use lib.Seq.{get_or-drop, get_or-append-add}
use lib.Signed.{le_z}
use borrow.Author.Tests.{lt-ltb, le-ltb, le-leb}
use lib.Dec.{leb}
use Rattle.numbers.specs.Signal.{at, pick, both}
use Rattle.lifting.specs.Halves.{fronted}
use Rattle.numbers.specs.Tests.{every}
use Rattle.areas.specs.Areas.{between}

-- ---- a call with the test t before its loop: the answer and the area where there is room, and where there is not
module _ {A : Type 0} (t : Bool) (a b y : A) where
  pub went : t ≡ true → y ≡ a → (◌≡◌ {A = ℕ} 0 (pick t 0 5)) × (y ≡ pick t a b)
  went e is = rw e (refl, is)

  -- and what its caller, who has the room, gets of it
  pub did : t ≡ true → y ≡ pick t a b → y ≡ a
  did e is = rw e at is

pub turned : {A : Type 0} (t : Bool) (a b : A) → t ≡ false → (◌≡◌ {A = ℕ} 5 (pick t 0 5)) × (b ≡ pick t a b)
turned t a b e = rw e (refl, refl)

-- ---- n numbers at place `to` that end before n numbers at place `from` begin, and these within len
module _ (len from to n : ℕ) where
  pub apart_in : to + n ≤ from → from + n ≤ len → both (leb (to + n) from) (leb (from + n) len) ≡ true
  apart_in p q = rw (le-leb (to + n) from p, le-leb (from + n) len q) refl

-- ---- numbers x at the front of memory z
module _ (N : ℕ) (x z : ℕ → ℤ) (j : ℕ) where
  pub front_at : j < N → fronted N x z j ≡ x j
  unfolding fronted
  front_at h = simp (lt-ltb j N h)

  pub front_rest : N ≤ j → fronted N x z j ≡ z j
  unfolding fronted
  front_rest h = simp (le-ltb j N h)

-- ---- a test of every number, gathered number by number
all_three : (a b d : Bool) → (a && b) && d ≡ both a (both b d)
all_three true true d = refl
all_three true false d = refl
all_three false b d = refl

pub between_start : (p : ℕ → Bool) → true ≡ every 0 p
unfolding every
between_start p = refl

pub between-turn : (ok : Bool) (i : ℕ) (low high : ℤ) (x : ℕ → ℤ) → ok ≡ every i (λ j. between low high (x j)) →
    (ok && le_z low (x i)) && le_z (x i) high ≡ every (i + 1) (λ j. between low high (x j))
unfolding every between
between-turn ok i low high x is =
    let e : i + 1 ≡ suc i = omega arith in
    rw e (all_three ok (le_z low (x i)) (le_z (x i) high) ∙ ap (λ (b : Bool). both b (both (le_z low (x i)) (le_z (x i) high))) is)

-- at the end, the bounds read back
pub between-end : (ok : Bool) (i n : ℕ) (low' high' low high : ℤ) (x : ℕ → ℤ) → low' ≡ low → high' ≡ high → i ≤ n → n ≤ i →
    ok ≡ every i (λ j. between low' high' (x j)) → ok ≡ every n (λ j. between low high (x j))
between-end ok i n low' high' low high x el eh le ge is = let e : i ≡ n = omega arith in rw (el, eh, e) at is

-- a list over the front of a longer one
pub fronted-by : (xs l : List ℤ) → at (xs ++ drop (length xs) l) ≡ fronted (length xs) (at xs) (at l)
fronted-by xs l =
    fun_ext λ j.
    elim (dec_lt j (length xs)) [
      | yes p ↦ get_or-append xs _ (pos 0) j p ∙ sym (front_at (length xs) (at xs) (at l) j p)
      | no d ↦
          let k : j ≡ length xs + (j - length xs) = omega arith in
          ap (at (xs ++ drop (length xs) l)) k
          ∙ get_or-append-add xs _ (j - length xs) (pos 0)
          ∙ get_or-drop (length xs) l (j - length xs) (pos 0)
          ∙ ap (at l) (sym k)
          ∙ sym (front_rest (length xs) (at xs) (at l) j (omega arith))
    ]
