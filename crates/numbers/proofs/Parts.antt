-- A part of a slice, as a signal: lent, `at_mid`, and come back, `at-put`. Assumes nothing.
use mathlib.Core.Path.{◌≡◌, sym, ap, ◌∙◌, fun_ext}
use mathlib.Core.List.{List, ◌++◌}
use Prim.Native.Nat.{ℕ, ◌+◌, ◌-◌, ◌≤◌, ◌<◌}
use native.Mathlib.Decide.{dec_lt}
use native.Mathlib.Omega.{arith}
use lib.IntN.{ℤ, pos}
use lib.ListN.{length, take, drop, length-take, length-drop, get_or-append, get_or-eq_default}
use lib.Seq.{get_or-take, get_or-drop, get_or-append-add, length-take-le}
use borrow.Author.Tests.{lt-ltb, le-ltb, le-leb, lt-leb}
use borrow.Rule.Slice.PartMut.{mid_of, post_of, put_mid}
use Rattle.numbers.specs.Signal.{at, windowed, spliced}

module _ (a n : ℕ) (x : ℕ → ℤ) where
  pub window-in : (j : ℕ) → j < n → windowed a n x j ≡ x (a + j)
  unfolding windowed
  window-in j h = simp (lt-ltb j n h)

  pub window-past : (j : ℕ) → n ≤ j → windowed a n x j ≡ pos 0
  unfolding windowed
  window-past j h = simp (le-ltb j n h)

module _ (a n : ℕ) (y x : ℕ → ℤ) where
  pub splice-below : (j : ℕ) → j < a → spliced a n y x j ≡ x j
  unfolding spliced
  splice-below j h = simp (lt-leb a j h)

  pub splice-in : (j : ℕ) → a ≤ j → j < a + n → spliced a n y x j ≡ y (j - a)
  unfolding spliced
  splice-in j g h = simp (le-leb a j g, lt-ltb j (a + n) h)

  pub splice-past : (j : ℕ) → a + n ≤ j → spliced a n y x j ≡ x j
  unfolding spliced
  splice-past j h = simp (le-leb a j (omega arith), le-ltb j (a + n) h)

pub length-mid : (a n : ℕ) (l : List ℤ) → a + n ≤ length l → length (mid_of a n l) ≡ n
length-mid a n l h = length-take-le n (drop a l) (simp length-drop (omega arith))

pub at_mid : (a n : ℕ) (l : List ℤ) → at (mid_of a n l) ≡ windowed a n (at l)
at_mid a n l =
    fun_ext λ j.
    elim (dec_lt j n) [
      | yes p ↦ get_or-take n (drop a l) j (pos 0) p ∙ get_or-drop a l j (pos 0) ∙ sym (window-in a n (at l) j p)
      | no d ↦
          get_or-eq_default (take n (drop a l)) (pos 0) (simp length-take (omega arith))
          ∙ sym (window-past a n (at l) j (omega arith))
    ]

-- past a seam, the second list
seam : (p q : List ℤ) (n j : ℕ) → length p ≡ n → n ≤ j → at (p ++ q) j ≡ at q (j - n)
seam p q n j e h =
    let k : j ≡ length p + (j - n) = omega arith in
    ap (at (p ++ q)) k ∙ get_or-append-add p q (j - n) (pos 0)

pub at-put : (a n : ℕ) (l ys : List ℤ) → length ys ≡ n → a + n ≤ length l → at (put_mid a n l ys) ≡ spliced a n (at ys) (at l)
at-put a n l ys e h =
    let front : length (take a l) ≡ a = length-take-le a l (omega arith) in
    fun_ext λ j.
    elim (dec_lt j a) [
      | yes p ↦
          get_or-append (take a l) (ys ++ post_of a n l) (pos 0) j (omega arith)
          ∙ get_or-take a l j (pos 0) p
          ∙ sym (splice-below a n (at ys) (at l) j p)
      | no d ↦
          seam (take a l) (ys ++ post_of a n l) a j front (omega arith)
          ∙ elim (dec_lt j (a + n)) [
            | yes p ↦
                get_or-append ys (post_of a n l) (pos 0) (j - a) (omega arith)
                ∙ sym (splice-in a n (at ys) (at l) j (omega arith) p)
            | no q ↦
                let k : a + (n + (j - a - n)) ≡ j = omega arith in
                seam ys (post_of a n l) n (j - a) e (omega arith)
                ∙ get_or-drop n (drop a l) (j - a - n) (pos 0)
                ∙ get_or-drop a l (n + (j - a - n)) (pos 0)
                ∙ ap (at l) k
                ∙ sym (splice-past a n (at ys) (at l) j (omega arith))
          ]
    ]
