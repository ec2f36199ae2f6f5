-- The rest of a store from place a on, as a signal: lent, `at_rest`, and come back, `at_join`; and numbers written within it. Assumes nothing.
use mathlib.Core.Path.{◌≡◌, refl, sym, ap, ◌∙◌, fun_ext}
use mathlib.Core.List.{List, ◌++◌, append-nil}
use Prim.Native.Nat.{ℕ, ◌+◌, ◌-◌, ◌≤◌, ◌<◌}
use native.Mathlib.Decide.{dec_lt}
use native.Mathlib.Omega.{arith}
use lib.IntN.{ℤ, pos}
use lib.ListN.{length, take, drop, length-drop, get_or-append}
use lib.Seq.{get_or-take, get_or-drop, get_or-append-add, length-take-le, take_all, drop-length}
use borrow.Author.Tests.{lt-ltb, le-ltb}
use borrow.Rule.Slice.PartMut.{mid_of, put_mid, Post-is}
use Rattle.numbers.specs.Signal.{at, spliced}
use Rattle.numbers.proofs.Parts.{splice-below, splice-in, splice-past}
use Rattle.level.specs.Level.{rest, join_at}

pub rest_at : (a : ℕ) (x : ℕ → ℤ) (j : ℕ) → rest a x j ≡ x (a + j)
unfolding rest
rest_at a x j = refl

-- ---- below and past the seam
module _ (a : ℕ) (x t : ℕ → ℤ) where
  pub join-below : (j : ℕ) → j < a → join_at a x t j ≡ x j
  unfolding join_at
  join-below j h = simp (lt-ltb j a h)

  pub join-past : (j : ℕ) → a ≤ j → join_at a x t j ≡ t (j - a)
  unfolding join_at
  join-past j h = simp (le-ltb j a h)

  pub rest-join : rest a (join_at a x t) ≡ t
  unfolding rest
  rest-join = fun_ext λ j. let k : a + j - a ≡ j = omega arith in join-past (a + j) (omega arith) ∙ ap t k

  pub join-again : (u : ℕ → ℤ) → join_at a (join_at a x t) u ≡ join_at a x u
  join-again u =
      fun_ext λ j.
      elim (dec_lt j a) [
        | yes h ↦ join-below' (join_at a x t) u j h ∙ join-below j h ∙ sym (join-below' x u j h)
        | no d ↦ join-past' (join_at a x t) u j (omega arith) ∙ sym (join-past' x u j (omega arith))
      ]
    where
      join-below' : (x t : ℕ → ℤ) (j : ℕ) → j < a → join_at a x t j ≡ x j
      join-below' x t j h = unfold join_at in simp (lt-ltb j a h)

      join-past' : (x t : ℕ → ℤ) (j : ℕ) → a ≤ j → join_at a x t j ≡ t (j - a)
      join-past' x t j h = unfold join_at in simp (le-ltb j a h)

-- ---- a part that reaches to the end
module _ (a : ℕ) (l : List ℤ) where
  pub at_rest : at (mid_of a (length l - a) l) ≡ rest a (at l)
  unfolding rest
  at_rest =
      let e : mid_of a (length l - a) l ≡ drop a l = take_all (length l - a) (drop a l) (simp length-drop (omega arith)) in
      fun_ext λ j. ap (λ (m : List ℤ). at m j) e ∙ get_or-drop a l j (pos 0)

  pub at_join : (y : List ℤ) → a ≤ length l → at (put_mid a (length l - a) l y) ≡ join_at a (at l) (at y)
  at_join y h =
      let e : put_mid a (length l - a) l y ≡ take a l ++ y =
      ap (λ (z : List ℤ). take a l ++ (y ++ z)) (Post-is a (length l) l h ∙ drop-length l) ∙ ap (λ (z : List ℤ). take a l ++ z) (append-nil y) in
      let front : length (take a l) ≡ a = length-take-le a l h in
      fun_ext λ j.
      ap (λ (m : List ℤ). at m j) e
      ∙ elim (dec_lt j a) [
        | yes p ↦ get_or-append (take a l) y (pos 0) j (omega arith) ∙ get_or-take a l j (pos 0) p ∙ sym (join-below a (at l) (at y) j p)
        | no d ↦
            let k : j ≡ length (take a l) + (j - a) = omega arith in
            ap (at (take a l ++ y)) k ∙ get_or-append-add (take a l) y (j - a) (pos 0) ∙ sym (join-past a (at l) (at y) j (omega arith))
      ]

-- ---- numbers written
-- written within the rest, or within the whole
pub join-splice : (a b n : ℕ) (y x : ℕ → ℤ) → join_at a x (spliced b n y (rest a x)) ≡ spliced (a + b) n y x
join-splice a b n y x =
    fun_ext λ j.
    elim (dec_lt j a) [
      | yes p ↦ join-below a x _ j p ∙ sym (splice-below (a + b) n y x j (omega arith))
      | no d ↦
          let k : a + (j - a) ≡ j = omega arith in
          let back : rest a x (j - a) ≡ x j = rest_at a x (j - a) ∙ ap x k in
          join-past a x _ j (omega arith)
          ∙ elim (dec_lt (j - a) b) [
            | yes p ↦ splice-below b n y _ (j - a) p ∙ back ∙ sym (splice-below (a + b) n y x j (omega arith))
            | no e ↦
                elim (dec_lt (j - a) (b + n)) [
                  | yes q ↦
                      let k : j - a - b ≡ j - (a + b) = omega arith in
                      splice-in b n y _ (j - a) (omega arith) q ∙ ap y k ∙ sym (splice-in (a + b) n y x j (omega arith) (omega arith))
                  | no q ↦ splice-past b n y _ (j - a) (omega arith) ∙ back ∙ sym (splice-past (a + b) n y x j (omega arith))
                ]
          ]
    ]

-- n + m numbers y, written as the first n and the m after them, in either order
module _ (b n m : ℕ) (y p q x : ℕ → ℤ) (e : (i : ℕ) → i < n → y i ≡ p i) (d : (i : ℕ) → i < m → y (n + i) ≡ q i) where
  parts : (z : ℕ → ℤ) (j : ℕ) → (j < b → z j ≡ x j) → (b ≤ j → j < b + n → z j ≡ p (j - b)) → (b + n ≤ j → j < b + n + m → z j ≡ q (j - (b + n)))
      → (b + n + m ≤ j → z j ≡ x j) → spliced b (n + m) y x j ≡ z j
  parts z j before first second past =
      elim (dec_lt j b) [
        | yes h ↦ splice-below b (n + m) y x j h ∙ sym (before h)
        | no h ↦
            elim (dec_lt j (b + n)) [
              | yes k ↦ splice-in b (n + m) y x j (omega arith) (omega arith) ∙ e (j - b) (omega arith) ∙ sym (first (omega arith) k)
              | no k ↦
                  elim (dec_lt j (b + n + m)) [
                    | yes l ↦
                        let i : j - b ≡ n + (j - (b + n)) = omega arith in
                        splice-in b (n + m) y x j (omega arith) (omega arith) ∙ ap y i ∙ d (j - (b + n)) (omega arith) ∙ sym (second (omega arith) l)
                    | no l ↦ splice-past b (n + m) y x j (omega arith) ∙ sym (past (omega arith))
                  ]
            ]
      ]

  pub first-second : spliced b (n + m) y x ≡ spliced (b + n) m q (spliced b n p x)
  first-second =
      fun_ext λ j.
      let z : ℕ → ℤ = spliced b n p x in
      parts (spliced (b + n) m q z) j
      (λ h. splice-below (b + n) m q z j (omega arith) ∙ splice-below b n p x j h)
      (λ h k. splice-below (b + n) m q z j k ∙ splice-in b n p x j h k)
      (λ h k. splice-in (b + n) m q z j h k)
      (λ h. splice-past (b + n) m q z j h ∙ splice-past b n p x j (omega arith))

  pub second-first : spliced b (n + m) y x ≡ spliced b n p (spliced (b + n) m q x)
  second-first =
      fun_ext λ j.
      let z : ℕ → ℤ = spliced (b + n) m q x in
      parts (spliced b n p z) j
      (λ h. splice-below b n p z j h ∙ splice-below (b + n) m q x j (omega arith))
      (λ h k. splice-in b n p z j h k)
      (λ h k. splice-past b n p z j h ∙ splice-in (b + n) m q x j h k)
      (λ h. splice-past b n p z j (omega arith) ∙ splice-past (b + n) m q x j h)
