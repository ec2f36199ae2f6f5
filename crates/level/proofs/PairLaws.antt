-- A row taken apart in pairs: one pair more is two stores. Assumes nothing.
use mathlib.Core.Path.{◌≡◌, refl, sym, ap, ◌∙◌, fun_ext}
use mathlib.Core.List.{List}
use Prim.Native.Nat.{ℕ, ◌+◌, ◌-◌, ◌*◌, ◌≤◌, ◌<◌}
use native.Mathlib.Decide.{ℕ_discrete, dec_lt}
use native.Mathlib.Omega.{arith}
use lib.IntN.{ℤ, pos}
use lib.ListN.{length, set, length-set}
use lib.Seq.{get_or-set_other}
use Rattle.numbers.specs.Signal.{at, spliced, stored}
use Rattle.numbers.proofs.Parts.{splice-below, splice-in, splice-past}
use Rattle.numbers.proofs.Stores.{at_stored, stored_at, stored-off}
use Rattle.level.specs.Moves.{separated}

-- ---- k numbers y written from place a on
module _ (a k : ℕ) (y : ℕ → ℤ) where
  -- one number more is a store
  splice-more : (x : ℕ → ℤ) → spliced a (k + 1) y x ≡ stored (a + k) (y k) (spliced a k y x)
  splice-more x =
      fun_ext λ j.
      elim (ℕ_discrete j (a + k)) [
        | yes e ↦ let m : j - a ≡ k = omega arith in splice-in a (k + 1) y x j (omega arith) (omega arith) ∙ ap y m ∙ sym (stored_at (a + k) j _ _ e)
        | no d ↦
            elim (dec_lt j a) [
              | yes p ↦ splice-below a (k + 1) y x j p ∙ sym (stored-off (a + k) j _ _ d ∙ splice-below a k y x j p)
              | no n ↦
                  elim (dec_lt j (a + k)) [
                    | yes p ↦ splice-in a (k + 1) y x j (omega arith) (omega arith) ∙ sym (stored-off (a + k) j _ _ d ∙ splice-in a k y x j (omega arith) p)
                    | no m ↦ splice-past a (k + 1) y x j (omega (arith, d)) ∙ sym (stored-off (a + k) j _ _ d ∙ splice-past a k y x j (omega arith))
                  ]
            ]
      ]

  -- a store beside them can come before or after
  splice-swap : (x : ℕ → ℤ) (p : ℕ) (v : ℤ) → (a ≤ p → a + k ≤ p) → spliced a k y (stored p v x) ≡ stored p v (spliced a k y x)
  splice-swap x p v off =
      fun_ext λ j.
      elim (dec_lt j a) [
        | yes q ↦
            splice-below a k y (stored p v x) j q
            ∙ elim (ℕ_discrete j p) [
              | yes e ↦ stored_at p j v x e ∙ sym (stored_at p j v _ e)
              | no d ↦ stored-off p j v x d ∙ sym (stored-off p j v _ d ∙ splice-below a k y x j q)
            ]
        | no n ↦
            elim (dec_lt j (a + k)) [
              | yes q ↦
                  let d : j ≡ p → ⊥ = λ e. let l = off (omega arith) in omega arith in
                  splice-in a k y (stored p v x) j (omega arith) q ∙ sym (stored-off p j v _ d ∙ splice-in a k y x j (omega arith) q)
              | no m ↦
                  splice-past a k y (stored p v x) j (omega arith)
                  ∙ elim (ℕ_discrete j p) [
                    | yes e ↦ stored_at p j v x e ∙ sym (stored_at p j v _ e)
                    | no d ↦ stored-off p j v x d ∙ sym (stored-off p j v _ d ∙ splice-past a k y x j (omega arith))
                  ]
            ]
      ]

-- ---- k pairs
module _ (a e o k : ℕ) (x : ℕ → ℤ) where
  abbrev E : ℕ → ℤ
  E j = x (a + 2 * j)

  abbrev O : ℕ → ℤ
  O j = x (a + (2 * j + 1))

  pub separated-below : (p : ℕ) → p < e → p < o → separated a e o k x p ≡ x p
  unfolding separated
  separated-below p h g = splice-below o k O _ p g ∙ splice-below e k E x p h

  -- the first of another pair, which is none of the seconds
  pub separated-last : (o ≤ e + k → o + k ≤ e + k) → stored (e + k) (x (a + 2 * k)) (separated a e o k x) ≡ spliced o k O (spliced e (k + 1) E x)
  unfolding separated
  separated-last h = sym (splice-swap o k O (spliced e k E x) (e + k) (E k) h) ∙ ap (spliced o k O) (sym (splice-more e k E x))

  separated_more : (o ≤ e + k → o + k ≤ e + k) → separated a e o (k + 1) x ≡ stored (o + k) (O k) (stored (e + k) (E k) (separated a e o k x))
  separated_more h = first ∙ ap (stored (o + k) (O k)) (sym (separated-last h))
    where
      first : separated a e o (k + 1) x ≡ stored (o + k) (O k) (spliced o k O (spliced e (k + 1) E x))
      first = unfold separated in splice-more o k O (spliced e (k + 1) E x)

-- ---- the loop: before turn j of n, m₀ being the list at the start
pub record Pairs (a e o n : ℕ) (m₀ : List ℤ) (j : ℕ) (m : List ℤ) : Type 0 where
  pub within : j ≤ n
  pub firsts : a + 2 * n ≤ e
  pub seconds : a + 2 * n ≤ o
  pub apart : n ≤ (o - e) + (e - o)
  pub first-room : e + n ≤ length m₀
  pub second-room : o + n ≤ length m₀
  pub size : length m ≡ length m₀
  pub value : at m ≡ separated a e o j (at m₀)

module _ (a e o n : ℕ) (m₀ : List ℤ) where
  pub pairs_start : a + 2 * n ≤ e → a + 2 * n ≤ o → n ≤ (o - e) + (e - o) → e + n ≤ length m₀ → o + n ≤ length m₀ → Pairs a e o n m₀ 0 m₀
  unfolding separated
  pairs_start h g d r s = record {
    within = omega arith;
    firsts = h;
    seconds = g;
    apart = d;
    first-room = r;
    second-room = s;
    size = refl;
    value = sym (none o _ _ ∙ none e _ _);
  }
    where
      none : (b : ℕ) (y x : ℕ → ℤ) → spliced b 0 y x ≡ x
      none b y x =
          fun_ext λ j.
          elim (dec_lt j b) [
            | yes p ↦ splice-below b 0 y x j p
            | no d ↦ splice-past b 0 y x j (omega arith)
          ]

  -- what is read is as it was
  pub pairs-read : (j : ℕ) (m : List ℤ) → Pairs a e o n m₀ j m → (p : ℕ) → p < a + 2 * n → at m p ≡ at m₀ p
  pairs-read j m c p h = ap (λ (y : ℕ → ℤ). y p) c.value ∙ separated-below a e o j (at m₀) p (omega (arith, c.firsts)) (omega (arith, c.seconds))

  pub pairs-again : (j : ℕ) (m : List ℤ) (v : ℤ) → Pairs a e o n m₀ j m → (p : ℕ) → p < a + 2 * n → at (set m (e + j) v) p ≡ at m₀ p
  pairs-again j m v c p h = get_or-set_other m (e + j) p v (pos 0) (λ q. omega (arith, c.firsts, q)) ∙ pairs-read j m c p h

  pub pairs-turn : (j : ℕ) (m : List ℤ) (v u : ℤ) → Pairs a e o n m₀ j m → j < n → v ≡ at m₀ (a + 2 * j) →
      u ≡ at m₀ (a + (2 * j + 1)) → Pairs a e o n m₀ (j + 1) (set (set m (e + j) v) (o + j) u)
  pairs-turn j m v u c h ev eu =
      let n₁ = length-set m (e + j) v in
      let n₂ = length-set (set m (e + j) v) (o + j) u in
      let s₁ = at_stored m (e + j) v (omega (arith, c.first-room, c.size)) in
      let s₂ = at_stored (set m (e + j) v) (o + j) u (omega (arith, c.second-room, c.size)) in
      record {
        within = omega arith;
        firsts = c.firsts;
        seconds = c.seconds;
        apart = c.apart;
        first-room = c.first-room;
        second-room = c.second-room;
        size = n₂ ∙ n₁ ∙ c.size;
        value = cc (s₁, s₂, c.value, ev, eu, separated_more a e o j (at m₀) (λ b. omega (arith, c.apart)));
      }

  pub pairs_end : (j : ℕ) (m : List ℤ) → Pairs a e o n m₀ j m → n ≤ j → at m ≡ separated a e o n (at m₀)
  pairs_end j m c h = let q : j ≡ n = omega (arith, c.within) in c.value ∙ ap (λ (k : ℕ). separated a e o k (at m₀)) q
