-- A row deinterleaved into its halves by pairs of numbers, as the LL row is that goes to the next level. Where it starts at an odd coordinate, the first of a
-- pair is a high one. Assumes nothing.
use mathlib.Core.Path.{◌≡◌, refl, sym, ap, ◌∙◌}
use mathlib.Core.Bool.{true}
use Prim.Native.Nat.{ℕ, ◌+◌, ◌-◌, ◌*◌, ◌/◌, ◌%◌, ◌≤◌, ◌<◌}
use native.Mathlib.Decide.{ℕ_discrete}
use native.Mathlib.Omega.{arith}
use lib.IntN.{ℤ}
use lib.Dec.{eqb, leb}
use borrow.Author.Tests.{eq-eqb, ne_eqb, le-leb}
use Rattle.numbers.specs.Signal.{pick, both, spliced, stored}
use Rattle.lifting.specs.Line.{lo, hi}
use Rattle.lifting.specs.Grid.{Side, side, place, count, deinterleaved}
use Rattle.lifting.specs.GridHalves.{deinterleaved_into}
use Rattle.lifting.proofs.GridLaws.{counts, count-lo, count-hi, halves-low, halves-high}
use Rattle.level.specs.Moves.{separated}
use Rattle.level.proofs.RestLaws.{first-second, second-first}
use Rattle.level.proofs.PairLaws.{separated-below, separated-last}

-- a row is deinterleaved past what is read, within a store of k numbers
pub part-fits : (a b v k : ℕ) → a + v ≤ b → b + v ≤ k → both (leb (a + v) b) (leb (b + v) k) ≡ true
part-fits a b v k f g = simp (le-leb (a + v) b f, le-leb (b + v) k g)

-- where the first number of a row in halves stands, and where the second
module _ (start v o : ℕ) (eo : o ≡ pick (eqb (start % 2) 0) 0 (count lo (side start v))) where
  pub first-even : start % 2 ≡ 0 → (o ≡ 0) × (count lo (side start v) ≡ v - v / 2)
  first-even e = (eo ∙ simp (eq-eqb (start % 2) 0 e), count-lo (side start v) e)

  pub first-odd : start % 2 ≡ 1 → (o ≡ v / 2) × (count lo (side start v) ≡ v / 2)
  first-odd e =
      let c = count-hi (side start v) e in
      (eo ∙ simp (ne_eqb (start % 2) 0 (omega arith)) c, c)

  pub record FirstAt (low : ℕ) : Type 0 where
    pub within : o ≤ low
    pub above : low ≤ v
    pub apart : v / 2 ≤ (low - o - o) + (o - (low - o))
    pub first-in : o + (v - v / 2) ≤ v
    pub second-in : low - o + v / 2 ≤ v
    -- the last number by itself is none of the seconds
    pub last : 2 * (v / 2) < v → low - o ≤ o + v / 2 → low - o ≤ o

  pub first-at : FirstAt (count lo (side start v))
  first-at =
      elim (ℕ_discrete (start % 2) 0) [
        | yes e ↦
            let t = first-even e in
            record {
              within = omega arith;
              above = omega arith;
              apart = omega arith;
              first-in = omega arith;
              second-in = omega arith;
              last = λ g h. omega arith;
            }
        | no d ↦
            let t = first-odd (omega (arith, d)) in
            record {
              within = omega arith;
              above = omega arith;
              apart = omega arith;
              first-in = omega arith;
              second-in = omega arith;
              last = λ g h. omega arith;
            }
      ]

-- the v numbers from place a on, a row that starts at coordinate `start`, deinterleaved from place b on
module _ (a b start v : ℕ) (x : ℕ → ℤ) where
  abbrev S : Side
  S = side start v

  abbrev row : ℕ → ℤ
  row i = x (a + i)

  abbrev E : ℕ → ℤ
  E j = x (a + 2 * j)

  abbrev O : ℕ → ℤ
  O j = x (a + (2 * j + 1))

  low-part : (z : ℕ → ℤ) (i : ℕ) → i < count lo S → deinterleaved_into S row z i ≡ row (2 * i + start % 2)
  unfolding deinterleaved_into deinterleaved place
  low-part z i h = halves-low S (deinterleaved S row) z i h

  high-part : (z : ℕ → ℤ) (i : ℕ) → i < count hi S → deinterleaved_into S row z (count lo S + i) ≡ row (2 * i + (1 - start % 2))
  unfolding deinterleaved_into deinterleaved place
  high-part z i h =
      let k : count lo S + i - count lo S ≡ i = omega arith in
      halves-high S (deinterleaved S row) z (count lo S + i) (omega arith) (omega (arith, counts S)) ∙ ap (λ (n : ℕ). row (2 * n + (1 - start % 2))) k

  module _ (o : ℕ) (eo : o ≡ pick (eqb (start % 2) 0) 0 (count lo S)) where
    -- by firsts and seconds
    deinterleaved-as : (z : ℕ → ℤ) → spliced (b + (count lo S - o)) (v / 2) O (spliced (b + o) (v - v / 2) E x) ≡ spliced b v (deinterleaved_into S row z) x
    deinterleaved-as z =
        let sum = counts S in
        elim (ℕ_discrete (start % 2) 0) [
          | yes e ↦
              let t = first-even start v o eo e in
              let f : b + o ≡ b = omega arith in
              let g : b + (count lo S - o) ≡ b + count lo S = omega arith in
              let k : v - v / 2 ≡ count lo S = sym t.1 in
              let l : v / 2 ≡ count hi S = omega arith in
              rw (f, g, k, l)
              (sym
              (first-second b (count lo S) (count hi S) (deinterleaved_into S row z) E O x
              (λ i h. low-part z i h ∙ ap x (omega arith)) (λ i h. high-part z i h ∙ ap x (omega arith)))
              ∙ ap (λ (n : ℕ). spliced b n (deinterleaved_into S row z) x) sum)
          | no d ↦
              let t = first-odd start v o eo (omega (arith, d)) in
              let f : b + o ≡ b + count lo S = omega arith in
              let g : b + (count lo S - o) ≡ b = omega arith in
              let k : v - v / 2 ≡ count hi S = omega arith in
              let l : v / 2 ≡ count lo S = sym t.1 in
              rw (f, g, k, l)
              (sym
              (second-first b (count lo S) (count hi S) (deinterleaved_into S row z) O E x
              (λ i h. low-part z i h ∙ ap x (omega (arith, d))) (λ i h. high-part z i h ∙ ap x (omega (arith, d))))
              ∙ ap (λ (n : ℕ). spliced b n (deinterleaved_into S row z) x) sum)
        ]

    -- an even number of numbers is pairs, an odd one has another after them
    module _ (low k f s : ℕ) (el : low ≡ count lo S) (ek : k ≡ v / 2) (ef : f ≡ b + o) (es : s ≡ b + (low - o)) where
      whole : spliced s k O (spliced f (v - v / 2) E x) ≡ spliced b v (deinterleaved_into S row x) x
      whole = rw (es, ef, el, ek) (deinterleaved-as x)

      pub deinterleaved-even : (x₁ : ℕ → ℤ) → v ≤ 2 * k → x₁ ≡ separated a f s k x → x₁ ≡ spliced b v (deinterleaved_into S row x) x
      unfolding separated
      deinterleaved-even x₁ h e =
          let m : k ≡ v - v / 2 = omega arith in
          e ∙ ap (λ (z : ℕ). spliced s k O (spliced f z E x)) m ∙ whole

      pub deinterleaved-odd : (x₁ x₂ : ℕ → ℤ) → a + v ≤ b → 2 * k < v → x₁ ≡ separated a f s k x
          → x₂ ≡ stored (f + k) (x₁ (a + 2 * k)) x₁ → x₂ ≡ spliced b v (deinterleaved_into S row x) x
      deinterleaved-odd x₁ x₂ past h e e₂ =
          let t = first-at start v o eo in
          let m : k + 1 ≡ v - v / 2 = omega arith in
          let u : x₁ (a + 2 * k) ≡ x (a + 2 * k) =
          ap (λ (y : ℕ → ℤ). y (a + 2 * k)) e ∙ separated-below a f s k x (a + 2 * k) (omega arith) (omega arith) in
          e₂
          ∙ rw u (ap (stored (f + k) (x (a + 2 * k))) e)
          ∙ separated-last a f s k x (λ g. let r = t.last (omega arith) (omega arith) in omega arith)
          ∙ ap (λ (z : ℕ). spliced s k O (spliced f z E x)) m
          ∙ whole

  -- what is deinterleaved does not hang on what stood there
  pub deinterleaved-any : (z z' : ℕ → ℤ) → spliced b v (deinterleaved_into S row z) x ≡ spliced b v (deinterleaved_into S row z') x
  deinterleaved-any z z' = sym (deinterleaved-as _ refl z) ∙ deinterleaved-as _ refl z'
