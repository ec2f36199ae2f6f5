-- A step by the two neighbours of a number in the other half, mirrored at the ends, by any rule. Assumes nothing.
use Prim.Native.Nat.{ℕ, ◌+◌, ◌-◌, ◌≤◌, ◌<◌}
use mathlib.Core.Path.{◌≡◌, refl, sym, ap, ap₂, ◌∙◌}
use native.Mathlib.Omega.{arith}
use lib.IntN.{ℤ}
use Rattle.lifting.specs.Line.{Half, lo, hi}
use Rattle.lifting.specs.Grid.{Side, side, place, count}
use Rattle.lifting.specs.Passes.{near}
use Rattle.lifting.proofs.GridLaws.{ahead, other}
use Rattle.lifting.proofs.TwoSteps.{Step}

-- the neighbours of number n in half h
abbrev pub left : Half → Side → ℕ → ℕ
left h S n = near (count h S) (n + ahead S h - 1)

abbrev pub right : Half → Side → ℕ → ℕ
right h S n = near (count h S) (n + ahead S h)

-- they are there, no further on than the next place
pub left-in : (h : Half) (S : Side) (n : ℕ) → 1 < S.length → n < count (other h) S
    → (left h S n < count h S) × (place S h (left h S n) ≤ place S (other h) n + 1)
unfolding place count
left-in lo S n g b = (omega arith, omega arith)
left-in hi S n g b = (omega arith, omega arith)

pub right-in : (h : Half) (S : Side) (n : ℕ) → 1 < S.length → n < count (other h) S
    → (right h S n < count h S) × (place S h (right h S n) ≤ place S (other h) n + 1)
unfolding place count
right-in lo S n g b = (omega arith, omega arith)
right-in hi S n g b = (omega arith, omega arith)

-- and short of the end they are so whatever the length
pub left-inner : (h : Half) (S : Side) (n : ℕ) → place S (other h) n + 1 < S.length → left h S n ≡ n + ahead S h - 1
unfolding place count
left-inner lo S n l = omega arith
left-inner hi S n l = omega arith

pub right-inner : (h : Half) (S : Side) (n : ℕ) → place S (other h) n + 1 < S.length → right h S n ≡ n + ahead S h
unfolding place count
right-inner lo S n l = omega arith
right-inner hi S n l = omega arith

pub ahead-same : (h : Half) (s N N' : ℕ) → ahead (side s N) h ≡ ahead (side s N') h
ahead-same lo s N N' = refl
ahead-same hi s N N' = refl

abbrev pub by_two : (h : Half) → (ℤ → ℤ → ℤ) → Step h
by_two h f = record {
  says = λ S n a. f (a (left h S n)) (a (right h S n));
  reach = 1;
  ahead = omega arith;
  reads = λ S n a b g m e.
      let l = left-in h S n g m in
      let r = right-in h S n g m in
      ap₂ f (e (left h S n) l.0 l.1) (e (right h S n) r.0 r.1);
  inner = λ s N N' n a l m.
      let e = ahead-same h s N N' in
      ap₂ (λ (u v : ℕ). f (a u) (a v))
      (left-inner h (side s N) n l ∙ ap (λ (k : ℕ). n + k - 1) e ∙ sym (left-inner h (side s N') n m))
      (right-inner h (side s N) n l ∙ ap (λ (k : ℕ). n + k) e ∙ sym (right-inner h (side s N') n m));
}
