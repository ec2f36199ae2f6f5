-- A window filled place by place. Assumes nothing.
use mathlib.Core.Path.{◌≡◌, refl, sym, ap, ◌∙◌}
use mathlib.Core.List.{List}
use Prim.Native.Nat.{ℕ, zero, suc, ◌+◌, ◌/◌, ◌%◌, ◌<◌}
use native.Mathlib.Decide.{ℕ_discrete}
use native.Mathlib.Omega.{arith}
use lib.ListN.{length, get_or, set, replicate, length-set, length-replicate}
use lib.Seq.{get_or-set_same, get_or-set_other}
use Rattle.nearest_change.specs.NearestChange.{Ground}
use Rattle.nearest_change.specs.Trials.{number_of}
use Rattle.nearest_change.specs.declared.five.Five.{Five}

-- the places below j have their heights, and every number is one
pub record Filled (g : Ground) (rows columns : Five) (j : ℕ) (w : List ℕ) : Type 0 where
  pub size : length w ≡ 25
  pub done : (s : ℕ) → s < j → get_or w s 0 ≡ g (number_of rows (s % 5)) (number_of columns (s / 5))
  pub small : (s : ℕ) → get_or w s 0 < 65536

zeros : (n s : ℕ) → get_or {A = ℕ} (replicate n 0) s 0 ≡ 0
zeros zero s = refl
zeros (suc n) zero = refl
zeros (suc n) (suc s) = zeros n s

module _ (g : Ground) (rows columns : Five) where
  pub fill_start : Filled g rows columns 0 (replicate 25 0)
  fill_start = record { size = length-replicate {A = ℕ} 25 0; done = λ s h. absurd (omega arith); small = λ s. omega (arith, zeros 25 s) }

  pub fill_more : (j : ℕ) (w : List ℕ) (v : ℕ) → Filled g rows columns j w → j < 25 → v ≡ g (number_of rows (j % 5)) (number_of columns (j / 5)) → v < 65536
      → Filled g rows columns (j + 1) (set w j v)
  fill_more j w v f h e l =
      record {
        size = length-set w j v ∙ f.size;
        done = λ s b. elim (ℕ_discrete s j) [
          | yes q ↦ ap (λ (i : ℕ). get_or (set w j v) i 0) q ∙ own ∙ e ∙ ap (λ (i : ℕ). g (number_of rows (i % 5)) (number_of columns (i / 5))) (sym q)
          | no d ↦ other s d ∙ f.done s (omega arith)
        ];
        small = λ s. elim (ℕ_discrete s j) [ yes q ↦ omega (arith, ap (λ (i : ℕ). get_or (set w j v) i 0) q, own) | no d ↦ omega (arith, other s d, f.small s) ];
      }
    where
      own : get_or (set w j v) j 0 ≡ v
      own = let k = f.size in get_or-set_same w j v 0 (omega arith)

      other : (s : ℕ) → (s ≡ j → ⊥) → get_or (set w j v) s 0 ≡ get_or w s 0
      other s d = get_or-set_other w j s v 0 d
