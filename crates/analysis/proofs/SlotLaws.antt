-- The slots of rows as the code tells them: by the number of the branch, and of a set by its number modulo 4. Assumes nothing.
use mathlib.Core.Path.{◌≡◌, refl, ap, ◌∙◌}
use Prim.Native.Nat.{ℕ, zero, suc, ◌+◌, ◌*◌, ◌%◌, ◌<◌}
use native.Mathlib.Omega.{arith}
use native.Mathlib.Nat.{mod-lt}
use Rattle.lifting.specs.Line.{lo, hi}
use Rattle.filters.specs.Filters.{filter_of}
use Rattle.analysis.specs.Sets.{waits_at}
use Rattle.analysis.proofs.FilterColumns.{rows-some}

-- 0, or any other number
pub slot-first : (f q : ℕ) → f ≡ 0 → (q % 4 ≡ q % (filter_of f).rows) × (q % 4 < 8)
unfolding filter_of
slot-first zero q e = (refl, omega arith)
slot-first (suc f) q e = absurd (omega arith)

pub slot-second : (f q : ℕ) → (f ≡ 0 → ⊥) → (q % 8 ≡ q % (filter_of f).rows) × (q % 8 < 8)
unfolding filter_of
slot-second zero q d = absurd (d refl)
slot-second (suc f) q d = (refl, omega arith)

-- d past row 2n
pub on-slot : (f n d : ℕ) → (2 * (n % 4) + d) % (filter_of f).rows ≡ (2 * n + d) % (filter_of f).rows
unfolding filter_of
on-slot zero n d = omega arith
on-slot (suc f) n d = omega arith

pub number-slot : (f b k : ℕ) → (2 * (b + k % 4) + 0) % (filter_of f).rows ≡ 2 * (b + k) % (filter_of f).rows
unfolding filter_of
number-slot zero b k = omega arith
number-slot (suc f) b k = omega arith

pub at_slot : (f n s : ℕ) → s ≡ (2 * n + 0) % (filter_of f).rows → s ≡ 2 * n % (filter_of f).rows
at_slot f n s e = let z : 2 * n + 0 ≡ 2 * n = omega arith in e ∙ ap (λ (q : ℕ). q % (filter_of f).rows) z

-- where the rows of set n wait
module _ (f n s : ℕ) where
  pub low_first : f ≡ 0 → s ≡ (2 * n + 4) % (filter_of f).rows → s ≡ waits_at (filter_of f).ahead lo n % (filter_of f).rows
  low_first e d = d ∙ ap (λ (q : ℕ). q % (filter_of f).rows) (go f e)
    where
      go : (f : ℕ) → f ≡ 0 → 2 * n + 4 ≡ waits_at (filter_of f).ahead lo n
      go zero e = unfold filter_of in refl
      go (suc f) e = absurd (omega arith)

  pub low_second : (f ≡ 0 → ⊥) → s ≡ (2 * n + 6) % (filter_of f).rows → s ≡ waits_at (filter_of f).ahead lo n % (filter_of f).rows
  low_second e d = d ∙ ap (λ (q : ℕ). q % (filter_of f).rows) (go f e)
    where
      go : (f : ℕ) → (f ≡ 0 → ⊥) → 2 * n + 6 ≡ waits_at (filter_of f).ahead lo n
      go zero e = absurd (e refl)
      go (suc f) e = unfold filter_of in refl

  pub high-first : f ≡ 0 → s ≡ (2 * n + 3) % (filter_of f).rows → s ≡ waits_at (filter_of f).ahead hi n % (filter_of f).rows
  high-first e d = d ∙ ap (λ (q : ℕ). q % (filter_of f).rows) (go f e)
    where
      go : (f : ℕ) → f ≡ 0 → 2 * n + 3 ≡ waits_at (filter_of f).ahead hi n
      go zero e = unfold filter_of in refl
      go (suc f) e = absurd (omega arith)

  pub high-second : (f ≡ 0 → ⊥) → s ≡ (2 * n + 7) % (filter_of f).rows → s ≡ waits_at (filter_of f).ahead hi n % (filter_of f).rows
  high-second e d = d ∙ ap (λ (q : ℕ). q % (filter_of f).rows) (go f e)
    where
      go : (f : ℕ) → (f ≡ 0 → ⊥) → 2 * n + 7 ≡ waits_at (filter_of f).ahead hi n
      go zero e = absurd (e refl)
      go (suc f) e = unfold filter_of in refl

-- a slot is one of the rows kept, so few that no place overflows
pub in_rows : (f s q : ℕ) → s ≡ q % (filter_of f).rows → s < (filter_of f).rows
in_rows f s q e = omega (arith, e, mod-lt q (rows-some f))
