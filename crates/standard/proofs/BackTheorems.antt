-- The way back of the calls is the inverse of T.800's way forward: of a line, of a level and of all levels. Assumes nothing.
use mathlib.Core.Path.{◌≡◌, sym, ◌∙◌}
use mathlib.Core.Bool.{true}
use Prim.Native.Nat.{ℕ, zero, suc, ◌<◌}
use lib.IntN.{ℤ}
use Rattle.numbers.specs.Word.{whole}
use Rattle.lifting.specs.Line.{Half}
use Rattle.lifting.specs.Grid.{Side, count, has_line}
use Rattle.lifting.specs.Filter.{Filter, line_back_by}
use Rattle.lifting.proofs.FilterLaws.{FilterLaws, wholes}
use Rattle.wavelet.specs.Bands.{Grid, level_back, subband}
use Rattle.wavelet.proofs.LevelTheory.{level-back-reads, whole-back-forward}
use Rattle.filters.specs.Filters.{filter_of}
use Rattle.standard.specs.Line.{LiftingSteps, over, line_value}
use Rattle.standard.specs.Transform.{one_level, band_at, placed, counted}
use Rattle.standard.specs.Joins.{Joins, steps_of}
use Rattle.standard.proofs.LineTheorems.{five-three-joins, nine-seven-joins}
use Rattle.standard.proofs.LevelTheorems.{level-is}

module _ (F : Filter) (T : LiftingSteps) (join : Joins F T) (laws : FilterLaws F) where
  pub line-back : (S : Side) (x : ℕ → ℤ) (i : ℕ) → i < S.length → line_back_by F whole S (line_value T S x) i ≡ x i
  line-back S x i b =
      laws.back-reads whole S (line_value T S x) (F.forward whole S x) (λ h n p. sym (join.line S x h n p)) i b
      ∙ laws.line-back-forward wholes S x (λ _ _. tt) (λ _. tt) i b

  pub back-line : (S : Side) (c : Half → ℕ → ℤ) → has_line S c ≡ true → (h : Half) (n : ℕ) → n < count h S → line_value T S (line_back_by F whole S c) h n ≡ c h n
  back-line S c has h n b = sym (join.line S (line_back_by F whole S c) h n b) ∙ laws.line-forward-back wholes S c (λ _ _ _. tt) has h n b

  pub level-back : (W H : Side) (g : Grid) (r c : ℕ) → r < H.length → c < W.length
      → level_back F whole W H (λ b. counted (over W) (over H) b (band_at b (one_level T (over W) (over H) (placed W H g)))) r c ≡ g r c
  level-back W H g r c p q =
      level-back-reads F laws whole W H _ (subband F whole W H g) (λ b i j k l. sym (level-is F T join W H g b i j k l)) r c p q
      ∙ whole-back-forward F laws W H g r c p q

-- of both filters, by their numbers
pub filter-joins : (f : ℕ) → Joins (filter_of f) (steps_of f)
unfolding filter_of steps_of
filter-joins zero = five-three-joins
filter-joins (suc f) = nine-seven-joins
