-- Each filter's own passes over a level are those of the definition. Assumes nothing.
use mathlib.Core.Path.{◌≡◌, refl, ap, ◌∙◌, fun_ext}
use mathlib.Core.Bool.{Bool, true}
use Prim.Native.Nat.{ℕ, zero, suc, ◌+◌, ◌-◌, ◌*◌, ◌/◌, ◌%◌, ◌≤◌, ◌<◌, min}
use native.Mathlib.Nat.{div-add-mod'}
use native.Mathlib.Omega.{arith}
use lib.IntN.{ℤ, pos}
use Rattle.numbers.specs.Signal.{pick}
use Rattle.lifting.specs.Grid.{Side}
use Rattle.lifting.specs.GridHalves as five
use Rattle.lifting.specs.FiveThree.{five_three_filter}
use Rattle.lifting.proofs.RowLaws.{row-fits}
use Rattle.nine_seven.specs.Memory as nine
use Rattle.nine_seven.specs.NineSevenFilter.{nine_seven_filter}
use Rattle.nine_seven_sweep.specs.Columns.{column, columns_by, columns_lifted, columns_fit}
use Rattle.areas.proofs.AreaLaws.{did}
use Rattle.wavelet.specs.Limits.{range}
use Rattle.wavelet.specs.Bands.{Grid}
use Rattle.wavelet.specs.Plane.{cells, flat}
use Rattle.wavelet.proofs.GridLaws.{cells-flat}
use Rattle.map_levels.specs.Passes.{Rows, within, rows_mapped}
use Rattle.filters.specs.Filters.{filter_of}
use Rattle.map_levels.specs.ByFilter.{lifted_by, columns_lifted_by, level_lifted_by}
use Rattle.map_levels.specs.LevelPasses.{columns_lifted_in_place, level_lifted, plane_written, region_in_range, MapRebuilt}
use Rattle.map_levels.proofs.CellLaws.{flat-same}
use Rattle.map_levels.proofs.LevelCalls.{mapped-same}

pub five-three-level : (W H : Side) (X : Grid) → level_lifted W H X ≡ level_lifted_by five_three_filter W H X
unfolding level_lifted level_lifted_by columns_lifted_in_place columns_lifted_by lifted_by five.lifted_in_place
five-three-level W H X = refl

-- the columns by the 9/7
module _ (n s w : ℕ) (H : Side) (x x' : ℕ → ℤ) (R : Rows n s w H.length) where
  fits : columns_fit n s w H.length ≡ true
  unfolding columns_fit
  fits = row-fits n s w (H.length - 1) R.wide R.room

  swept : columns_lifted s w H x ≡ flat s (columns_lifted_by nine_seven_filter w H (cells s x))
  unfolding columns_lifted columns_by column flat cells columns_lifted_by lifted_by nine.lifted_in_place within
  swept =
      fun_ext λ j.
      let back : j / s * s + j % s ≡ j = div-add-mod' j s in
      rw back

  pub nine-seven-columns : x' ≡ pick (columns_fit n s w H.length) (columns_lifted s w H x) x →
      x' ≡ flat s (columns_lifted_by nine_seven_filter w H (cells s x))
  nine-seven-columns is = did _ _ _ _ fits is ∙ swept

-- and then the rows
pub nine-seven-rows : (s : ℕ) (W H : Side) (x y z : ℕ → ℤ) → 0 < s → W.length ≤ s →
    y ≡ flat s (columns_lifted_by nine_seven_filter W.length H (cells s x)) →
    z ≡ flat s (rows_mapped (nine.lifted_in_place W) W.length H.length (cells s y)) → z ≡ flat s (level_lifted_by nine_seven_filter W H (cells s x))
unfolding level_lifted_by lifted_by nine.lifted_in_place
nine-seven-rows s W H x y z some wide e f =
    let Z = columns_lifted_by nine_seven_filter W.length H (cells s x) in
    let same : (r c : ℕ) → c < s → cells s y r c ≡ Z r c = λ r c cs. ap (λ (u : ℕ → ℤ). cells s u r c) e ∙ cells-flat s Z r c cs in
    f ∙ flat-same s _ _ some
    (λ r c cs. mapped-same (nine.lifted_in_place W) W.length H.length (cells s y) Z r c (same r c cs) (λ j jw. same r j (omega arith)))

-- the levels of either filter
pub five-levels : (f L : ℕ) → f ≡ 0 → L ≤ (filter_of f).levels → L ≤ 5
unfolding filter_of
five-levels f L e b = rw e at b

pub nine-levels : (f L : ℕ) → (f ≡ 0 → ⊥) → L ≤ (filter_of f).levels → L ≤ nine_seven_filter.levels
unfolding filter_of
nine-levels zero L d b = absurd (d refl)
nine-levels (suc f) L d b = b

-- either filter's plane, by its number
pub plane-five-three : (f L A : ℕ) (W H : Side) (g Z : Grid) (z : ℕ → ℤ) → f ≡ 0 → z ≡ flat A (plane_written five_three_filter L W H g Z) →
    z ≡ flat A (plane_written (filter_of f) L W H g Z)
unfolding filter_of
plane-five-three f L A W H g Z z e is = rw e is

pub plane-nine-seven : (f L A : ℕ) (W H : Side) (g Z : Grid) (z : ℕ → ℤ) → (f ≡ 0 → ⊥) → z ≡ flat A (plane_written nine_seven_filter L W H g Z) →
    z ≡ flat A (plane_written (filter_of f) L W H g Z)
unfolding filter_of
plane-nine-seven zero L A W H g Z z d is = absurd (d refl)
plane-nine-seven (suc f) L A W H g Z z d is = is

-- ---- the way back
pub range_at : (f k : ℕ) (r : ℤ) → k ≤ (filter_of f).levels → r ≡ pos (range (filter_of f) (min k (filter_of f).levels)) → r ≡ pos (range (filter_of f) k)
range_at f k r b is =
    let m : min k (filter_of f).levels ≡ k = omega arith in
    is ∙ ap (λ (i : ℕ). pos (range (filter_of f) i)) m

-- the map of a plane by either filter
pub ranged-five-three : (f L : ℕ) (W H : Side) (x : Grid) → f ≡ 0 → region_in_range (filter_of f) 1 L W H x ≡ true → region_in_range five_three_filter 1 L W H x ≡ true
unfolding filter_of
ranged-five-three f L W H x e r = rw e at r

pub map-five-three : (f L : ℕ) (ok : Bool) (W H : Side) (z g₀ g y₀ y : ℕ → ℤ) → f ≡ 0 → MapRebuilt five_three_filter ok W H L z g₀ g y₀ y →
    MapRebuilt (filter_of f) ok W H L z g₀ g y₀ y
unfolding filter_of
map-five-three f L ok W H z g₀ g y₀ y e m = rw e m

pub map-nine-seven : (f L : ℕ) (ok : Bool) (W H : Side) (z g₀ g y₀ y : ℕ → ℤ) → (f ≡ 0 → ⊥) → MapRebuilt nine_seven_filter ok W H L z g₀ g y₀ y →
    MapRebuilt (filter_of f) ok W H L z g₀ g y₀ y
unfolding filter_of
map-nine-seven zero L ok W H z g₀ g y₀ y d m = absurd (d refl)
map-nine-seven (suc f) L ok W H z g₀ g y₀ y d m = m
