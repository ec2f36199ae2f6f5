-- Heights, u16, as whole numbers (areas: `wholes`): parts of a list of them; and numbers that are heights, drawn. Assumes nothing.
use mathlib.Core.Path.{◌≡◌, refl, sym, ap, ◌∙◌, fun_ext}
use mathlib.Core.Bool.{true}
use mathlib.Core.List.{List, [], ◌∷◌, map-append}
use Prim.Native.Nat.{ℕ, zero, suc, ◌^◌, ◌<◌}
use native.Mathlib.Decide.{dec_lt}
use native.Mathlib.Omega.{arith}
use lib.IntN.{ℤ, pos, negsuc}
use lib.Signed.{le_z}
use lib.ListN.{take, drop}
use borrow.Author.Tests.{leb-true}
use borrow.Rule.Slice.PartMut.{mid_of, put_mid}
use Rattle.numbers.proofs.Integers.{each, lin}
use Rattle.numbers.proofs.Sweep.{both}
use Rattle.lifting.specs.Halves.{fronted}
use Rattle.lifting.specs.Grid.{Side, joined}
use Rattle.lifting.specs.GridHalves.{halves_of}
use Rattle.areas.specs.Areas.{wholes, height16}
use Rattle.areas.proofs.AreaLaws.{front_at, front_rest}
use Rattle.lifting.specs.FiveThree.{five_three_filter}
use Rattle.wavelet.specs.Limits.{max_sample}
use Rattle.wavelet.specs.Maps.{every, value_fits}
use Rattle.wavelet.proofs.LimitLaws.{sample-small}
use Rattle.wavelet.proofs.MapTheorems.{every-each}
use Rattle.map_levels.proofs.CellLaws.{placed, placed-in, joined_at}

wholes-take : (n : ℕ) (l : List ℕ) → wholes (take n l) ≡ take n (wholes l)
wholes-take zero l = refl
wholes-take (suc n) [] = refl
wholes-take (suc n) (x ∷ xs) = ap (λ (r : List ℤ). pos x ∷ r) (wholes-take n xs)

wholes-drop : (n : ℕ) (l : List ℕ) → wholes (drop n l) ≡ drop n (wholes l)
wholes-drop zero l = refl
wholes-drop (suc n) [] = refl
wholes-drop (suc n) (x ∷ xs) = wholes-drop n xs

pub wholes-mid : (a n : ℕ) (l : List ℕ) → wholes (mid_of a n l) ≡ mid_of a n (wholes l)
wholes-mid a n l = wholes-take n (drop a l) ∙ ap (take n) (wholes-drop a l)

pub wholes-put : (a n : ℕ) (l ys : List ℕ) → wholes (put_mid a n l ys) ≡ put_mid a n (wholes l) (wholes ys)
wholes-put a n l ys =
    map-append pos (take a l) _
    ∙ cc (map-append pos ys (drop n (drop a l)), wholes-take a l, wholes-drop n (drop a l), wholes-drop a l)

-- ---- heights drawn modulo 65,536 are the numbers themselves where they fit
kept_by : (N : ℕ) (v : ℤ) → N < 2 ^ 16 → v ≡ pos N → height16 v ≡ v
unfolding height16
kept_by N = each _ λ p q. simp lin (omega arith)

height-kept : (v : ℤ) → value_fits five_three_filter 0 v ≡ true → height16 v ≡ v
unfolding value_fits
height-kept (pos n) h = kept_by n (pos n) (omega (
  arith,
  sample-small,
  leb-true n max_sample
      (both (le_z (pos 0) (pos n)) (le_z (pos n) (pos max_sample)) h).1,
)) refl
height-kept (negsuc n) h = let z : ◌≡◌ {A = ℕ} 0 1 = cc in absurd (omega arith)

pub drawn-heights : (S : Side) (y z : ℕ → ℤ) → every S.length (λ i. value_fits five_three_filter 0 (y i)) ≡ true →
    fronted S.length (λ c. height16 (joined S (halves_of S y) c)) z ≡ fronted S.length (joined S (halves_of S y)) z
drawn-heights S y z fits =
    let N = S.length in
    fun_ext λ j.
    elim (dec_lt j N) [
      | yes b ↦
          let e = joined_at S y j in
          front_at N _ z j b
          ∙ ap height16 e
          ∙ height-kept (y (placed S j)) (every-each N _ fits (placed S j) (placed-in S j b))
          ∙ sym (front_at N _ z j b ∙ e)
      | no d ↦ front_rest N _ z j (omega arith) ∙ sym (front_rest N _ z j (omega arith))
    ]
