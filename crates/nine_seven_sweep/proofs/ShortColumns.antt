-- Columns of one row or none, and of no width; and the answers of the public calls. Assumes nothing.
use mathlib.Core.Path.{◌≡◌, refl, sym, ap, ◌∙◌, fun_ext}
use mathlib.Core.Bool.{Bool, true, false}
use Prim.Native.Nat.{ℕ, ◌+◌, ◌-◌, ◌*◌, ◌/◌, ◌%◌, ◌≤◌, ◌<◌}
use native.Mathlib.Nat.{zero-mul, div-add-mod'}
use native.Mathlib.Decide.{dec_lt, ℕ_discrete}
use native.Mathlib.Omega.{arith}
use lib.IntN.{ℤ, pos, ◌*ℤ◌}
use lib.Signed.{shr_z}
use borrow.Author.Tests.{lt-ltb, le-ltb}
use Rattle.numbers.specs.Signal.{pick, both}
use Rattle.numbers.specs.Tests.{every}
use Rattle.numbers.specs.Word.{wrap32}
use Rattle.lifting.specs.Line.{Half, lo, hi}
use Rattle.lifting.specs.Grid.{Side, count, place, deinterleaved, joined, single_high, is_even}
use Rattle.lifting.specs.GridHalves.{halves_of}
use Rattle.lifting.specs.Halves.{fronted}
use Rattle.lifting.proofs.GridLaws.{joined-place, halves-high, front-in, front-past}
use Rattle.lifting.proofs.SingleLaws.{single-high, single-none, lifted-none}
use Rattle.lifting.proofs.RowLaws.{row-order, row_in}
use Rattle.nine_seven.specs.NineSeven.{line_forward, line_halves_back, line_back}
use Rattle.nine_seven.specs.Memory.{lifted_in_place}
use Rattle.nine_seven.proofs.LiftLaws.{lifted-short}
use Rattle.nine_seven.proofs.NineSevenLaws.{high_one, even-one, odd-one}
use Rattle.nine_seven_sweep.specs.Columns.{columns_fit, column, columns_by, columns_lifted, columns_back, columns_have}
use Rattle.nine_seven_sweep.specs.Passes.{Rows}

-- ---- one row: each number by itself
module _ (g : (ℕ → ℤ) → ℕ → ℤ) (s w : ℕ) (x : ℕ → ℤ) where
  pub by-none : (h : ℕ) → h ≡ 0 → columns_by g s w h x ≡ x
  unfolding columns_by
  by-none h e = fun_ext λ j. simp (le-ltb (j / s) h (omega arith))

  pub by-narrow : (h : ℕ) → w ≡ 0 → columns_by g s w h x ≡ x
  unfolding columns_by
  by-narrow h e =
      fun_ext λ j.
      elim (dec_lt (j / s) h) [
        | yes a ↦ simp (lt-ltb (j / s) h a, le-ltb (j % s) w (omega arith))
        | no a ↦ simp (le-ltb (j / s) h (omega arith))
      ]

  pub by_one : (h : ℕ) (v : ℤ → ℤ) → h ≡ 1 → 0 < w → w ≤ s → ((y : ℕ → ℤ) → g y 0 ≡ v (y 0)) → columns_by g s w h x ≡ fronted w (λ i. v (x i)) x
  unfolding columns_by column
  by_one h v e some ws is =
      fun_ext λ j.
      let q = j / s in
      let c = j % s in
      let back : q * s + c ≡ j = div-add-mod' j s in
      elim (ℕ_discrete q 0) [
        | yes z ↦
            let m : q * s ≡ 0 = ap (λ (k : ℕ). k * s) z ∙ zero-mul s in
            let same : c ≡ j = omega arith in
            let start : 0 * s + c ≡ j = omega arith in
            elim (dec_lt c w) [
              | yes b ↦
                  simp (lt-ltb q h (omega arith), lt-ltb c w b)
                  (ap (g (column s x c)) z
                  ∙ is (column s x c)
                  ∙ ap (λ (k : ℕ). v (x k)) start
                  ∙ sym (front-in w (λ i. v (x i)) x j (omega arith)))
              | no b ↦ simp (lt-ltb q h (omega arith), le-ltb c w (omega arith)) (sym (front-past w (λ i. v (x i)) x j (omega arith)))
            ]
        | no d ↦
            let far = row-order s 0 q (omega arith) in
            simp (le-ltb q h (omega arith)) (sym (front-past w (λ i. v (x i)) x j (omega arith)))
      ]

pub fronted-same : (w : ℕ) (x : ℕ → ℤ) → fronted w (λ i. x i) x ≡ x
fronted-same w x = fun_ext λ j. elim (dec_lt j w) [ yes a ↦ front-in w (λ i. x i) x j a | no a ↦ front-past w (λ i. x i) x j (omega arith) ]

module _ (s w : ℕ) (H : Side) (x : ℕ → ℤ) (some : 0 < w) (ws : w ≤ s) where
  single-column : (y : ℕ → ℤ) → single_high H ≡ true → lifted_in_place H y 0 ≡ wrap32 (pos 2 *ℤ y 0)
  unfolding lifted_in_place halves_of
  single-column y e =
      let t = single-high H e in
      let p = halves_of H y in
      let k : count lo H + (0 - count lo H) ≡ 0 = omega arith in
      halves-high H (line_forward wrap32 H (joined H p)) y 0 (omega arith) (omega arith)
      ∙ high_one H (omega arith) wrap32 (joined H p) (0 - count lo H)
      ∙ ap (λ (v : ℤ). wrap32 (pos 2 *ℤ v)) (joined-place H p hi (0 - count lo H) ∙ ap y k)

  pub single-lifted : single_high H ≡ true → fronted w (λ i. wrap32 (pos 2 *ℤ x i)) x ≡ columns_lifted s w H x
  unfolding columns_lifted
  single-lifted e =
      let t = single-high H e in
      sym (by_one (lifted_in_place H) s w x H.length (λ v. wrap32 (pos 2 *ℤ v)) t.0 some ws (λ y. single-column y e))

  pub short-lifted : single_high H ≡ false → H.length < 2 → x ≡ columns_lifted s w H x
  unfolding columns_lifted
  short-lifted e few =
      sym
      (elim (ℕ_discrete H.length 0) [
        | yes z ↦ by-none (lifted_in_place H) s w x H.length z
        | no d ↦
            by_one (lifted_in_place H) s w x H.length (λ v. v) (omega arith) some ws
            (λ y. ap (λ (u : ℕ → ℤ). u 0) (sym (lifted-short H (omega arith) y) ∙ lifted-none H few e y))
            ∙ fronted-same w x
      ])

  abbrev line : (ℕ → ℤ) → ℕ → ℤ
  line y = line_back wrap32 H (deinterleaved H y)

  -- the only place of a column
  first : (y : ℕ → ℤ) (k : Half) → H.length ≡ 1 → place H k 0 ≡ 0 → line y 0 ≡ line_halves_back wrap32 H (deinterleaved H y) k 0
  unfolding line_back
  first y k one e =
      ap (joined H (line_halves_back wrap32 H (deinterleaved H y))) (sym e) ∙ joined-place H (line_halves_back wrap32 H (deinterleaved H y)) k 0

  pub single-back : single_high H ≡ true → fronted w (λ i. shr_z (x i) 2) x ≡ columns_back s w H x
  unfolding columns_back place count deinterleaved
  single-back e =
      let t = single-high H e in
      let z : place H hi 0 ≡ 0 = omega arith in
      sym
      (by_one line s w x H.length (λ v. shr_z v 2) t.0 some ws
      (λ y. first y hi t.0 z ∙ odd-one H (omega arith) wrap32 (deinterleaved H y) 0 ∙ ap (λ (i : ℕ). shr_z (y i) 2) z))

  pub short_back : single_high H ≡ false → H.length < 2 → x ≡ columns_back s w H x
  unfolding columns_back place count deinterleaved
  short_back e few =
      let none = single-none H few e in
      sym
      (elim (ℕ_discrete H.length 0) [
        | yes z ↦ by-none line s w x H.length z
        | no d ↦
            let z : place H lo 0 ≡ 0 = omega arith in
            by_one line s w x H.length (λ v. v) (omega arith) some ws
            (λ y. first y lo (omega arith) z ∙ even-one H (omega arith) wrap32 (deinterleaved H y) 0 ∙ ap y z)
            ∙ fronted-same w x
      ])

pub narrow-lifted : (s w : ℕ) (H : Side) (x : ℕ → ℤ) → w ≡ 0 → x ≡ columns_lifted s w H x
unfolding columns_lifted
narrow-lifted s w H x e = sym (by-narrow (lifted_in_place H) s w x H.length e)

pub narrow_back : (s w : ℕ) (H : Side) (x : ℕ → ℤ) → w ≡ 0 → x ≡ columns_back s w H x
unfolding columns_back
narrow_back s w H x e = sym (by-narrow (λ y. line_back wrap32 H (deinterleaved H y)) s w x H.length e)

-- ---- the public calls
pub fit-rows : (n s w h : ℕ) → columns_fit n s w h ≡ true → 0 < w → Rows n s w h
unfolding columns_fit
fit-rows n s w h e some = let r = row_in n s w (h - 1) e in record { some = some; wide = r.wide; room = r.room }

pub have-none : (w : ℕ) (H : Side) (x : ℕ → ℤ) → w ≡ 0 → columns_have w H x ≡ true
unfolding columns_have every
have-none w H x e = rw e (elim (single_high H) as (λ t. pick t true true ≡ true) [ true ↦ refl | false ↦ refl ])

pub have-other : (w : ℕ) (H : Side) (x : ℕ → ℤ) → single_high H ≡ false → columns_have w H x ≡ true
unfolding columns_have
have-other w H x e = simp e

pub have-single : (w : ℕ) (H : Side) (x : ℕ → ℤ) → single_high H ≡ true → columns_have w H x ≡ every w (λ c. is_even (x c))
unfolding columns_have
have-single w H x e = simp e

-- the answer and the area, by the two tests
module _ {A : Type 0} (t u : Bool) (a b : A) where
  pub refused : t ≡ false → (◌≡◌ {A = ℕ} 5 (pick t (pick u 0 14) 5)) × (b ≡ pick (both t u) a b)
  refused e = rw e (refl, refl)

  pub oddly : t ≡ true → u ≡ false → (◌≡◌ {A = ℕ} 14 (pick t (pick u 0 14) 5)) × (b ≡ pick (both t u) a b)
  oddly e f = rw (e, f) (refl, refl)

  pub passed : (y : A) → t ≡ true → u ≡ true → y ≡ a → (◌≡◌ {A = ℕ} 0 (pick t (pick u 0 14) 5)) × (y ≡ pick (both t u) a b)
  passed y e f is = rw (e, f) (refl, is)
