-- What the calls that work a set out ask, and what their answers tell. Assumes nothing.
use mathlib.Core.Path.{◌≡◌, refl, sym, ap, subst, ◌∙◌, fun_ext}
use mathlib.Core.Bool.{Bool, true, false}
use Prim.Native.Nat.{ℕ, ◌+◌, ◌*◌, ◌%◌, ◌≤◌, ◌<◌, ◌^◌}
use native.Mathlib.Decide.{dec_lt}
use native.Mathlib.Omega.{arith}
use lib.IntN.{ℤ, pos}
use lib.Dec.{T, leb, ltb}
use borrow.Author.Tests.{le-leb, lt-ltb, leb-true, ltb-true}
use Rattle.numbers.specs.Signal.{pick, both}
use Rattle.numbers.proofs.Sweep.{both as both_hold}
use Rattle.lifting.specs.Grid.{Side}
use Rattle.lifting.specs.Halves.{fronted}
use Rattle.areas.proofs.AreaLaws.{front_at, front_rest}
use Rattle.wavelet.specs.Order.{last_set}
use Rattle.level.specs.Tried.{Tried, failed, passed, fits, memory}
use Rattle.level.specs.Rebuilding.{widest, tallest, work_length_by, workable_by, work_answer, work_left_by, Kept}

-- a test that can not say yes says no
pub no_test : (b : Bool) → (b ≡ true → ⊥) → false ≡ b
no_test true h = absurd (h refl)
no_test false h = refl

-- a level of at most so many levels, with so many rows kept
module _ (levels rows : ℕ) (last : Bool) (k : ℕ) (W H : Side) (n m : ℕ) where
  abbrev pub Workable : Type 0
  Workable = (k ≤ levels) × (W.length ≤ widest) × (H.length ≤ tallest) × (0 < H.length) × (n ≤ last_set H) × (work_length_by rows last W ≤ m)

  pub workable-in : workable_by levels rows last k W H n m ≡ true → Workable
  unfolding workable_by
  workable-in e =
      let a = both_hold (leb k levels) _ e in
      let b = both_hold (leb W.length widest) _ a.1 in
      let c = both_hold (leb H.length tallest) _ b.1 in
      let s = both_hold (ltb 0 H.length) _ c.1 in
      let d = both_hold (leb n (last_set H)) (leb (work_length_by rows last W) m) s.1 in (
        leb-true k levels a.0,
        leb-true W.length widest b.0,
        leb-true H.length tallest c.0,
        ltb-true 0 H.length s.0,
        leb-true n (last_set H) d.0,
        leb-true (work_length_by rows last W) m d.1,
      )

  pub not-workable : (Workable → ⊥) → false ≡ workable_by levels rows last k W H n m
  not-workable bad = no_test (workable_by levels rows last k W H n m) (λ e. bad (workable-in e))

  -- a level that has no such set
  pub no-set : both (ltb 0 H.length) (leb n (last_set H)) ≡ false → false ≡ workable_by levels rows last k W H n m
  no-set e = not-workable (λ f. not-both (rw (lt-ltb 0 H.length f.3, le-leb n (last_set H) f.4) refl))
    where
      not-both : both (ltb 0 H.length) (leb n (last_set H)) ≡ true → ⊥
      not-both t = subst T (sym t ∙ e) tt

  pub workable-last : k ≤ levels → W.length ≤ widest → H.length ≤ tallest → both (ltb 0 H.length) (leb n (last_set H)) ≡ true →
      leb (work_length_by rows last W) m ≡ workable_by levels rows last k W H n m
  unfolding workable_by
  workable-last a b c d =
      let s = both_hold (ltb 0 H.length) (leb n (last_set H)) d in
      rw (le-leb k levels a, le-leb W.length widest b, le-leb H.length tallest c, s.0, s.1) refl

  pub workable-is : Workable → workable_by levels rows last k W H n m ≡ true
  workable-is f =
      sym (workable-last f.0 f.1 f.2 (rw (lt-ltb 0 H.length f.3, le-leb n (last_set H) f.4) refl)) ∙ le-leb (work_length_by rows last W) m f.5

-- ---- the answers of a set worked out, where it can be
module _ (room : Bool) (t : Tried) (y : ℕ → ℤ) where
  pub did-fit : room ≡ true → passed y ≡ t → (◌≡◌ {A = ℕ} 0 (work_answer room t)) × (passed y ≡ pick room t failed)
  unfolding fits
  did-fit e is = rw (e, ← is) (refl, refl)

  pub did-not-fit : room ≡ true → failed ≡ t → (◌≡◌ {A = ℕ} 14 (work_answer room t)) × (failed ≡ pick room t failed)
  unfolding fits
  did-not-fit e is = rw (e, ← is) (refl, refl)

  pub no_room : room ≡ false → (◌≡◌ {A = ℕ} 5 (work_answer room t)) × (failed ≡ pick room t failed)
  no_room e = rw e (refl, refl)

-- ---- what stands there afterwards
module _ (rows : ℕ) (W : Side) (room : Bool) (t : Tried) (x : ℕ → ℤ) where
  pub left-none : room ≡ false → x ≡ work_left_by rows W room t x
  unfolding work_left_by
  left-none e = rw e refl

  pub left-made : (y : ℕ → ℤ) → room ≡ true → passed y ≡ t → y ≡ work_left_by rows W room t x
  unfolding work_left_by memory
  left-made y e is = rw (e, ← is) refl

  pub left-zeros : (y z : ℕ → ℤ) → room ≡ true → failed ≡ t → Kept (rows * W.length) x y →
      z ≡ fronted (rows * W.length) (λ _. pos 0) y → z ≡ work_left_by rows W room t x
  unfolding work_left_by memory
  left-zeros y z e is kept made = rw (e, ← is) (made ∙ same)
    where
      same : fronted (rows * W.length) (λ _. pos 0) y ≡ fronted (rows * W.length) (λ _. pos 0) x
      same = fun_ext λ j. elim (dec_lt j (rows * W.length)) [
        | yes b ↦ front_at _ _ y j b ∙ sym (front_at _ _ x j b)
        | no b ↦ front_rest _ _ y j (omega arith) ∙ kept.same j (omega arith) ∙ sym (front_rest _ _ x j (omega arith))
      ]

pub zeros-kept : (rows : ℕ) (W : Side) (x y z : ℕ → ℤ) → Kept (rows * W.length) x y →
    z ≡ fronted (rows * W.length) (λ _. pos 0) y → Kept (rows * W.length) x z
zeros-kept rows W x y z kept made =
    record { same = λ j b. ap (λ (f : ℕ → ℤ). f j) made ∙ front_rest (rows * W.length) (λ _. pos 0) y j b ∙ kept.same j b }

-- ---- the last set of so few rows is a small number
pub set-small : (H : Side) (n : ℕ) → H.length ≤ tallest → n ≤ last_set H → n < 2 ^ 32
unfolding last_set
set-small H n h l = omega arith

-- and it has a row
pub set-row : (H : Side) (n : ℕ) → 0 < H.length → n ≤ last_set H → 2 * n < H.start % 2 + H.length
unfolding last_set
set-row H n g l = omega arith
