-- The questions, and what the area is to hold, from what the calls gave. Assumes nothing.
use mathlib.Core.Path.{◌≡◌, refl, sym, ap, ◌∙◌}
use mathlib.Core.List.{List}
use mathlib.Core.Bool.{Bool, true, false}
use mathlib.Core.Logic.{◌≢◌}
use Prim.Native.Nat.{ℕ, ◌≤◌, ◌<◌}
use native.Mathlib.Omega.{arith}
use borrow.Author.Tests.{leb-true, le-leb, lt-leb}
use lib.Dec.{leb}
use lib.ListN.{length, set}
use lib.Ieee.{Float, nan}
use Rattle.wavelet.specs.Limits.{max_width}
use Rattle.wavelet.specs.Questions.{ask, within}
use Rattle.wavelet.proofs.QuestionLaws.{within-true}
use Rattle.profile.specs.Profile.{profile, four_passes}
use Rattle.profile.specs.Calls.{floats, fronted, profile_question, profiled}
use Rattle.profile.proofs.Filled.{start, store, finish}
use Rattle.profile.proofs.PassLaws.{same, differs, front, surplus}

module _ (n m : ℕ) where
  pub width-no : within 1 max_width n ≡ false → 2 ≡ profile_question n m
  unfolding profile_question
  width-no a = rw a

  pub area-no : within 1 max_width n ≡ true → m < n → 5 ≡ profile_question n m
  unfolding profile_question
  area-no a h = simp (a, lt-leb n m h)

  pub both_yes : within 1 max_width n ≡ true → n ≤ m → 0 ≡ profile_question n m
  unfolding profile_question
  both_yes a h = simp (a, le-leb n m h)

  all : (a b : Bool) → ask a 2 (ask b 5 0) ≡ 0 → (a ≡ true) × (b ≡ true)
  all true true h = (refl, refl)
  all true false h = absurd (omega arith)
  all false b h = absurd (omega arith)

  -- a call that passes: a row of one sample at least, and room for it
  pub passed : {q : ℕ} → q ≡ profile_question n m → q ≡ 0 → (1 ≤ n) × (n ≤ m)
  unfolding profile_question
  passed e h =
      let p = all (within 1 max_width n) (leb n m) (sym e ∙ h) in
      ((within-true 1 max_width n p.0).0, leb-true n m p.1)

module _ (n : ℕ) (x z : ℕ → Float) {q : ℕ} where
  pub refused : q ≢ 0 → z ≡ profiled q n (profile n x) z
  unfolding profiled
  refused h = sym (differs q 0 _ _ h)

  done : q ≡ 0 → fronted n (profile n x) z ≡ profiled q n (profile n x) z
  unfolding profiled
  done h = sym (same q 0 _ _ h)

  pub several : q ≡ 0 → n ≢ 1 → {y : ℕ → Float} → y ≡ fronted n (four_passes n x) z → y ≡ profiled q n (profile n x) z
  unfolding profile
  several h d e = e ∙ ap (λ (y : ℕ → Float). fronted n y z) (sym (differs n 1 _ _ d)) ∙ done h

-- one sample stays as it is
pub single : (n : ℕ) (x : ℕ → Float) (l : List Float) {q : ℕ} {v : Float} → q ≡ 0 → n ≡ 1 → n ≤ length l → v ≡ x 0
    → floats (set l 0 v) ≡ profiled q n (profile n x) (floats l)
unfolding profile
single n x l {v = v} h e r f =
    let y : profile n x ≡ x = same n 1 _ _ e in
    finish (store v (start nan l (fronted n (profile n x) (floats l))) (omega arith) (f ∙ sym (front n _ _ 0 (omega arith) ∙ ap (λ (y : ℕ → Float). y 0) y)))
    (λ j le. surplus n _ _ j (omega arith))
    ∙ done n x (floats l) h
