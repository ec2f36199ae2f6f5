-- Working out a set, step by step: what each call comes to. Assumes nothing.
use mathlib.Core.Path.{◌≡◌, refl, sym, ap, ◌∙◌}
use mathlib.Core.Bool.{Bool, true, false}
use Prim.Native.Nat.{ℕ, ◌+◌, ◌-◌, ◌*◌, ◌%◌, ◌/◌, ◌^◌, ◌≤◌, ◌<◌}
use lib.IntN.{ℤ}
use lib.Dec.{ltb}
use borrow.Author.Tests.{lt-ltb, le-ltb, lt-leb, le-leb}
use Rattle.numbers.specs.Signal.{pick, windowed, spliced}
use Rattle.lifting.specs.Line.{lo}
use Rattle.lifting.specs.Grid.{Side, side, count, joined}
use Rattle.lifting.specs.GridHalves.{halves_of}
use Rattle.wavelet.specs.Levels.{next}
use Rattle.wavelet.specs.Order.{first_set}
use Rattle.level.specs.Tried.{Tried, failed, passed, outcome, bind}
use Rattle.level.specs.Stretch as stretch
use Rattle.level.specs.Stretch.{local, end_of, has_low}

-- ---- what an answer tells
pub told-no : (ok : Bool) (x : ℕ → ℤ) (t : Tried) → outcome ok x ≡ t → ok ≡ false → failed ≡ t
told-no ok x t e f = ap (λ (b : Bool). outcome b x) (sym f) ∙ e

pub told-yes : (ok : Bool) (x : ℕ → ℤ) (t : Tried) → outcome ok x ≡ t → ok ≡ true → passed x ≡ t
told-yes ok x t e f = ap (λ (b : Bool). outcome b x) (sym f) ∙ e

pub bind-failed : (t : Tried) (f : (ℕ → ℤ) → Tried) → failed ≡ t → failed ≡ bind t f
unfolding bind
bind-failed t f e = ap (λ (u : Tried). bind u f) e

pub bind-passed : (t : Tried) (f : (ℕ → ℤ) → Tried) (x : ℕ → ℤ) → passed x ≡ t → f x ≡ bind t f
unfolding bind
bind-passed t f x e = ap (λ (u : Tried). bind u f) e

-- ---- a set with a low row, and one without
pub low_first : (H : Side) (n : ℕ) → n < H.start % 2 → has_low H n ≡ false
unfolding has_low first_set
low_first H n b = lt-leb (H.start % 2) n b

pub low-there : (H : Side) (n : ℕ) → H.start % 2 ≤ n → has_low H n ≡ true
unfolding has_low first_set
low-there H n b = le-leb (H.start % 2) n b

-- ---- along the rows, of any number m of them and whatever lifts a row back in place
module _ (m : ℕ) (back : Side → (ℕ → ℤ) → ℕ → ℤ) (W H : Side) (n : ℕ) (x : ℕ → ℤ) where
  pub low-none : n < H.start % 2 → passed x ≡ stretch.low_tried m back W H n x
  unfolding stretch.low_tried
  low-none b = rw (low_first H n b) refl

  pub low-some : H.start % 2 ≤ n → stretch.line_tried m back W (2 * n) x ≡ stretch.low_tried m back W H n x
  unfolding stretch.low_tried
  low-some b = rw (low-there H n b) refl

  pub high-none : H.start % 2 + H.length ≤ 2 * n + 1 → passed x ≡ stretch.high_tried m back W H n x
  unfolding stretch.high_tried end_of
  high-none b = rw (le-ltb (2 * n + 1) (H.start % 2 + H.length) b) refl

  pub high-some : 2 * n + 1 < H.start % 2 + H.length → stretch.line_tried m back W (2 * n + 1) x ≡ stretch.high_tried m back W H n x
  unfolding stretch.high_tried end_of
  high-some b = rw (lt-ltb (2 * n + 1) (H.start % 2 + H.length) b) refl

  pub set-low : failed ≡ stretch.low_tried m back W H n x → failed ≡ stretch.set_unlifted m back W H n x
  unfolding stretch.set_unlifted
  set-low e = bind-failed _ _ e

  pub set-high : (y : ℕ → ℤ) → passed y ≡ stretch.low_tried m back W H n x → stretch.high_tried m back W H n y ≡ stretch.set_unlifted m back W H n x
  unfolding stretch.set_unlifted
  set-high y e = bind-passed _ (stretch.high_tried m back W H n) y e

-- ---- a row tested; an only row, at an odd coordinate
module _ (m : ℕ) (test : ℕ → ℤ → Bool) (k w q : ℕ) where
  pub told : (ok : Bool) (z y : ℕ → ℤ) → z ≡ y → ok ≡ stretch.row_fits m test k w q z → outcome ok z ≡ stretch.admitted m test k w q y
  unfolding stretch.admitted
  told ok z y ez eo = ap (λ (b : Bool). outcome b z) eo ∙ ap (stretch.admitted m test k w q) ez

  module _ (x : ℕ → ℤ) where
    pub single-no : stretch.row_is_even m w q x ≡ false → failed ≡ stretch.single_made m (stretch.admitted m test) k w q x
    unfolding stretch.single_made
    single-no e = rw e refl

    pub single-made : (ok : Bool) (z : ℕ → ℤ) → stretch.row_is_even m w q x ≡ true → z ≡ stretch.row_halved m w q x → ok ≡ stretch.row_fits m test k w q z →
        outcome ok z ≡ stretch.single_made m (stretch.admitted m test) k w q x
    unfolding stretch.single_made
    single-made ok z e ez eo = rw e (told ok z _ ez eo)

-- ---- which row of the next level a set's low-low row is
pub low-row : (y n r : ℕ) → n < 2 ^ 62 → r ≡ pick (ltb n (2 ^ 62)) (local (next (side y 0)).start (n - y % 2)) 0 → r ≡ (y + 1) / 2 % 2 + (n - y % 2)
unfolding next local
low-row y n r h e = e ∙ simp (lt-ltb n (2 ^ 62) h)

-- ---- the low-low row taken from the next level
module _ (m : ℕ) (W H : Side) (n : ℕ) (x : ℕ → ℤ) where
  pub take_last : (last : Bool) → last ≡ true → x ≡ stretch.low_taken m last W H n x
  unfolding stretch.low_taken
  take_last last e = rw e refl

  pub take_none : (last : Bool) → last ≡ false → n < H.start % 2 → x ≡ stretch.low_taken m last W H n x
  unfolding stretch.low_taken
  take_none last e b = rw (e, low_first H n b) refl

  pub take-low : (last : Bool) (y : ℕ → ℤ) → last ≡ false → H.start % 2 ≤ n → y ≡ stretch.low_row_taken m W H n x → y ≡ stretch.low_taken m last W H n x
  unfolding stretch.low_taken
  take-low last y e b t = rw (e, low-there H n b) t

  pub low-taken : (low row from to s : ℕ) → low ≡ count lo W → s ≡ (W.start + 1) / 2 → row ≡ (H.start + 1) / 2 % 2 + (n - H.start % 2) →
      from ≡ m * W.length + stretch.row_place m low row → to ≡ stretch.row_place m W.length (2 * n) →
      spliced to low (joined (side s low) (halves_of (side s low) (windowed from low x))) x ≡ stretch.low_row_taken m W H n x
  unfolding stretch.low_row_taken next local first_set
  low-taken low row from to s el es er ef et = rw (ef, et, er, es, el) refl
