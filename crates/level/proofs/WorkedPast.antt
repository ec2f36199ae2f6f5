-- A set worked out leaves every place past its level's stretch as it was, whatever stands in it. Assumes nothing.
use mathlib.Core.Bool.{Bool, true, false}
use Prim.Native.Nat.{ℕ, ◌+◌, ◌*◌, ◌<◌}
use lib.IntN.{ℤ}
use lib.Dec.{ltb}
use Rattle.numbers.specs.Signal.{pick}
use Rattle.lifting.specs.Grid.{Side}
use Rattle.level.specs.Tried.{Tried, failed, passed, bind}
use Rattle.level.specs.Stretch as stretch
use Rattle.level.specs.Stretch.{end_of, has_low}
use Rattle.level.specs.Rebuilding.{Kept}
use Rattle.level.proofs.RowsIn.{only-unlifted, only-halved, only-taken}
use Rattle.level.proofs.KeptLaws.{kept-none, kept-both, only_kept}

-- what was tried, if it passed, kept every place from n on
pub data Keeps (n : ℕ) (x : ℕ → ℤ) : Tried → Type 0 where
  stops : Keeps n x failed
  goes : {y : ℕ → ℤ} → Kept n x y → Keeps n x (passed y)

module _ (n : ℕ) where
  tried : (x y : ℕ → ℤ) → Kept n x y → (ok : Bool) → Keeps n x (pick ok (passed y) failed)
  tried x y a true = goes a
  tried x y a false = stops

  pub admits : (m : ℕ) (test : ℕ → ℤ → Bool) (k w r : ℕ) (x y : ℕ → ℤ) → Kept n x y → Keeps n x (stretch.admitted m test k w r y)
  unfolding stretch.admitted
  admits m test k w r x y a = tried x y a (stretch.row_fits m test k w r y)

  -- what is done only where a test says so
  pub either : (x : ℕ → ℤ) (u v : Tried) → Keeps n x u → Keeps n x v → (t : Bool) → Keeps n x (pick t u v)
  either x u v a b true = a
  either x u v a b false = b

  pub after : (x y : ℕ → ℤ) (t : Tried) → Kept n x y → Keeps n y t → Keeps n x t
  after x y _ a stops = stops
  after x y _ a (goes b) = goes (kept-both n x y _ a b)

  pub bound : (x : ℕ → ℤ) (t : Tried) (f : (ℕ → ℤ) → Tried) → Keeps n x t → ((y : ℕ → ℤ) → Keeps n y (f y)) → Keeps n x (bind t f)
  unfolding bind
  bound x _ f stops g = stops
  bound x _ f (goes a) g = after x _ _ a (g _)

-- ---- the steps of a set, in a stretch of m rows
module _ {m : ℕ} (some : 0 < m) (W H : Side) where
  abbrev room : ℕ
  room = m * W.length

  pub stays : (x : ℕ → ℤ) → Keeps room x (passed x)
  stays x = goes (kept-none room x)

  module _ (back : Side → (ℕ → ℤ) → ℕ → ℤ) where
    line-past : (q : ℕ) (x : ℕ → ℤ) → Keeps room x (stretch.line_tried m back W q x)
    unfolding stretch.line_tried
    line-past q x = tried room x (stretch.row_unlifted m back W q x) (only_kept (only-unlifted some back W q x)) (stretch.row_has_line m W q x)

    low-past : (n : ℕ) (x : ℕ → ℤ) → Keeps room x (stretch.low_tried m back W H n x)
    unfolding stretch.low_tried
    low-past n x = either room x _ _ (line-past (2 * n) x) (stays x) (has_low H n)

    high-past : (n : ℕ) (x : ℕ → ℤ) → Keeps room x (stretch.high_tried m back W H n x)
    unfolding stretch.high_tried
    high-past n x = either room x _ _ (line-past (2 * n + 1) x) (stays x) (ltb (2 * n + 1) (end_of H))

    pub rows-past : (n : ℕ) (x : ℕ → ℤ) → Keeps room x (stretch.set_unlifted m back W H n x)
    unfolding stretch.set_unlifted
    rows-past n x = bound room x _ _ (low-past n x) (high-past n)

  pub single-past : (test : ℕ → ℤ → Bool) (k q : ℕ) (x : ℕ → ℤ) → Keeps room x (stretch.single_made m (stretch.admitted m test) k W.length q x)
  unfolding stretch.single_made
  single-past test k q x =
      either room x _ _ (admits room m test k W.length q x (stretch.row_halved m W.length q x) (only_kept (only-halved some W q x))) stops
      (stretch.row_is_even m W.length q x)

  -- a set made, its low-low row taken first
  pub taken-past : (f : (ℕ → ℤ) → Tried) → ((x : ℕ → ℤ) → Keeps room x (f x)) → (last : Bool) (n : ℕ) (x : ℕ → ℤ) →
      Keeps room x (f (stretch.low_taken m last W H n x))
  unfolding stretch.low_taken
  taken-past f g true n x = g x
  taken-past f g false n x = go (has_low H n)
    where
      go : (t : Bool) → Keeps room x (f (pick t (stretch.low_row_taken m W H n x) x))
      go true = after room x (stretch.low_row_taken m W H n x) _ (only_kept (only-taken some W H n x)) (g (stretch.low_row_taken m W H n x))
      go false = g x
