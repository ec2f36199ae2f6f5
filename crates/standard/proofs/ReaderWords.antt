-- What is cited of the reader's demand 3, here alone: that set n of level k + 1 fits, that the sets which number n of level k needs do, and what is asked in a
-- feed of row x with the steps t after it. Assumes nothing.
use mathlib.Core.List.{List}
use Prim.Native.Nat.{ℕ}
use Rattle.lifting.specs.Grid.{Side}
use Rattle.wavelet.specs.Order.{RowName}
use Rattle.wavelet.specs.Steps.{Step}
use Rattle.reader.specs.Rebuilt.{Rows}
use Rattle.reader.specs.Rebuilt as rebuilt
use Rattle.reader.specs.Demand3 as demand

module _ (f : ℕ) (W H : Side) (L : ℕ) (P : Rows) where
  abbrev pub SetFits : ℕ → ℕ → Type 0
  SetFits k n = rebuilt.SetFits 0 f 0 W H P L k n

  abbrev pub SetsFit : ℕ → ℕ → Type 0
  SetsFit k n = rebuilt.SetsFit 0 f 0 W H L P k n

  abbrev pub FeedFits : RowName → List Step → Type 0
  FeedFits x t = demand.FeedFits 0 f 0 W H L P x t
