-- What working out a set leaves as it was: every place past its level's rows. Assumes nothing.
use mathlib.Core.Bool.{Bool, true, false}
use Prim.Native.Nat.{ℕ, ◌*◌}
use lib.IntN.{ℤ}
use Rattle.numbers.specs.Signal.{pick}
use Rattle.lifting.specs.Grid.{Side}
use Rattle.level.specs.Stretch.{has_low}
use Rattle.level.specs.Rebuilding.{Kept}
use Rattle.level.proofs.KeptLaws.{kept-none, only_kept}
use Rattle.synthesis.specs.Columns.{Columns}
use Rattle.synthesis.specs.Work.{even_done}
use Rattle.synthesis.proofs.ColumnLaws.{ColumnLaws}

module _ (C : Columns) (L : ColumnLaws C) (k w : ℕ) (H : Side) where
  pub even-kept : (q : ℕ) (x : ℕ → ℤ) → Kept (C.filter.rows * w) x (C.even k w H q x)
  even-kept q x = only_kept (L.only-even k w H q x)

  pub odd-kept : (q : ℕ) (x : ℕ → ℤ) → Kept (C.filter.rows * w) x (C.odd k w H q x)
  odd-kept q x = only_kept (L.only-odd k w H q x)

  pub done-kept : (n : ℕ) (x : ℕ → ℤ) → Kept (C.filter.rows * w) x (even_done C k w H n x)
  unfolding even_done
  done-kept n x = go (has_low H n)
    where
      go : (t : Bool) → Kept (C.filter.rows * w) x (pick t (C.even k w H (2 * n) x) x)
      go true = even-kept (2 * n) x
      go false = kept-none (C.filter.rows * w) x
