-- `lifting::pairs::unlift_pair` meets its contract: before turn i the first i columns are lifted back, and the answer so far is theirs.
-- Assumes nothing.
use mathlib.Core.Path.{◌≡◌}
use Prim.Native.Nat.{ℕ}
use lib.IntN.{ℤ}
use Rattle.numbers.specs.Signal.{at}
use Rattle.lifting.specs.Pairs.{pair_unlifted, pair_within}
use Rattle.lifting.proofs.ColumnLaws.{Passed}
use Rattle.lifting.proofs.pairs.unlift_pair.Given as goal

abbrev pub F : ℕ → ℕ → ℕ → ℕ → ℕ → ℕ → (ℕ → ℤ) → ℕ → ℤ
F s h l r b k x = pair_unlifted s k h l r b x

abbrev pub invariant-loop-i : goal.invariant-loop-i
invariant-loop-i l =
    Passed (F l.stride l.fn.pair.high l.fn.pair.low l.fn.pair.right l.fn.pair.before) l.stride l.width l.fn.pair.high l.fn.pair.low l.fn.pair.right l.fn.pair.before l.initial.area l.i l.area
    × (l.ok ≡ pair_within l.least l.most l.stride l.i l.fn.pair.high l.fn.pair.low (at l.area))
