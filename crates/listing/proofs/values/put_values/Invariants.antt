-- `values::put_values` meets its contract: the values up to the next one stand in the area, each after a space; and the loop is not left before the
-- first while there is room for it. Assumes nothing.
use mathlib.Core.List.{List}
use Prim.Native.Nat.{ℕ, ◌+◌, ◌-◌, ◌≤◌}
use lib.IntN.{ℤ}
use lib.ListN.{length}
use Rattle.numbers.specs.Signal.{at as number_at}
use Rattle.listing.specs.Lines.{spaced}
use Rattle.text.specs.Text.{Wrote}
use Rattle.listing.proofs.values.put_values.Given as goal

-- the values from `from` on, up to `value`, are written
pub record Written (row : List ℤ) (from end : ℕ) (l : List ℕ) (at : ℕ) (m : List ℕ) (value place : ℕ) : Type 0 where
  pub low : from ≤ value
  pub high : value ≤ end
  pub long : end ≤ length row
  pub wrote : Wrote (spaced (value - from) (λ i. number_at row (from + i))) at place l m

abbrev pub invariant-loop-value : goal.invariant-loop-value
invariant-loop-value l = Written l.row l.from l.end l.initial.out l.at l.out l.value l.place
