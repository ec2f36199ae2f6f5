-- `store::added` meets its contract. The loop's invariant: `sum` is that of the first k levels, and `from` and `length` are the side of level k. Assumes
-- nothing.
use mathlib.Core.Path.{◌≡◌}
use Prim.Native.Nat.{ℕ, ◌≤◌, ◌<◌, ◌^◌}
use Rattle.lifting.specs.Grid.{side}
use Rattle.wavelet.specs.Levels.{side_at}
use Rattle.wavelet.specs.Store.{widths}
use Rattle.wavelet.proofs.store.added.Given as goal

pub record Summed (width x levels sum from length k : ℕ) : Type 0 where
  pub most : k ≤ levels
  pub narrow : width < 2 ^ 16
  pub few : levels < 2 ^ 16
  pub total : sum ≡ widths (side x width) k
  pub level : side from length ≡ side_at k (side x width)
  pub shorter : length ≤ width

abbrev pub invariant-loop : goal.invariant-loop
invariant-loop l = Summed l.width l.x l.levels l.sum l.from l.length l.counter
