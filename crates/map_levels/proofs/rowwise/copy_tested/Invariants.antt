-- `map_levels::rowwise::copy_tested` meets its contract: a sweep over the front of `to`, and the answer that of the numbers passed. Assumes nothing.
use mathlib.Core.Path.{◌≡◌}
use Prim.Native.Nat.{◌-◌, ◌≤◌}
use lib.ListN.{length}
use Rattle.numbers.specs.Signal.{at}
use Rattle.numbers.proofs.Sweep.{Swept}
use Rattle.lifting.specs.Halves.{fronted}
use Rattle.wavelet.specs.Maps.{every}
use Rattle.map_levels.specs.Rowwise.{between}
use Rattle.map_levels.proofs.rowwise.copy_tested.Given as goal

abbrev pub invariant-loop-i : goal.invariant-loop-i
invariant-loop-i l =
    (l.ok ≡ every l.i (λ j. between l.low l.high (at l.from j)))
    × Swept (length l.initial.to) (fronted (length l.from) (at l.from) (at l.initial.to)) (at l.initial.to) l.i l.to
