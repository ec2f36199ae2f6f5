-- `map_levels::passes::interleave_rows` meets its contract: a pass over all rows, each lent as a part. Assumes nothing.
use mathlib.Core.Path.{◌≡◌}
use Prim.Native.Nat.{◌-◌, ◌/◌, ◌≤◌}
use lib.ListN.{length}
use Rattle.numbers.specs.Signal.{at}
use Rattle.lifting.specs.Grid.{side}
use Rattle.wavelet.specs.Limits.{max_width}
use Rattle.map_levels.specs.Rowwise.{interleaved_in_place, between}
use Rattle.wavelet.specs.Plane.{cells}
use Rattle.wavelet.specs.Maps.{every}
use Rattle.map_levels.specs.Passes.{rows_mapped}
use Rattle.map_levels.proofs.GridSweep.{Passed}
use Rattle.map_levels.proofs.passes.interleave_rows.Given as goal

abbrev pub invariant-loop-r : goal.invariant-loop-r
invariant-loop-r l =
    (length l.line ≡ max_width - max_width / 2)
    × (l.ok ≡ every l.r (λ i. every l.width (λ k. between l.low l.high (cells l.stride (at l.initial.area) i k))))
    × Passed l.stride l.width l.height (rows_mapped (interleaved_in_place (side l.x l.width)) l.width l.height (cells l.stride (at l.initial.area))) l.initial.area l.r l.area
