-- `reader_order::seek_row` meets its contract: where no row is wanted the height row is drawn, and the search goes on from the next. Assumes nothing.
use mathlib.Core.Path.{◌≡◌}
use Prim.Native.Nat.{◌-◌, ◌≤◌}
use Rattle.reader_steps.specs.Places.{spot}
use Rattle.reader_order.specs.Order.{seek}
use Rattle.reader_order.proofs.seek_row.Given as goal

abbrev pub invariant-loop-drawn : goal.invariant-loop-drawn
invariant-loop-drawn l =
    (l.q.level ≤ l.s.levels)
    × (seek l.s (l.s.height - l.drawn) l.drawn (spot l.q.level l.q.set l.q.band) ≡ seek l.s (l.s.height - l.d) l.d (spot l.initial.q.level l.initial.q.set l.initial.q.band))
