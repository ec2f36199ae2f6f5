-- `reader_order::walk::next_up` meets its contract: level by level, as the definition goes. Assumes nothing.
use mathlib.Core.Path.{◌≡◌}
use Prim.Native.Nat.{◌≤◌}
use Rattle.wavelet.specs.Shape.{columns, rows}
use Rattle.reader_steps.specs.Places.{next_up}
use Rattle.reader_order.proofs.walk.next_up.Given as goal

abbrev pub invariant-loop-k : goal.invariant-loop-k
invariant-loop-k l =
    (l.fn.q.level ≤ l.s.levels)
    × (next_up l.s.filter (columns l.s) (rows l.s) l.s.levels l.k l.n l.b ≡ next_up l.s.filter (columns l.s) (rows l.s) l.s.levels l.fn.q.level l.initial.n l.initial.b)
