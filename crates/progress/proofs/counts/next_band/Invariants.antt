-- `counts::next_band` meets its contract. The loop's invariant: what k bands come to is what i bands come to. Assumes nothing.
use Rattle.std.proofs.Common.{◌≡◌}
use Rattle.lifting.specs.Grid.{side}
use Rattle.progress.specs.Counts.{skip}
use Rattle.progress.proofs.counts.next_band.Given as goal

abbrev pub invariant-loop-k : goal.invariant-loop-k
invariant-loop-k l = skip (side l.x l.w) (side l.y l.m) l.n l.k ≡ skip (side l.x l.w) (side l.y l.m) l.n l.i
