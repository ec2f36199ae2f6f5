-- `sizes::start_at` meets its contract. The loop's invariant: `from` is where level k starts. Past 65 halvings it stays (`side-turns`). Assumes nothing.
use mathlib.Core.Path.{◌≡◌}
use Rattle.lifting.specs.Grid.{side}
use Rattle.wavelet.specs.Levels.{side_at}
use Rattle.wavelet.proofs.sizes.start_at.Given as goal

abbrev pub invariant-loop : goal.invariant-loop
invariant-loop l = (l.from ≡ (side_at l.counter (side l.start 0)).start)
