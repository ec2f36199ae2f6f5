-- `sizes::size_at` meets its contract. The loop's invariant: `from` and `length` are the side of level k. Past 65 halvings it stays (`side-turns`). Assumes
-- nothing.
use mathlib.Core.Path.{◌≡◌}
use Rattle.lifting.specs.Grid.{side}
use Rattle.wavelet.specs.Levels.{side_at}
use Rattle.wavelet.proofs.sizes.size_at.Given as goal

abbrev pub invariant-loop : goal.invariant-loop
invariant-loop l = (side l.from l.length ≡ side_at l.counter (side l.start l.n))
