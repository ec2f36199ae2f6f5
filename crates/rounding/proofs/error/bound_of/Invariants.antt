-- `error::bound_of` meets its contract: after k levels f is the error of k levels, at most 332 for each. Assumes nothing.
use mathlib.Core.Path.{◌≡◌}
use Prim.Native.Nat.{◌-◌, ◌*◌, ◌≤◌}
use Rattle.tolerance.specs.Figure.{error_after}
use Rattle.rounding.proofs.error.bound_of.Given as goal

abbrev pub invariant-loop-k : goal.invariant-loop-k
invariant-loop-k l = (l.e ≤ 63) × (l.f ≤ 332 * l._k) × (l.f ≡ error_after (l.step - 1) l._k)
