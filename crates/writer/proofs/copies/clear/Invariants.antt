-- `copies::clear` meets its contract: the front of the store is filled. Assumes nothing.
use mathlib.Core.Path.{refl}
use Prim.Native.Nat.{◌-◌}
use native.Mathlib.Omega.{arith}
use lib.IntN.{pos}
use Rattle.writer.proofs.Filling.{Fronting, front-start, front-turn, front-end}
use Rattle.writer.proofs.copies.clear.Given as goal

abbrev pub invariant-loop-j : goal.invariant-loop-j
invariant-loop-j l = Fronting l.count (λ _. pos 0) l.initial.store l.j l.store
