-- `parts::largest` meets its contract: what is still to be looked at gives, with the largest so far, the largest of all. Assumes nothing.
use mathlib.Core.Path.{◌≡◌}
use Prim.Native.Nat.{◌-◌}
use Rattle.ground_loader.specs.Numbers.{numbers_in, greatest}
use Rattle.ground_loader.proofs.parts.largest.Given as goal

abbrev pub invariant-loop-i : goal.invariant-loop-i
invariant-loop-i l = greatest l.r (numbers_in l.w (l.k - l._i) l.rest) ≡ greatest l.most (numbers_in l.w l.k l.bits)
