-- `groups::largest` meets its contract: the largest number passed and those to come have the largest of all. Assumes nothing.
use mathlib.Core.Path.{◌≡◌}
use Prim.Native.Nat.{max}
use lib.ListN.{drop}
use Rattle.ground_file.specs.Local.{largest_of}
use Rattle.ground_file.proofs.groups.largest.Given as goal

abbrev pub invariant-loop-x : goal.invariant-loop-x
invariant-loop-x l = max l.most (largest_of (drop l.x-index l.numbers)) ≡ largest_of l.numbers
