-- The 5/3 meets what is asked of a filter. Assumes nothing.
use native.Mathlib.Omega.{arith}
use Prim.Native.Nat.{◌*◌}
use Rattle.lifting.specs.Grid.{line_back}
use Rattle.lifting.specs.FiveThree.{five_three_filter}
use Rattle.lifting.proofs.FiveThree.{forward-good, back-good, line-back-forward, line-forward-back}
use Rattle.lifting.proofs.GridReads.{forward-reads, back-reads}
use Rattle.lifting.proofs.GridTheorems.{forward-has, forward-inner, forward-range, forward-exact}
use Rattle.lifting.proofs.FilterLaws.{FilterLaws}

pub five-three-laws : FilterLaws five_three_filter
unfolding line_back
five-three-laws = record {
  forward-good = forward-good;
  back-good = back-good;
  line-back-forward = line-back-forward;
  line-forward-back = line-forward-back;
  forward-has = forward-has;
  ahead-some = omega arith;
  forward-reads = forward-reads;
  back-reads = back-reads;
  forward-inner = forward-inner;
  gain = λ M. 2 * M;
  forward-range = forward-range;
  forward-exact = forward-exact;
  gain-double = λ M. omega arith;
  gain-twice = λ M. omega arith;
  words-enough = omega arith;
}
