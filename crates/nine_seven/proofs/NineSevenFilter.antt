-- The integer 9/7 meets what is asked of a filter. Assumes nothing.
use native.Mathlib.Omega.{arith}
use Rattle.lifting.proofs.FilterLaws.{FilterLaws}
use Rattle.nine_seven.specs.NineSeven.{line_back}
use Rattle.nine_seven.specs.NineSevenFilter.{nine_seven_filter}
use Rattle.nine_seven.proofs.NineSevenReads.{forward-reads, back-reads}
use Rattle.nine_seven.proofs.NineSevenTheorems.{forward-good, back-good, line-back-forward, line-forward-back, forward-has, forward-inner, gain}
use Rattle.nine_seven.proofs.NineSevenTheorems.{gain-twice, forward-range, forward-exact}

pub nine-seven-laws : FilterLaws nine_seven_filter
unfolding line_back
nine-seven-laws = record {
  forward-good = forward-good;
  back-good = back-good;
  line-back-forward = line-back-forward;
  line-forward-back = line-forward-back;
  forward-has = forward-has;
  ahead-some = omega arith;
  forward-reads = forward-reads;
  back-reads = back-reads;
  forward-inner = forward-inner;
  gain = gain;
  forward-range = forward-range;
  forward-exact = forward-exact;
  gain-double = λ M. omega arith;
  gain-twice = gain-twice;
  words-enough = omega arith;
}
