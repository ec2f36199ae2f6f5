-- `decimal::digits` meets its contract: the limit is ten to the count, and the number has at least as many digits. Assumes nothing.
use mathlib.Core.Path.{◌≡◌}
use Prim.Native.Nat.{ℕ, zero, suc, ◌+◌, ◌-◌, ◌*◌, ◌^◌, ◌≤◌, ◌<◌}
use native.Mathlib.Omega.{arith}
use native.Mathlib.Decide.{dec_lt}
use lib.ListN.{length}
use Rattle.text.specs.Decimal.{numeral}
use Rattle.text.proofs.DecimalLaws.{some-digit, at_most, twenty, pow-le, at_least}
use Rattle.text.proofs.decimal.digits.Given as goal

pub record Counted (n count limit : ℕ) : Type 0 where
  pub some : 0 < count
  pub power : limit ≡ 10 ^ count
  pub least : count ≤ length (numeral n)
  pub positive : 0 < limit

abbrev pub invariant-loop-limit : goal.invariant-loop-limit
invariant-loop-limit l = Counted l.n l.count l.limit

abbrev pub decreases-loop-limit : goal.decreases-loop-limit
decreases-loop-limit l = suc l.n - l.limit
