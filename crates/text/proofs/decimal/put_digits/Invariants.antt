-- `decimal::put_digits` meets its contract: the digits already put and those of what is left are the digits of the number, so there is room for what
-- is left. Assumes nothing.
use mathlib.Core.Path.{◌≡◌, sym, ap, ◌∙◌}
use mathlib.Core.List.{List, [], ◌∷◌, ◌++◌, append_assoc, append-nil}
use Prim.Native.Nat.{ℕ, ◌+◌, ◌/◌, ◌%◌, ◌≤◌, ◌<◌}
use native.Mathlib.Omega.{arith}
use lib.ListN.{length, length-append}
use Rattle.text.specs.Decimal.{numeral}
use Rattle.text.specs.Text.{Put}
use Rattle.text.proofs.DecimalLaws.{one-digit, last-digit, some-digit}
use Rattle.text.proofs.TextLaws.{nothing, before, same_size}
use Rattle.text.proofs.decimal.put_digits.Given as goal

-- the digits `some` of n are put, and those of rest are still to come
pub record Shown (n at rest place : ℕ) (l m : List ℕ) : Type 0 where
  pub some : List ℕ
  pub put : Put some at place l m
  pub digits : numeral n ≡ numeral rest ++ some
  pub free : length (numeral n) ≤ at

abbrev pub invariant-loop-rest : goal.invariant-loop-rest
invariant-loop-rest l = Shown l.n l.end l.rest l.place l.initial.out l.out

abbrev pub decreases-loop-rest : goal.decreases-loop-rest
decreases-loop-rest l = l.rest
