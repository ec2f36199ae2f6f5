use mathlib.Core.Path.{◌≡◌}
use Prim.Native.Nat.{ℕ, zero, suc, ◌+◌, ◌-◌, ◌*◌, ◌^◌, ◌≤◌, ◌<◌}
use native.Mathlib.Omega.{arith}
use native.Mathlib.Decide.{dec_lt}
use lib.ListN.{length}
use Rattle.text.specs.Decimal.{numeral}
use Rattle.text.proofs.DecimalLaws.{some-digit, at_most, twenty, pow-le, at_least}
use Rattle.text.proofs.decimal.digits.Invariants.{Counted}
use Rattle.text.proofs.decimal.digits.Goals as goal

start : (n : ℕ) → Counted n 1 10
start n = record { some = omega arith; power = omega arith; least = some-digit n; positive = omega arith }

-- one digit more
more : {n count limit : ℕ} → Counted n count limit → limit ≤ n → count < length (numeral n)
more {n} {count} {limit} c h = at_least count n (omega (arith, c.power))

next : {n count limit : ℕ} → Counted n count limit → limit ≤ n → Counted n (count + 1) (10 * limit)
next {n} {count} {limit} c h =
    record {
      some = omega arith;
      power = let e : count + 1 ≡ suc count = omega arith in rw e (omega (arith, c.power));
      least = omega (arith, more c h);
      positive = omega (arith, c.positive);
    }

few : (count n : ℕ) → 0 < count → n < 10 ^ count → length (numeral n) ≤ count
few zero n h g = absurd (omega arith)
few (suc count) n h g = at_most count n g

finish : {n count limit : ℕ} → Counted n count limit → n < limit → count ≡ length (numeral n)
finish {n} {count} {limit} c h = omega (arith, c.least, few count n c.some (omega (arith, c.power)))

-- 10 ^ 19 is the largest limit: below it there is room for ten times as much, at it there are twenty digits
module _ {n count limit : ℕ} (c : Counted n count limit) where
  room : limit < 10000000000000000000 → 10 * limit < 2 ^ 64
  room h =
      elim (dec_lt 18 count) [
        | yes p ↦ absurd (omega (arith, c.power, pow-le 19 count (omega arith)))
        | no p ↦ omega (arith, c.power, pow-le count 18 (omega arith))
      ]

  last : limit ≤ n → n < 2 ^ 64 → 10000000000000000000 ≤ limit → count + 1 ≡ length (numeral n)
  last h f g =
      elim (dec_lt 18 count) [
        | yes p ↦ omega (arith, more c h, twenty n f)
        | no p ↦ absurd (omega (arith, c.power, pow-le count 18 (omega arith)))
      ]

pub loop-limit-init : goal.loop-limit-init
loop-limit-init c = start _

pub overflow_add-count : goal.overflow_add-count
overflow_add-count c = omega (arith, more c.loop-limit.invariant (omega arith), twenty c.args.n c.ranges.n.fits)

pub returns-then-limit-ge-TWENTY_DIGITS : goal.returns-then-limit-ge-TWENTY_DIGITS
returns-then-limit-ge-TWENTY_DIGITS c = last c.loop-limit.invariant (omega arith) c.ranges.n.fits (omega arith)

pub overflow_mul-limit : goal.overflow_mul-limit
overflow_mul-limit c = record { fits = room c.loop-limit.invariant (omega arith) }

pub loop-limit-smaller : goal.loop-limit-smaller
loop-limit-smaller c = omega (arith, c.loop-limit.invariant.positive)

pub loop-limit-preserved : goal.loop-limit-preserved
loop-limit-preserved c = next c.loop-limit.invariant (omega arith)

pub returns : goal.returns
returns c = finish c.loop-limit.invariant (omega arith)
