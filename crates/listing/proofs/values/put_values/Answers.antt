use mathlib.Core.Path.{◌≡◌, ap, ◌∙◌}
use mathlib.Core.List.{List, ◌∷◌}
use Prim.Native.Nat.{ℕ, suc, ◌+◌, ◌-◌, ◌≤◌, ◌<◌}
use native.Mathlib.Omega.{arith}
use native.Mathlib.Decide.{dec_lt}
use lib.IntN.{ℤ}
use lib.ListN.{length}
use Rattle.numbers.specs.Signal.{at as number_at}
use Rattle.numbers.proofs.Words.{read_back}
use Rattle.text.specs.Decimal.{integer}
use Rattle.listing.specs.Lines.{spaced}
use Rattle.text.specs.Text.{Wrote}
use Rattle.text.proofs.TextLaws.{wrote_none, wrote-size, wrote_on}
use Rattle.listing.proofs.values.put_values.Invariants.{Written}
use Rattle.listing.proofs.values.put_values.Goals as goal

start : (row : List ℤ) (from end : ℕ) (l : List ℕ) (at : ℕ) → from ≤ end → end ≤ length row → at ≤ length l → Written row from end l at l from at
unfolding spaced
start row from end l at f g h =
    let e : from - from ≡ 0 = omega arith in
    record { low = omega arith; high = f; long = g; wrote = rw e (wrote_none at l h) }

next : {row : List ℤ} {from end at value place p : ℕ} {l m n : List ℕ} (x : ℤ) → Written row from end l at m value place
    → value < end → x ≡ number_at row value → Wrote (32 ∷ integer x) place p m n → Written row from end l at n (value + 1) p
unfolding spaced
next {row} {from} {end} {at} {value} {place} {p} {l} {m} {n} x w h v q =
    let e : value + 1 - from ≡ suc (value - from) = omega (arith, w.low) in
    let f : value ≡ from + (value - from) = omega (arith, w.low) in
    let y : x ≡ number_at row (from + (value - from)) = v ∙ ap (number_at row) f in
    record { low = omega (arith, w.low); high = omega arith; long = w.long; wrote = rw (e, ← y) (wrote_on w.wrote q) }

module _ {row : List ℤ} {from end at value place : ℕ} {l m : List ℕ} (w : Written row from end l at m value place) where
  fits : place ≤ length m
  fits = omega (arith, w.wrote.room, wrote-size w.wrote)

  nothing-yet : value ≤ from → place ≡ at
  unfolding spaced
  nothing-yet h =
      let e : value - from ≡ 0 = omega arith in
      let p : place ≡ at + length (spaced 0 (λ i. number_at row (from + i))) =
      w.wrote.place ∙ ap (λ k. at + length (spaced k (λ i. number_at row (from + i)))) e in
      omega arith

  progress : length m - place < 12 → at + 12 ≤ length l → from < value
  progress f r =
      elim (dec_lt from value) [
        | yes h ↦ h
        | no h ↦ absurd (omega (arith, nothing-yet (omega arith), wrote-size w.wrote))
      ]

pub loop-value-init : goal.loop-value-init
loop-value-init c =
    let h = c.requires in
    start _ _ _ _ _ (omega arith) (omega arith) (omega arith)

pub loop-value-preserved : goal.loop-value-preserved
loop-value-preserved c =
    next _ c.loop-value.invariant (omega arith)
    (read_back _ c.write_value-arg-1.given) c.write_value-place.ensures

pub returns-then-out-place-lt-LONGEST-clause-from_lt_value : goal.returns-then-out-place-lt-LONGEST-clause-from_lt_value
returns-then-out-place-lt-LONGEST-clause-from_lt_value c _ r = progress c.loop-value.invariant (omega arith) r
