use mathlib.Core.Path.{◌≡◌, sym, ap, ◌∙◌}
use mathlib.Core.List.{List, [], ◌∷◌, ◌++◌, append_assoc, append-nil}
use Prim.Native.Nat.{ℕ, ◌+◌, ◌/◌, ◌%◌, ◌≤◌, ◌<◌}
use native.Mathlib.Omega.{arith}
use lib.ListN.{length, length-append}
use Rattle.text.specs.Decimal.{numeral}
use Rattle.text.specs.Text.{Put}
use Rattle.text.proofs.DecimalLaws.{one-digit, last-digit, some-digit}
use Rattle.text.proofs.TextLaws.{nothing, before, same_size}
use Rattle.text.proofs.decimal.put_digits.Invariants.{Shown}
use Rattle.text.proofs.decimal.put_digits.Goals as goal

start : (n at : ℕ) (l : List ℕ) → length (numeral n) ≤ at → at ≤ length l → Shown n at n at l l
start n at l g h = record { some = []; put = nothing l at h; digits = sym (append-nil (numeral n)); free = g }

next : {n at rest place p b : ℕ} {l m k : List ℕ} → Shown n at rest place l m → 10 ≤ rest → b ≡ 48 + rest % 10 → Put (b ∷ []) place p m k
    → Shown n at (rest / 10) p l k
next {n} {at} {rest} {place} {p} {b} {l} {m} {k} s g e q =
    record {
      some = b ∷ s.some;
      put = before s.put q;
      digits =
          s.digits
          ∙ ap (λ x. x ++ s.some) (last-digit rest g)
          ∙ append_assoc (numeral (rest / 10)) _ s.some
          ∙ ap (λ x. numeral (rest / 10) ++ (x ∷ s.some)) (sym e);
      free = s.free;
    }

last : {n at rest place p b : ℕ} {l m k : List ℕ} → Shown n at rest place l m → rest < 10 → b ≡ 48 + rest % 10 → Put (b ∷ []) place p m k
    → Put (numeral n) at p l k
last {n} {at} {rest} {place} {p} {b} {l} {m} {k} s g e q =
    let d : numeral n ≡ b ∷ s.some = s.digits ∙ ap (λ x. x ++ s.some) (one-digit rest g) ∙ ap (λ x. x ∷ s.some) (omega arith) in
    rw d (before s.put q)

-- what the next digit requires
room : {n at rest place : ℕ} {l m : List ℕ} → Shown n at rest place l m → (0 < place) × (place ≤ length m)
room {n} {at} {rest} {place} {l} {m} s =
    let d : length (numeral n) ≡ length (numeral rest) + length s.some = ap length s.digits ∙ length-append (numeral rest) s.some in
    (omega (arith, some-digit rest, s.put.place, s.free), omega (arith, s.put.place, s.put.room, same_size s.put))

pub loop-rest-init : goal.loop-rest-init
loop-rest-init c = start _ _ _ c.requires.0 c.requires.1

pub put_before-place-requires : goal.put_before-place-requires
put_before-place-requires c = room c.loop-rest.invariant

pub loop-rest-smaller : goal.loop-rest-smaller
loop-rest-smaller c = omega arith

pub loop-rest-preserved : goal.loop-rest-preserved
loop-rest-preserved c =
    next c.loop-rest.invariant (omega arith) c.last_digit.ensures c.put_before-place.ensures

pub put_before-requires : goal.put_before-requires
put_before-requires c = room c.loop-rest.invariant

pub shape_of-out : goal.shape_of-out
shape_of-out c =
    same_size c.put_before.ensures ∙ same_size c.loop-rest.invariant.put

pub returns : goal.returns
returns c =
    last c.loop-rest.invariant (omega arith) c.last_digit-2.ensures c.put_before.ensures
