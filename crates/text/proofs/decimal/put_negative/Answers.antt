-- `decimal::put_negative` meets its contract: the sign, and the digits behind it. Assumes nothing.
use mathlib.Core.Path.{◌≡◌, refl, ◌∙◌}
use mathlib.Core.List.{List, ◌∷◌}
use Prim.Native.Nat.{ℕ, ◌+◌, ◌≤◌}
use native.Mathlib.Omega.{arith}
use lib.ListN.{length, set, length-set}
use Rattle.text.specs.Decimal.{numeral}
use Rattle.text.specs.Text.{Put, Wrote}
use Rattle.text.proofs.DecimalLaws.{twenty}
use Rattle.text.proofs.TextLaws.{same_size, fits, fits_not, puts_whole, puts_none, wrote-byte, wrote_on, put-at}
use Rattle.text.proofs.decimal.put_negative.Goals as goal

-- n is the count of the digits and the sign, o the area before and m after
minus : (k n a : ℕ) (o : List ℕ) {d r : ℕ} {m : List ℕ} → n ≡ 1 + d → d ≡ length (numeral k) → a + n ≤ length o → Put (numeral k) (a + n) r (set o a 45) m
    → Wrote (45 ∷ numeral k) a (a + n) o m
minus k n a o {d} {r} {m} e g h p =
    let b : a + n ≡ a + 1 + d = omega arith in
    rw b (wrote_on (wrote-byte 45 o a (omega arith)) (put-at {a = a + 1} {n = d} g (rw b at p)))

pub overflow_add-count : goal.overflow_add-count
overflow_add-count c = omega (arith, c.digits-count.ensures, twenty c.args.n c.ranges.n.fits)

pub bounds-out-at : goal.bounds-out-at
bounds-out-at c =
    let a = c.args in
    omega (arith, fits (a.at + (1 + c.digits-count.result)) (length a.out.now) c.has_room.ensures c.if-has_room.true)

pub overflow_add-at : goal.overflow_add-at
overflow_add-at c =
    let a = c.args in
    omega (arith, fits (a.at + (1 + c.digits-count.result)) (length a.out.now) c.has_room.ensures c.if-has_room.true)

pub put_digits-requires : goal.put_digits-requires
put_digits-requires c =
    let a = c.args in
    (omega (arith, c.digits-count.ensures), simp length-set (fits (a.at + (1 + c.digits-count.result)) (length a.out.now) c.has_room.ensures c.if-has_room.true))

pub overflow_add-result : goal.overflow_add-result
overflow_add-result c =
    let a = c.args in
    omega (arith, fits (a.at + (1 + c.digits-count.result)) (length a.out.now) c.has_room.ensures c.if-has_room.true)

pub shape_of-out-then-has_room : goal.shape_of-out-then-has_room
shape_of-out-then-has_room c = same_size c.put_digits.ensures ∙ simp length-set

pub returns-then-has_room : goal.returns-then-has_room
returns-then-has_room c =
    let a = c.args in
    puts_whole (minus a.n _ a.at a.out.now refl c.digits-count.ensures
    (fits (a.at + (1 + c.digits-count.result)) (length a.out.now) c.has_room.ensures c.if-has_room.true) c.put_digits.ensures)

pub returns : goal.returns
returns c =
    let a = c.args in
    puts_none _ _ _ (omega (arith, c.digits-count.ensures, fits_not (a.at + (1 + c.digits-count.result)) (length a.out.now) c.has_room.ensures c.if-has_room.false))
