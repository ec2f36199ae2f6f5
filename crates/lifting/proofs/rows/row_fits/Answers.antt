-- `lifting::rows::row-fits` meets its contract: with a stride of 0 every row is empty and at place 0, else the quotient is the last row with room.
-- Assumes
-- nothing.
use mathlib.Core.Path.{◌≡◌, sym}
use Prim.Native.Nat.{ℕ, ◌+◌, ◌-◌, ◌*◌, ◌/◌, ◌≤◌, ◌<◌}
use native.Mathlib.Nat.{mul-zero, le-div_iff_mul-le, div-lt_iff_lt-mul}
use native.Mathlib.Decide.{dec_lt}
use native.Mathlib.Omega.{arith}
use lib.Dec.{leb}
use borrow.Author.Tests.{le-leb, lt-leb}
use Rattle.lifting.specs.Rows.{row_fits}
use Rattle.lifting.proofs.RowLaws.{row-fits}
use Rattle.lifting.proofs.rows.row_fits.Goals as goal

at_zero : (n s w t : ℕ) → w ≤ n → s ≡ 0 → t * s + w ≤ n
at_zero n s w t h e = rw (e, mul-zero) (omega arith)

by-division : (n s w t : ℕ) → w ≤ n → 0 < s → leb t ((n - w) / s) ≡ leb (t * s + w) n
by-division n s w t h pos =
    elim (dec_lt ((n - w) / s) t) [
      | yes p ↦
          let a : n - w < t * s = (div-lt_iff_lt-mul pos).0 p in
          simp (lt-leb t ((n - w) / s) p, lt-leb (t * s + w) n (omega arith))
      | no d ↦
          let a : t * s ≤ n - w = (le-div_iff_mul-le pos).0 (omega arith) in
          simp (le-leb t ((n - w) / s) (omega arith), le-leb (t * s + w) n (omega arith))
    ]

pub returns-then-width-stride : goal.returns-then-width-stride
unfolding row_fits
returns-then-width-stride c = simp (lt-leb _ _ c.if-width-stride.true)

pub returns-then-width-n : goal.returns-then-width-n
unfolding row_fits
returns-then-width-n c =
    let a = c.args in
    simp (le-leb _ _ c.if-width-stride.false, lt-leb (a.row * a.stride + a.width) a.n (omega arith))

pub returns-then-stride-eq0 : goal.returns-then-stride-eq0
returns-then-stride-eq0 c = sym (row-fits _ _ _ _ c.if-width-stride.false (at_zero _ _ _ _ c.if-width-n.false c.if-stride-eq0.true))

pub returns : goal.returns
unfolding row_fits
returns c =
    simp (le-leb _ _ c.if-width-stride.false)
    (by-division _ _ _ _ c.if-width-n.false (omega (arith, c.if-stride-eq0.false)))
