-- Steps on a row by two others, whatever filter the level has. Assumes nothing.
use mathlib.Core.Path.{◌≡◌, ap, fun_ext}
use Prim.Native.Nat.{ℕ, ◌+◌, ◌-◌, ◌*◌}
use native.Mathlib.Decide.{dec_lt}
use native.Mathlib.Omega.{arith}
use lib.IntN.{ℤ, pos, ◌+ℤ◌, ◌*ℤ◌}
use lib.Signed.{shr_z}
use lib.Dec.{leb, ltb}
use borrow.Author.Tests.{lt-leb}
use Rattle.numbers.specs.Signal.{pick}
use Rattle.numbers.specs.Word.{wrap32}
use Rattle.numbers.proofs.Integers.{each, lin}
use Rattle.lifting.specs.Line.{unpredicted}
use Rattle.lifting.specs.Rows.{row_changed}
use Rattle.level.specs.Moves.{doubled}

-- a row doubled: a number and the mean of itself and itself
twice : (v : ℤ) → unpredicted wrap32 v v v ≡ wrap32 (pos 2 *ℤ v)
twice v = unfold unpredicted in ap wrap32 (mean v)
  where
    mean : (v : ℤ) → v +ℤ shr_z (v +ℤ v) 2 ≡ pos 2 *ℤ v
    mean = each _ λ p q. simp lin (omega arith)

pub row-doubled : (w t : ℕ) (x : ℕ → ℤ) → row_changed (unpredicted wrap32) w w t t t x ≡ row_changed doubled w w t t t x
unfolding row_changed
row-doubled w t x =
    fun_ext λ j.
    elim (dec_lt j (t * w)) [
      | yes p ↦ simp (lt-leb (t * w) j p)
      | no d ↦
          let k : t * w + (j - t * w) ≡ j = omega arith in
          rw (k) (ap (λ (v : ℤ). pick (leb (t * w) j) (pick (ltb j (t * w + w)) v (x j)) (x j)) (twice (x j)))
    ]
