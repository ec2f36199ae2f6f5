-- The bytes of a sample, as an input reads them among its heights. Assumes nothing.
use mathlib.Core.Path.{◌≡◌}
use mathlib.Core.Bool.{Bool, true, false}
use Prim.Native.Nat.{ℕ, suc, ◌+◌, ◌*◌}
use native.Mathlib.Omega.{arith}
use native.Mathlib.Numerals.{sub-one}
use lib.Dec.{leb}
use borrow.Author.Tests.{ne_eqb}
use Rattle.pgm.specs.Runs.{wide}
use Rattle.pgm.specs.Samples.{sampled, sample_of}
use Rattle.pgm.specs.InputSteps.{height_read, read_byte}
use Rattle.pgm.specs.declared.header.Header.{Header}
use Rattle.pgm.specs.declared.input.Input.{Input}
use Rattle.pgm.specs.StepAnswer as steps

-- the input's state at a phase: L levels, n heights to come of which none exceeds m, v the byte kept of a sample that is half read
abbrev pub at : ℕ → ℕ → Header → ℕ → ℕ → Bool → ℕ → Input
at p L h n m half v = record { phase = p; levels = L; header = h; left = n; samples = record { largest = m; half = half; high = v } }

module _ (most L : ℕ) (h : Header) (n m : ℕ) where
  pub first_byte : (v b : ℕ) → wide m ≡ true → read_byte most (at 3 L h (suc n) m false v) b ≡ steps.More (at 3 L h (suc n) m true b)
  unfolding read_byte height_read sample_of
  first_byte v b e = rw (ne_eqb (suc n) 0 (λ z. omega arith), e)

  -- the last byte of a sample u
  abbrev pub Lasts : Bool → ℕ → ℕ → ℕ → Type 0
  Lasts x v b u = (leb u m ≡ true → read_byte most (at 3 L h (suc n) m x v) b ≡ steps.Height (at 3 L h n m false 0) u)
      × (leb u m ≡ false → read_byte most (at 3 L h (suc n) m x v) b ≡ steps.No (at 4 L h (suc n) m x v) 16)

  pub second-byte : (v b : ℕ) → wide m ≡ true → Lasts true v b (256 * v + b)
  unfolding read_byte height_read sample_of sampled
  second-byte v b e = (λ f. rw (ne_eqb (suc n) 0 (λ z. omega arith), e, f, sub-one (suc n)), λ f. rw (ne_eqb (suc n) 0 (λ z. omega arith), e, f))

  pub single-byte : (x : Bool) (v b : ℕ) → wide m ≡ false → Lasts x v b b
  unfolding read_byte height_read sample_of sampled
  single-byte x v b e = (λ f. rw (ne_eqb (suc n) 0 (λ z. omega arith), e, f, sub-one (suc n)), λ f. rw (ne_eqb (suc n) 0 (λ z. omega arith), e, f))
