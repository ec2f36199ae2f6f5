-- What a byte brings, case by case. Assumes nothing.
use mathlib.Core.Path.{◌≡◌, ap}
use Prim.Native.Nat.{ℕ, ◌≤◌, ◌<◌}
use native.Mathlib.Omega.{arith}
use borrow.Author.Tests.{eq-eqb, ne_eqb, lt-ltb, le-ltb}
use Rattle.pgm.specs.Steps.{step_of}
use Rattle.pgm.specs.NextAnswer.{NextAnswer}
use Rattle.pgm.specs.InputSteps.{phased, refuse15, next_read, header_read, height_read, read_byte}
use Rattle.pgm.specs.InputSteps.{input_ended}
use Rattle.pgm.specs.declared.input.Input.{Input}
use Rattle.pgm.specs.StepAnswer as steps
use Rattle.pgm.specs.EndedAnswer as ended

module _ (most : ℕ) (i : Input) (b : ℕ) where
  pub phase-2 : i.phase ≡ 2 → header_read i b ≡ read_byte most i b
  unfolding read_byte
  phase-2 e = rw (ne_eqb i.phase 0 (λ z. omega arith), ne_eqb i.phase 1 (λ z. omega arith), eq-eqb i.phase 2 e)

  pub phase-3 : i.phase ≡ 3 → height_read i b ≡ read_byte most i b
  unfolding read_byte
  phase-3 e = rw (ne_eqb i.phase 0 (λ z. omega arith), ne_eqb i.phase 1 (λ z. omega arith), ne_eqb i.phase 2 (λ z. omega arith), eq-eqb i.phase 3 e)

  pub phase-on : (i.phase ≡ 0 → ⊥) → (i.phase ≡ 1 → ⊥) → (i.phase ≡ 2 → ⊥) → (i.phase ≡ 3 → ⊥) → steps.More i ≡ read_byte most i b
  unfolding read_byte
  phase-on p q r t = rw (ne_eqb i.phase 0 p, ne_eqb i.phase 1 q, ne_eqb i.phase 2 r, ne_eqb i.phase 3 t)

module _ (i : Input) (b : ℕ) where
  pub header-case : (x : NextAnswer) → x ≡ step_of i.header b → next_read i x ≡ header_read i b
  unfolding header_read
  header-case x e = ap (next_read i) e

  pub height-none : i.left ≡ 0 → refuse15 i ≡ height_read i b
  unfolding height_read
  height-none e = rw (eq-eqb i.left 0 e)

module _ (i : Input) where
  pub end-over : 3 < i.phase → ended.Before ≡ input_ended i
  unfolding input_ended
  end-over h = rw (lt-ltb 3 i.phase h)

  pub end-early : i.phase < 3 → ended.No15 (phased 4 i) ≡ input_ended i
  unfolding input_ended
  end-early h = rw (le-ltb 3 i.phase (omega arith), lt-ltb i.phase 3 h)

  pub end-few : i.phase ≤ 3 → 3 ≤ i.phase → 0 < i.left → ended.No15 (phased 4 i) ≡ input_ended i
  unfolding input_ended
  end-few g h l = rw (le-ltb 3 i.phase g, le-ltb i.phase 3 h, lt-ltb 0 i.left l)

  pub end_whole : i.phase ≤ 3 → 3 ≤ i.phase → i.left ≤ 0 → ended.Whole (phased 4 i) ≡ input_ended i
  unfolding input_ended
  end_whole g h l = rw (le-ltb 3 i.phase g, le-ltb i.phase 3 h, le-ltb 0 i.left l)
