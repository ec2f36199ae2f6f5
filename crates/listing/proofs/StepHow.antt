-- What a byte can bring in each phase of the input (`step-how`), the input being sane. Assumes nothing.
use mathlib.Core.Path.{◌≡◌, refl, sym, ap}
use mathlib.Core.Bool.{Bool, true, false}
use Prim.Native.Nat.{ℕ, zero, suc, ◌+◌, ◌-◌, ◌*◌, ◌≤◌, ◌<◌}
use native.Mathlib.Omega.{arith}
use lib.Dec.{leb, eqb}
use borrow.Author.Tests.{eqb-true, eqb-false}
use Rattle.numbers.specs.Signal.{pick, both}
use Rattle.wavelet.specs.Limits.{max_levels, max_sample}
use Rattle.pgm.specs.Steps.{step_of}
use Rattle.pgm.specs.Runs.{wide}
use Rattle.pgm.specs.Samples.{no_byte, sampled, sample_of}
use Rattle.pgm.specs.NextAnswer.{NextAnswer}
use Rattle.pgm.specs.NextAnswer as next
use Rattle.pgm.specs.SampleAnswer as sample
use Rattle.pgm.specs.Limits.{up_to, size_fits}
use Rattle.pgm.specs.Characters.{digit, digit_value}
use Rattle.pgm.proofs.LimitLaws.{up-to}
use Rattle.pgm.specs.InputSteps.{start_at, phased, refuse15, levels_read, line_feed_read, shape_read, next_read, header_read, sample_read, height_read}
use Rattle.pgm.specs.InputSteps.{level_digit, read_byte, heights_came}
use Rattle.pgm.specs.declared.input.Input.{Input}
use Rattle.pgm.specs.StepAnswer.{StepAnswer}
use Rattle.pgm.specs.StepAnswer as steps

-- a sample of one byte or two is a height
pub two_bytes : (a b : ℕ) → a ≤ 255 → b ≤ 255 → 256 * a + b ≤ max_sample
unfolding max_sample
two_bytes a b p q = omega arith

pub one_byte : (b : ℕ) → b ≤ 255 → b ≤ max_sample
unfolding max_sample
one_byte b p = omega arith

-- the byte kept is a byte, and once the digit was read it is one of the levels
pub record Sane (i : Input) : Type 0 where
  pub byte : i.samples.high ≤ 255
  pub levels : 0 < i.phase → i.phase < 4 → (1 ≤ i.levels) × (i.levels ≤ max_levels)

pub data StepIs (i : Input) : StepAnswer → Type 0 where
  -- of the head
  on : (j : Input) → i.phase < 3 → j.phase < 3 → StepIs i (steps.More j)
  begins : (j : Input) (W H : ℕ) → i.phase < 3 → j.phase ≡ 3 → j.left ≡ W * H → size_fits W H ≡ true → StepIs i (steps.Begun j W H)
  -- of the heights
  half : (j : Input) → i.phase ≡ 3 → j.phase ≡ 3 → j.left ≡ i.left → StepIs i (steps.More j)
  height : (j : Input) (v : ℕ) → i.phase ≡ 3 → j.phase ≡ 3 → 0 < i.left → j.left ≡ i.left - 1 → v ≤ max_sample → StepIs i (steps.Height j v)
  -- a question says no
  turned : (j : Input) (q : ℕ) → i.phase ≤ 3 → j.phase ≡ 4 → 0 < q → StepIs i (steps.No j q)
  -- one said no before
  after-refusal : 3 < i.phase → StepIs i (steps.More i)

pub data SaneThen : StepAnswer → Type 0 where
  more : {j : Input} → Sane j → SaneThen (steps.More j)
  begun : {j : Input} {W H : ℕ} → Sane j → SaneThen (steps.Begun j W H)
  tall : {j : Input} {v : ℕ} → Sane j → SaneThen (steps.Height j v)
  refused : {j : Input} {q : ℕ} → Sane j → SaneThen (steps.No j q)

abbrev pub How : Input → StepAnswer → Type 0
How i y = StepIs i y × SaneThen y

pub start-sane : Sane (start_at 0)
start-sane = record { byte = omega arith; levels = λ p q. absurd (omega arith) }

pub came-sane : (j : ℕ) (i : Input) → Sane i → Sane (heights_came j i)
came-sane j i h = record { byte = omega arith; levels = h.levels }

pub phased-sane : (i : Input) → Sane i → Sane (phased 4 i)
phased-sane i h = record { byte = h.byte; levels = λ p q. absurd (omega arith) }

pub shut-phase : (i : Input) → i.phase ≡ 4 → phased 4 i ≡ i
shut-phase i e = ap (λ p. phased p i) (sym e)

module _ (i : Input) (s : Sane i) where
  refuse-how : i.phase ≤ 3 → How i (refuse15 i)
  refuse-how p = (turned (phased 4 i) 15 p refl (omega arith), refused (phased-sane i s))

  module _ (b : ℕ) (small : b ≤ 255) where
    levels-how : i.phase ≡ 0 → How i (levels_read max_levels i b)
    unfolding levels_read level_digit
    levels-how e = go (digit b) (up_to max_levels (digit_value b)) refl
      where
        j : Input
        j = record { phase = 1; levels = digit_value b; header = i.header; left = i.left; samples = i.samples }

        go : (x y : Bool) → up_to max_levels (digit_value b) ≡ y → How i (pick (both x y) (steps.More j) (refuse15 i))
        go false y q = refuse-how (omega arith)
        go true false q = refuse-how (omega arith)
        go true true q = (on j (omega arith) (omega arith), more {j = j} (record { byte = s.byte; levels = λ _ _. up-to max_levels (digit_value b) q }))

    feed-how : i.phase ≡ 1 → How i (line_feed_read i b)
    unfolding line_feed_read
    feed-how e = go (eqb b 10)
      where
        go : (x : Bool) → How i (pick x (steps.More (phased 2 i)) (refuse15 i))
        go true = (on (phased 2 i) (omega arith) (omega arith), more (record { byte = s.byte; levels = λ _ _. s.levels (omega arith) (omega arith) }))
        go false = refuse-how (omega arith)

    shape-how : i.phase ≡ 2 → (W H m : ℕ) → How i (shape_read i W H m)
    unfolding shape_read
    shape-how e W H m = go (size_fits W H) refl
      where
        j : Input
        j = record { phase = 3; levels = i.levels; header = i.header; left = W * H; samples = no_byte m }

        go : (x : Bool) → size_fits W H ≡ x → How i (pick x (steps.Begun j W H) (refuse15 i))
        go true p =
            (begins j W H (omega arith) refl refl p, begun {j = j} (record { byte = omega arith; levels = λ _ _. s.levels (omega arith) (omega arith) }))
        go false p = refuse-how (omega arith)

    next-how : i.phase ≡ 2 → (x : NextAnswer) → How i (next_read i x)
    next-how e (next.More k) = (
      on (record { phase = 2; levels = i.levels; header = k; left = i.left; samples = i.samples }) (omega arith) (omega arith),
      more (record { byte = s.byte; levels = λ _ _. s.levels (omega arith) (omega arith) }),
    )
    next-how e (next.Done w h m) = shape-how e w h m
    next-how e next.No15 = refuse-how (omega arith)

    header-how : i.phase ≡ 2 → How i (header_read i b)
    unfolding header_read
    header-how e = next-how e (step_of i.header b)

    height-how : i.phase ≡ 3 → How i (height_read i b)
    unfolding height_read
    height-how e = go (eqb i.left 0) refl
      where
        m : ℕ
        m = i.samples.largest

        L : (1 ≤ i.levels) × (i.levels ≤ max_levels)
        L = s.levels (omega arith) (omega arith)

        gone : Input
        gone = record { phase = 3; levels = i.levels; header = i.header; left = i.left - 1; samples = no_byte m }

        -- a whole sample v
        full : 0 < i.left → (v : ℕ) → v ≤ max_sample → (x : Bool) → How i (sample_read i (pick x (sample.Height v) sample.No16))
        full p v l true = (height gone v e refl p refl l, tall {j = gone} (record { byte = omega arith; levels = λ _ _. L }))
        full p v l false = (turned (phased 4 i) 16 (omega arith) refl (omega arith), refused (phased-sane i s))

        some : 0 < i.left → (w x : Bool) → How i
            (sample_read i (pick w (pick x (sampled m (256 * i.samples.high + b)) (sample.Half (record { largest = m; half = true; high = b })))
            (sampled m b)))
        some p true true =
            unfold sampled in full p (256 * i.samples.high + b) (two_bytes i.samples.high b s.byte small) (leb (256 * i.samples.high + b) m)
        some p true false = (
          half
              (record { phase = 3; levels = i.levels; header = i.header; left = i.left; samples = record { largest = m; half = true; high = b } })
              e refl refl,
          more (record { byte = small; levels = λ _ _. L }),
        )
        some p false x = unfold sampled in full p b (one_byte b small) (leb b m)

        go : (x : Bool) → eqb i.left 0 ≡ x → How i (pick x (refuse15 i) (sample_read i (sample_of i.samples b)))
        go true p = refuse-how (omega arith)
        go false p = unfold sample_of in some (positive i.left (eqb-false i.left 0 p)) (wide m) i.samples.half
          where
            positive : (m : ℕ) → (m ≡ 0 → ⊥) → 0 < m
            positive zero d = absurd (d refl)
            positive (suc m) d = omega arith

    pub step-how : How i (read_byte max_levels i b)
    unfolding read_byte
    step-how = go (eqb i.phase 0) refl (eqb i.phase 1) refl (eqb i.phase 2) refl (eqb i.phase 3) refl
      where
        go : (x : Bool) → eqb i.phase 0 ≡ x → (y : Bool) → eqb i.phase 1 ≡ y → (z : Bool) → eqb i.phase 2 ≡ z → (w : Bool) → eqb i.phase 3 ≡ w
            → How i (pick x (levels_read max_levels i b) (pick y (line_feed_read i b) (pick z (header_read i b) (pick w (height_read i b) (steps.More i)))))
        go true p y q z r w t = levels-how (eqb-true i.phase 0 p)
        go false p true q z r w t = feed-how (eqb-true i.phase 1 q)
        go false p false q true r w t = header-how (eqb-true i.phase 2 r)
        go false p false q false r true t = height-how (eqb-true i.phase 3 t)
        go false p false q false r false t = (
          after-refusal (past i.phase (eqb-false i.phase 0 p) (eqb-false i.phase 1 q) (eqb-false i.phase 2 r)
              (eqb-false i.phase 3 t)),
          more s,
        )
          where
            past : (m : ℕ) → (m ≡ 0 → ⊥) → (m ≡ 1 → ⊥) → (m ≡ 2 → ⊥) → (m ≡ 3 → ⊥) → 3 < m
            past zero a b c d = absurd (a refl)
            past (suc zero) a b c d = absurd (b refl)
            past (suc (suc zero)) a b c d = absurd (c refl)
            past (suc (suc (suc zero))) a b c d = absurd (d refl)
            past (suc (suc (suc (suc m)))) a b c d = omega arith
