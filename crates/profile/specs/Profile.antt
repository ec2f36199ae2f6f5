-- The smooth profile of one row. Document 02, Q-13: the 9/7 lifting of T.800, without its scaling, in 32-bit floats.
-- A row is a signal of floats. `add` and `mul` are the language's `+` and `*` on f32: each rounds once, and none is fused with another.
use Rattle.std.specs.Prelude.{ℕ, zero, suc, ◌+◌, ◌%◌, ltb, eqb, Float}
use Rattle.std.specs.Float.{binary32}
use Rattle.std.specs.Float.Ieee.{add, mul, of_bits}
use Rattle.numbers.specs.Signal.{pick}

-- "c = −1.586134342, −0.052980118, 0.882911075, 0.443506852, each the nearest 32-bit float": by its bits. That each is the nearest is
-- proved in proofs/Nearest.antt.
unfoldable pub alpha : Float
alpha = of_bits binary32 0xbfcb_0673

unfoldable pub beta : Float
beta = of_bits binary32 0xbd59_01ae

unfoldable pub gamma : Float
gamma = of_bits binary32 0x3f62_0676

unfoldable pub delta : Float
delta = of_bits binary32 0x3ee3_1355

-- c × (left + right), the bracket first, added to x
unfoldable pub lifted : Float → Float → Float → Float → Float
lifted c left x right = add binary32 x (mul binary32 c (add binary32 left right))

-- The places beside place i of a row of n samples, n at least 2. "mirrored at both ends": 1 comes before 0, and n − 2 after n − 1.
unfoldable pub before : ℕ → ℕ
before zero = 1
before (suc i) = i

unfoldable pub after : ℕ → ℕ → ℕ
after n i = pick (ltb (i + 1) n) (i + 1) (before i)

-- one pass: the samples of that parity (0 the even, 1 the odd ones) are lifted, each by its two neighbours
unfoldable pub pass : ℕ → Float → ℕ → (ℕ → Float) → ℕ → Float
pass parity c n x i = pick (eqb (i % 2) parity) (lifted c (x (before i)) (x i) (x (after n i))) (x i)

-- "Four passes [..] to odd, even, odd, even samples"; "one sample stays as it is"
unfoldable pub four_passes : ℕ → (ℕ → Float) → ℕ → Float
four_passes n x = pass 0 delta n (pass 1 gamma n (pass 0 beta n (pass 1 alpha n x)))

unfoldable pub profile : ℕ → (ℕ → Float) → ℕ → Float
profile n x = pick (eqb n 1) x (four_passes n x)
