-- A value limited to a range. Document 02, Q-10: a tolerant reader "limits each rebuilt value, before further use, to its level's range, heights to 0 to
-- 65,535, instead of giving 14."
use Rattle.std.specs.Prelude.{ℕ, zero, suc, ℤ, pos, neg_ℤ}
use Rattle.std.specs.Int.Signed.{lt_z}
use Rattle.numbers.specs.Signal.{pick}
use Rattle.lifting.specs.Filter.{Filter}
use Rattle.wavelet.specs.Limits.{max_sample, range}

-- the number from a to b that is nearest to v
unfoldable pub clamped : ℤ → ℤ → ℤ → ℤ
clamped a b v = pick (lt_z v a) a (pick (lt_z b v) b v)

-- a low-low value of level k, 0 for a height: `value_fits` (wavelet's Maps) is the strict reader's test
unfoldable pub limited : Filter → ℕ → ℤ → ℤ
limited F zero v = clamped (pos 0) (pos max_sample) v
limited F (suc k) v = clamped (neg_ℤ (pos (range F (suc k)))) (pos (range F (suc k))) v
