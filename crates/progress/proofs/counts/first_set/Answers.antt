-- `counts::first_set` meets its contract. Assumes nothing.
use Rattle.std.proofs.Common.{◌≡◌, ℕ, zero, suc, ◌%◌, ◌<◌, ◌≤◌, refl, arith}
use Rattle.lifting.specs.Grid.{Side}
use Rattle.wavelet.specs.Bands.{down}
use Rattle.wavelet.specs.Order.{first_set}
use Rattle.progress.specs.Counts.{band_at}
use Rattle.progress.proofs.counts.first_set.Goals as goal

high : (H : Side) (i : ℕ) → i < 2 → 0 ≡ first_set H (down (band_at i))
unfolding first_set down band_at
high H zero h = refl
high H (suc zero) h = refl
high H (suc (suc i)) h = absurd (omega arith)

low : (H : Side) (i : ℕ) → 2 ≤ i → H.start % 2 ≡ first_set H (down (band_at i))
unfolding first_set down band_at
low H zero h = absurd (omega arith)
low H (suc zero) h = absurd (omega arith)
low H (suc (suc zero)) h = refl
low H (suc (suc (suc i))) h = refl

pub returns-then-i-lt2 : goal.returns-then-i-lt2
returns-then-i-lt2 c = high _ _ (omega arith)

pub returns : goal.returns
returns c = low _ _ (omega arith)
