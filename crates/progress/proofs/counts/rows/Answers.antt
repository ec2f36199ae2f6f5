-- `counts::rows` meets its contract. Assumes nothing.
use Rattle.std.proofs.Common.{◌≡◌, ℕ, zero, suc, ◌<◌, ◌≤◌, refl, ◌∙◌, arith}
use Rattle.lifting.specs.Line.{lo, hi}
use Rattle.lifting.specs.Grid.{Side, count}
use Rattle.wavelet.specs.Bands.{down}
use Rattle.progress.specs.Counts.{band_at}
use Rattle.progress.proofs.counts.rows.Goals as goal

high : (H : Side) (i : ℕ) → i < 2 → count hi H ≡ count (down (band_at i)) H
unfolding down band_at
high H zero h = refl
high H (suc zero) h = refl
high H (suc (suc i)) h = absurd (omega arith)

low : (H : Side) (i : ℕ) → 2 ≤ i → count lo H ≡ count (down (band_at i)) H
unfolding down band_at
low H zero h = absurd (omega arith)
low H (suc zero) h = absurd (omega arith)
low H (suc (suc zero)) h = refl
low H (suc (suc (suc i))) h = refl

pub returns-then-i-lt2 : goal.returns-then-i-lt2
returns-then-i-lt2 c = c.high_count.ensures ∙ high _ _ (omega arith)

pub returns : goal.returns
returns c = c.low_count.ensures ∙ low _ _ (omega arith)
