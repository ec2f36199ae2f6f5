-- Where no set of a level halves an odd number, the level has none, by any filter, and the other way: `sets-have`, `have-sets`. Assumes nothing.
use mathlib.Core.Path.{◌≡◌, refl, subst}
use mathlib.Core.Bool.{Bool, true, false}
use Prim.Native.Nat.{ℕ, ◌+◌, ◌-◌, ◌≤◌, ◌<◌}
use native.Mathlib.Omega.{arith}
use Rattle.numbers.specs.Word.{wrap32}
use Rattle.numbers.specs.Tests.{every}
use Rattle.numbers.proofs.Sweep.{both}
use Rattle.numbers.proofs.TestLaws.{each-every, every-each}
use Rattle.lifting.specs.Line.{Half, lo, hi}
use Rattle.lifting.specs.Grid.{Side, count, single_high, has_line}
use Rattle.lifting.proofs.SingleLaws.{single-high, has_other}
use Rattle.lifting.specs.Filter.{Filter}
use Rattle.wavelet.specs.Bands.{Grid, Band, band_of, rows_unlifted, rows_have, columns_have, level_has}
use Rattle.wavelet.specs.Order.{first_set, last_set}
use Rattle.wavelet.specs.Steps.{set_of}
use Rattle.level.specs.Stands.{SetHasBy}
use Rattle.wavelet.proofs.StepLaws.{set_there}

-- the sets of the low rows and of the high rows
low-set : (H : Side) (r : ℕ) → r < count lo H → (r + first_set H lo ≤ last_set H) × (r + first_set H lo - first_set H lo ≡ r)
unfolding count first_set last_set
low-set H r b = (omega arith, omega arith)

high-set : (H : Side) (r : ℕ) → r < count hi H → r ≤ last_set H
unfolding count last_set
high-set H r b = omega arith

pub sets-have : (F : Filter) (a : ℕ) (W H : Side) (p : Band → Grid) → ((n : ℕ) → n ≤ last_set H → SetHasBy F a W H p n) → level_has F W H p ≡ true
unfolding level_has rows_have columns_have
sets-have F a W H p s = rw (each-every (count lo H) _ low, each-every (count hi H) _ high, each-every W.length _ (λ c b. column c b (single_high H) refl))
    refl
  where
    low : (r : ℕ) → r < count lo H → has_line W (λ h. p (band_of h lo) r) ≡ true
    low r b =
        let t = low-set H r b in
        subst (λ (i : ℕ). has_line W (λ h. p (band_of h lo) i) ≡ true) t.1 ((s (r + first_set H lo) t.0).low (omega arith))

    high : (r : ℕ) → r < count hi H → has_line W (λ h. p (band_of h hi) r) ≡ true
    high r b = (s r (high-set H r b)).high b

    column : (c : ℕ) → c < W.length → (t : Bool) → single_high H ≡ t → has_line H (λ h i. rows_unlifted F wrap32 W p h i c) ≡ true
    column c b true e = let one = (single-high H e).0 in (s (set_of a H 0) (set_there a H 0)).columns 0 (omega arith) refl c b
    column c b false e = has_other H _ e

low-there : (H : Side) (n : ℕ) → 0 < H.length → n ≤ last_set H → first_set H lo ≤ n → n - first_set H lo < count lo H
unfolding first_set last_set count
low-there H n g l b = omega arith

pub have-sets : (F : Filter) (a : ℕ) (W H : Side) (p : Band → Grid) → level_has F W H p ≡ true → 0 < H.length → (n : ℕ) → n ≤ last_set H → SetHasBy F a W H p n
unfolding level_has rows_have columns_have
have-sets F a W H p e g n l = record {
  low = λ b. every-each (count lo H) (lines lo) rows.0 (n - first_set H lo) (low-there H n g l b);
  high = λ b. every-each (count hi H) (lines hi) rows.1 n b;
  columns = λ _ _ _ c b. every-each W.length _ (both (rows_have W H p) (columns_have F W H p) e).1 c b;
}
  where
    lines : Half → ℕ → Bool
    lines h r = has_line W (λ y. p (band_of y h) r)

    rows : (every (count lo H) (lines lo) ≡ true) × (every (count hi H) (lines hi) ≡ true)
    rows = both (every (count lo H) (lines lo)) (every (count hi H) (lines hi)) (both (rows_have W H p) (columns_have F W H p) e).0
