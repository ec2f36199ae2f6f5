-- The level of an admission, strict or tolerant, as the streams know it (`level_of`), and that it meets what is asked of one (`admission-laws`). A tolerant one
-- from the origin on refuses no set (`tolerant-goes`), whatever stands in the store, and what it makes is in range (`grid-fits`). Assumes nothing.
use mathlib.Core.Path.{◌≡◌, refl, sym, ap, ap₂, subst, ◌∙◌}
use mathlib.Core.Bool.{Bool, true, false}
use Prim.Native.Nat.{ℕ, zero, suc, ◌+◌, ◌*◌, ◌<◌}
use native.Mathlib.Omega.{arith}
use lib.IntN.{ℤ}
use lib.Dec.{ltb}
use Rattle.numbers.specs.Signal.{pick}
use Rattle.lifting.specs.Grid.{Side, side, has_line, single_high}
use Rattle.lifting.specs.GridHalves.{has_line_in}
use Rattle.filters.specs.Filters.{filter_of}
use Rattle.wavelet.specs.Bands.{Grid, Band}
use Rattle.wavelet.specs.Maps.{value_fits}
use Rattle.tolerance.specs.Back.{level_back_limited}
use Rattle.tolerance.proofs.LimitLaws.{limited-fits}
use Rattle.level.specs.Tried.{Tried, passed, failed, bind}
use Rattle.level.specs.Stretch.{row_has_line, line_tried, low_tried, high_tried, set_unlifted, has_low, end_of}
use Rattle.level.specs.ReaderLevel.{ReaderLevel}
use Rattle.level.proofs.WorkedPast.{Keeps}
use Rattle.level.proofs.ReaderLaws.{ReaderLawsBy}
use Rattle.level.specs.Rebuilding.{Kept}
use Rattle.synthesis.specs.Back.{back_of, workable_of}
use Rattle.synthesis.specs.Columns.{along_of}
use Rattle.synthesis.specs.Tolerant.{back_limited, tolerant_columns, tolerant_back}
use Rattle.synthesis.specs.Work.{set_made, set_worked}
use Rattle.synthesis.proofs.FilterColumns.{rows-some}
use Rattle.synthesis.proofs.WorkedPast.{worked-past}
use Rattle.synthesis.proofs.BackLaws.{back-laws, back-worked}
use Rattle.synthesis.proofs.TolerantColumns.{tolerant-columns, tolerant-laws}
use Rattle.synthesis.proofs.TolerantCalls.{rows-made}
use Rattle.reader.specs.Admission.{work_by, grid_by, fits_by, stands_by}

abbrev pub level_of : ℕ → ℕ → ReaderLevel
level_of a f = record {
  ahead = (back_of f).ahead;
  stretch = (back_of f).stretch;
  feed = (back_of f).feed;
  work = work_by a f;
  made = (back_of f).made;
  back = grid_by a f;
  fits = fits_by a f;
}

pub admission-laws : (a f : ℕ) → ReaderLawsBy (filter_of f) (level_of a f) (stands_by a f)
unfolding back_of tolerant_back
admission-laws zero f = back-laws f
admission-laws (suc a) zero = tolerant-laws
admission-laws (suc a) (suc f) = back-laws (suc f)

-- a set worked out leaves what is past the stretch
pub admission-worked : (a f k : ℕ) (W H : Side) (last : Bool) (n : ℕ) (x : ℕ → ℤ) → Keeps ((filter_of f).rows * W.length) x (work_by a f last k W H n x)
unfolding tolerant_back
admission-worked zero f k W H last n x = back-worked f k W H last n x
admission-worked (suc a) zero k W H last n x = worked-past tolerant_columns tolerant-columns (rows-some 0) k W H last n x
admission-worked (suc a) (suc f) k W H last n x = back-worked (suc f) k W H last n x

-- ---- from the origin on
-- what a tolerant level makes is in its level's range
limited-range : (k : ℕ) (W : Side) (h : ℕ) (p : Band → Grid) (r c : ℕ) → value_fits (filter_of 0) k (back_limited k W (side 0 h) p r c) ≡ true
unfolding back_limited level_back_limited single_high
limited-range k W h p r c = limited-fits (filter_of 0) k _

-- a row out of range is never drawn: by an admission of rows from 0 on, what is made fits where the strict test asks it
pub grid-fits : (a f k : ℕ) (W H : Side) (p : Band → Grid) (r c : ℕ) → (0 < a → H.start ≡ 0) → fits_by a f k (grid_by a f k W H p r c) ≡ true →
    value_fits (filter_of f) k (grid_by a f k W H p r c) ≡ true
grid-fits zero f k W H p r c start e = e
grid-fits (suc a) zero k W H p r c start e =
    subst (λ s. value_fits (filter_of 0) k (back_limited k W (side s H.length) p r c) ≡ true) (sym (start (omega arith))) (limited-range k W H.length p r c)
grid-fits (suc a) (suc f) k W H p r c start e = e

-- nothing is refused
abbrev pub Goes : Tried → Type 0
Goes t = (y : ℕ → ℤ) × (t ≡ passed y)

pub goes_bind : (t : Tried) (g : (ℕ → ℤ) → Tried) → Goes t → ((y : ℕ → ℤ) → Goes (g y)) → Goes (bind t g)
unfolding bind
goes_bind t g h on = ((on h.0).0, ap (λ u. bind u g) h.1 ∙ (on h.0).1)

pub goes-pick : (b : Bool) (t u : Tried) → Goes t → Goes u → Goes (pick b t u)
goes-pick true t u g h = g
goes-pick false t u g h = h

line-goes : (w q : ℕ) (x : ℕ → ℤ) → Goes (line_tried 4 (along_of 0) (side 0 w) q x)
unfolding line_tried row_has_line has_line_in has_line single_high
line-goes w q x = (_, refl)

-- a set of a tolerant level
module _ (k w h n : ℕ) (there : 2 * n < h) where
  set-goes : (x : ℕ → ℤ) → Goes (set_made tolerant_columns k (side 0 w) (side 0 h) n x)
  unfolding set_made set_unlifted low_tried high_tried filter_of
  set-goes x =
      goes_bind _ _
      (goes_bind _ _ (goes-pick (has_low (side 0 h) n) _ _ (line-goes w (2 * n) x) (x, refl))
      (λ y. goes-pick (ltb (2 * n + 1) (end_of (side 0 h))) _ _ (line-goes w (2 * n + 1) y) (y, refl)))
      (λ y. (_, rows-made k w h n there y))

  pub tolerant-goes : (last : Bool) (x : ℕ → ℤ) → Goes (tolerant_back.work last k (side 0 w) (side 0 h) n x)
  unfolding tolerant_back set_worked
  tolerant-goes last x = set-goes _

-- ---- what the two calls that work a set out leave, by the admission
pub strict-work : (a f : ℕ) (room last : Bool) (k : ℕ) (W H : Side) (n : ℕ) (x : ℕ → ℤ) → a ≡ 0 →
    pick room ((back_of f).work last k W H n x) failed ≡ pick room (work_by a f last k W H n x) failed
strict-work zero f room last k W H n x e = refl
strict-work (suc a) f room last k W H n x e = absurd (omega arith)

pub tolerant-work : (a f p w q h : ℕ) (last : Bool) (k n m : ℕ) (x : ℕ → ℤ) → (a ≡ 0 → ⊥) → (f ≡ 0) × (p ≡ 0) × (q ≡ 0) →
    pick (workable_of 0 last k (side 0 w) (side 0 h) n m) (tolerant_back.work last k (side 0 w) (side 0 h) n x) failed
    ≡ pick (workable_of f last k (side p w) (side q h) n m) (work_by a f last k (side p w) (side q h) n x) failed
tolerant-work zero f p w q h last k n m x d z = absurd (d refl)
tolerant-work (suc a) (suc f) p w q h last k n m x d z = absurd (omega (arith, z.0))
tolerant-work (suc a) zero p w q h last k n m x d z =
    sym (ap₂ (λ i j. pick (workable_of 0 last k (side i w) (side j h) n m) (tolerant_back.work last k (side i w) (side j h) n x) failed) z.1 z.2)

pub rows_of : (f n : ℕ) (x y : ℕ → ℤ) → f ≡ 0 → Kept ((filter_of 0).rows * n) x y → Kept ((filter_of f).rows * n) x y
rows_of f n x y e h = subst (λ i. Kept ((filter_of i).rows * n) x y) (sym e) h
