-- `counts::has_row` meets its contract: the three tests are the definition's. Assumes nothing.
use Rattle.std.proofs.Common.{◌≡◌, ℕ, ◌-◌, ◌<◌, ◌≤◌, false, ltb, arith, le-ltb, lt-ltb, le-leb}
use borrow.Author.Tests.{lt-leb}
use Rattle.lifting.specs.Grid.{Side, count}
use Rattle.wavelet.specs.Bands.{Band, across, down}
use Rattle.wavelet.specs.Order.{first_set, set_row, set_has}
use Rattle.progress.proofs.counts.has_row.Goals as goal

module _ (W H : Side) (b : Band) (n k : ℕ) (e : k ≡ count (across b) W) where
  narrow : k ≡ 0 → false ≡ set_has W H b n
  unfolding set_has
  narrow z = simp (le-ltb 0 (count (across b) W) (omega arith))

  module _ (f : ℕ) (ef : f ≡ first_set H (down b)) (z : 0 < k) where
    early : n < f → false ≡ set_has W H b n
    unfolding set_has
    early h = simp (lt-ltb 0 (count (across b) W) (omega arith), lt-leb (first_set H (down b)) n (omega arith))

    wide : (m : ℕ) → m ≡ count (down b) H → f ≤ n → ltb (n - f) m ≡ set_has W H b n
    unfolding set_has set_row
    wide m em h = simp (lt-ltb 0 (count (across b) W) (omega arith), le-leb (first_set H (down b)) n (omega arith)) (rw (ef, em))

pub returns-then-columns-eq0 : goal.returns-then-columns-eq0
returns-then-columns-eq0 c = narrow _ _ _ _ _ c.columns.ensures (omega arith)

pub returns-then-n-f : goal.returns-then-n-f
returns-then-n-f c = early _ _ _ _ _ c.columns.ensures _ c.first_set-f.ensures (omega arith) (omega arith)

pub returns : goal.returns
returns c =
    wide _ _ _ _ _ c.columns.ensures _ c.first_set-f.ensures (omega arith) _ c.rows.ensures
    (omega arith)
