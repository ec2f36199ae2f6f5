-- What the theorems above ask of a level on the way back, whatever it does, for a filter F: `ReaderLawsBy`. The levels of both filters meet it: `back-laws`
-- (crate synthesis, BackLaws). They are laws of any bands p of the level: a grid's, or numbers that no grid has. Assumes nothing.
use mathlib.Core.Path.{◌≡◌}
use mathlib.Core.Bool.{true, false}
use Prim.Native.Nat.{ℕ, suc, ◌+◌, ◌-◌, ◌≤◌, ◌<◌}
use lib.IntN.{ℤ}
use Rattle.lifting.specs.Line.{lo}
use Rattle.lifting.specs.Grid.{Side, count}
use Rattle.lifting.specs.Filter.{Filter}
use Rattle.wavelet.specs.Bands.{Grid, Band, LL, across}
use Rattle.wavelet.specs.Levels.{next}
use Rattle.wavelet.specs.Order.{first_set, last_set, set_row, set_has}
use Rattle.wavelet.specs.Steps.{set_of}
use Rattle.level.specs.ReaderLevel.{ReaderLevel}
use Rattle.level.specs.Stands.{SetHasBy, SetFitsBy, BackMeaning}
use Rattle.level.proofs.TriedRows.{Outcome}

pub record ReaderLawsBy (F : Filter) (K : ReaderLevel) (M : BackMeaning) : Type 0 where
  -- all this is in the level's stretch
  pub leaves-reads : (k : ℕ) (W H : Side) (p : Band → Grid) (n : ℕ) (x y : ℕ → ℤ) → ((j : ℕ) → j < K.stretch W → y j ≡ x j) → M.Leaves k W H p n x →
      M.Leaves k W H p n y
  pub before-reads : (k : ℕ) (W H : Side) (p : Band → Grid) (n : ℕ) (x y : ℕ → ℤ) → ((j : ℕ) → j < K.stretch W → y j ≡ x j) → M.Before k W H p n x →
      M.Before k W H p n y
  pub got-reads : (W H : Side) (p : Band → Grid) (n : ℕ) (c : Band) (x y : ℕ → ℤ) → ((j : ℕ) → j < K.stretch W → y j ≡ x j) → M.Got W H p n x c →
      M.Got W H p n y c
  pub feed-past : (W : Side) (s : ℕ) (c : Band) (n : ℕ) (v x : ℕ → ℤ) (j : ℕ) → K.stretch W ≤ j → K.feed W s c n v x j ≡ x j
  -- a band row fed: it is there, and what was there still is. A band without a row has none to be there.
  pub feed-before : (k : ℕ) (W H : Side) (p : Band → Grid) (n : ℕ) (c : Band) (v x : ℕ → ℤ) → M.Before k W H p n x →
      M.Before k W H p n (K.feed W H.start c n v x)
  pub feed-old : (W H : Side) (p : Band → Grid) (n : ℕ) (c e : Band) (v x : ℕ → ℤ) → (c ≡ e → ⊥) → M.Got W H p n x e →
      M.Got W H p n (K.feed W H.start c n v x) e
  pub feed-new : (W H : Side) (p : Band → Grid) (n : ℕ) (c : Band) (v x : ℕ → ℤ) → ((i : ℕ) → i < count (across c) W → v i ≡ p c (set_row H c n) i) →
      M.Got W H p n (K.feed W H.start c n v x) c
  pub got-none : (W H : Side) (p : Band → Grid) (n : ℕ) (c : Band) (x : ℕ → ℤ) → set_has W H c n ≡ false → M.Got W H p n x c
  -- it looks ahead, so that its last set makes its last row
  pub looks : 1 ≤ K.ahead
  -- the first set needs nothing, and each has what it needs of those before it once the one before it is worked out
  pub before-first : (k : ℕ) (W H : Side) (p : Band → Grid) (x : ℕ → ℤ) → M.Before k W H p 0 x
  pub before-next : (k : ℕ) (W H : Side) (p : Band → Grid) (n : ℕ) (x : ℕ → ℤ) → suc n ≤ last_set H → M.Leaves k W H p n x → M.Before k W H p (suc n) x
  -- Set n worked out: it makes the rows of the way back. If a number is refused, a row that it makes
  -- does not fit, or a number that it halves is odd: it asks no other row 14.
  pub work-last : (k : ℕ) (W H : Side) (p : Band → Grid) (n : ℕ) (x : ℕ → ℤ) → 0 < H.length → n ≤ last_set H → M.Before k W H p n x →
      ((c : Band) → M.Got W H p n x c) →
      Outcome (SetFitsBy F K.ahead (K.fits k) (K.back k W H p) W H p n) (λ y. M.Leaves k W H p n y × ((j : ℕ) → K.stretch W ≤ j → y j ≡ x j))
      (K.work true k W H n x)
  pub work-on : (k : ℕ) (W H : Side) (p : Band → Grid) (n : ℕ) (x : ℕ → ℤ) → 0 < H.length → n ≤ last_set H → M.Before k W H p n x →
      ((c : Band) → (c ≡ LL → ⊥) → M.Got W H p n x c) →
      (first_set H lo ≤ n → (i : ℕ) → i < count lo W →
      K.made (next W) (next H).start (n - first_set H lo) (λ j. x (K.stretch W + j)) i ≡ p LL (n - first_set H lo) i) →
      Outcome (SetFitsBy F K.ahead (K.fits k) (K.back k W H p) W H p n) (λ y. M.Leaves k W H p n y × ((j : ℕ) → K.stretch W ≤ j → y j ≡ x j))
      (K.work false k W H n x)
  -- the rows that it makes, and that no number that it halved is odd
  pub made-is : (k : ℕ) (W H : Side) (p : Band → Grid) (n : ℕ) (x : ℕ → ℤ) → M.Leaves k W H p n x → (r : ℕ) → r < H.length → set_of K.ahead H r ≡ n →
      (c : ℕ) → c < W.length → K.made W H.start r x c ≡ K.back k W H p r c
  pub made-fits : (k : ℕ) (W H : Side) (p : Band → Grid) (n : ℕ) (x : ℕ → ℤ) → M.Leaves k W H p n x → (r : ℕ) → r < H.length → set_of K.ahead H r ≡ n →
      (c : ℕ) → c < W.length → K.fits k (K.back k W H p r c) ≡ true
  pub made-has : (k : ℕ) (W H : Side) (p : Band → Grid) (n : ℕ) (x : ℕ → ℤ) → M.Leaves k W H p n x → SetHasBy F K.ahead W H p n
