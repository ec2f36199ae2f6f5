-- The needs of the private functions, over plain numbers: what is small enough to be lifted, and each step's value. Assumes nothing.
use mathlib.Core.Path.{◌≡◌, sym, ap, ◌∙◌, subst}
use mathlib.Core.Bool.{Bool, true, false, not}
use mathlib.Core.List.{List}
use Prim.Native.Nat.{ℕ, ◌+◌, ◌-◌, ◌*◌, ◌≤◌, ◌<◌}
use native.Mathlib.Omega.{arith}
use native.Mathlib.Nat.{mul-le-mul_right}
use lib.ListN.{get_or}
use lib.Dec.{eqb, leb}
use borrow.Author.Tests.{leb-true, le-leb, lt-leb}
use Rattle.numbers.specs.Signal.{pick}
use Rattle.numbers.proofs.Sweep.{both}
use Rattle.wavelet.specs.Limits.{max_sample}
use Rattle.nearest_change.specs.Trials.{Small, places_of, bias, lifted_of, replaced_of}
use Rattle.nearest_change.specs.Trials.{Within, column_in, lows_in, cell_in, Ready, altered, altered_by}
use Rattle.nearest_change.specs.Trials.{inside, trial_by, trial_cut, trial_row, trial_column, tried}
use Rattle.nearest_change.specs.declared.five.Five.{Five}
use Rattle.nearest_change.specs.declared.trial.Cell.{Cell}
use Rattle.nearest_change.proofs.FiveLaws.{pick_yes, pick_no}
use Rattle.nearest_change.proofs.LineLaws.{lifted-small}
use Rattle.nearest_change.proofs.WindowLaws.{places-there}

-- ---- small enough
picked-small : (b : Bool) (m v x : ℕ) → v ≤ m → x ≤ m → pick b v x ≤ m
picked-small true m v x p q = p
picked-small false m v x p q = q

pub replaced-small : (m : ℕ) (f p : Five) (q v : ℕ) → Small m f → v ≤ m → Small m (replaced_of f p q v)
replaced-small m f p q v s h = (
  picked-small (eqb p.a q) m v f.a h s.0,
  picked-small (eqb p.b q) m v f.b h s.1,
  picked-small (eqb p.c q) m v f.c h s.2,
  picked-small (eqb p.d q) m v f.d h s.3,
  picked-small (eqb p.e q) m v f.e h s.4,
)

pub small_of : (m : ℕ) (f f' : Five) → f ≡ f' → Small m f' → Small m f
small_of m f f' e s = subst (Small m) (sym e) s

pub small-more : (f : Five) → Small 65535 f → Small (2 * bias) f
small-more f s = (omega arith, omega arith, omega arith, omega arith, omega arith)

module _ (w : List ℕ) (heights : (j : ℕ) → get_or w j 0 < 65536) where
  height-small : (j : ℕ) → get_or w j 0 ≤ 65535
  height-small j = omega (arith, heights j)

  pub column-small : (k : ℕ) → Small 65535 (column_in w k)
  column-small k = (height-small (5 * k), height-small (5 * k + 1), height-small (5 * k + 2), height-small (5 * k + 3), height-small (5 * k + 4))

  pub column_fits : (k : ℕ) (f : Five) → f ≡ column_in w k → Small (2 * bias) f
  column_fits k f e = small-more f (small_of 65535 f (column_in w k) e (column-small k))

  -- a column with a new height, and the row of low values with its low value
  new-column-small : (k q v : ℕ) (p f f₁ : Five) → v < 65536 → f ≡ column_in w k → f₁ ≡ replaced_of f p q v → Small 65535 f₁
  new-column-small k q v p f f₁ h e e₁ =
      small_of 65535 f₁ (replaced_of f p q v) e₁ (replaced-small 65535 f p q v (small_of 65535 f (column_in w k) e (column-small k)) (omega arith))

  pub new-column-fits : (k q v : ℕ) (p f f₁ : Five) → v < 65536 → f ≡ column_in w k → f₁ ≡ replaced_of f p q v → Small (2 * bias) f₁
  new-column-fits k q v p f f₁ h e e₁ = small-more f₁ (new-column-small k q v p f f₁ h e e₁)

  pub new-lows-fit : (k q v : ℕ) (p f f₁ : Five) (l s : ℕ) (lows columns f₂ : Five) → v < 65536 → f ≡ column_in w k → f₁ ≡ replaced_of f p q v → l ≡ lifted_of f₁
      → Small (2 * bias) lows → f₂ ≡ replaced_of lows columns s l → Small (2 * bias) f₂
  new-lows-fit k q v p f f₁ l s lows columns f₂ h e e₁ m t e₂ =
      small_of (2 * bias) f₂ (replaced_of lows columns s l) e₂
      (replaced-small (2 * bias) lows columns s l t (omega (arith, lifted-small f₁ (new-column-small k q v p f f₁ h e e₁))))

  pub lows-small : Small (2 * bias) (lows_in w)
  lows-small = (
    lifted-small (column_in w 0) (column-small 0),
    lifted-small (column_in w 1) (column-small 1),
    lifted-small (column_in w 2) (column-small 2),
    lifted-small (column_in w 3) (column-small 3),
    lifted-small (column_in w 4) (column-small 4),
  )

  pub ready : (H W r c : ℕ) → r < H → c < W → H < 4294967296 → W < 4294967296 → Ready w (cell_in w H W r c)
  ready H W r c p q h k =
      record { heights = heights; lows = lows-small; row = omega arith; column = omega arith; height = h; width = k }

-- ---- the places of a window are the map's
in_row : (i j W H n : ℕ) → i < H → j < W → W * H ≤ n → i * W + j < n
in_row i j W H n p q s = omega (arith, mul-le-mul_right W p)

pub within : (n W H r c : ℕ) → 1 ≤ W → 1 ≤ H → W * H ≤ n → Within n W (places_of H r) (places_of W c)
within n W H r c p q s i k = in_row _ _ W H n (places-there H r i q) (places-there W c k p) s

-- ---- the steps of a trial
module _ (w : List ℕ) (cell : Cell) (i k : ℕ) where
  pub altered-of : (v : ℕ) (f f₁ f₂ : Five) (l₁ l₂ : ℕ) → f ≡ column_in w k → f₁ ≡ replaced_of f cell.rows (2 * cell.row + i - 2) v → l₁ ≡ lifted_of f₁
      → f₂ ≡ replaced_of cell.lows cell.columns (2 * cell.column + k - 2) l₁ → l₂ ≡ lifted_of f₂
      → not (eqb l₂ cell.value) ≡ altered w cell i k v
  unfolding altered
  altered-of v f f₁ f₂ l₁ l₂ e e₁ m₁ e₂ m₂ =
      ap (λ (m : ℕ). not (eqb m cell.value))
      (m₂
      ∙ ap lifted_of
      (e₂
      ∙ ap (replaced_of cell.lows cell.columns (2 * cell.column + k - 2))
      (m₁ ∙ ap lifted_of (e₁ ∙ ap (λ (h : Five). replaced_of h cell.rows (2 * cell.row + i - 2) v) e))))

  abbrev old : ℕ
  old = get_or w (5 * k + i) 0

  module _ (b : Bool) (n : ℕ) where
    pub cut-none : b ≡ true → old < n → false ≡ altered_by w cell i k b n
    unfolding altered_by
    cut-none e h = sym (pick_yes b _ _ e ∙ pick_no (leb n old) _ _ (lt-leb _ _ h))

    pub cut-some : (r : Bool) → b ≡ true → n ≤ old → r ≡ altered w cell i k (old - n) → r ≡ altered_by w cell i k b n
    unfolding altered_by
    cut-some r e h a = a ∙ sym (pick_yes b _ _ e ∙ pick_yes (leb n old) _ _ (le-leb _ _ h))

    pub raise-none : (m : ℕ) → b ≡ false → m ≡ max_sample → m < old + n → false ≡ altered_by w cell i k b n
    unfolding altered_by
    raise-none m e l h = sym (pick_no b _ _ e ∙ pick_no (leb (old + n) max_sample) _ _ (lt-leb (old + n) max_sample (omega arith)))

    pub raise-some : (m : ℕ) (r : Bool) → b ≡ false → m ≡ max_sample → old + n ≤ m → r ≡ altered w cell i k (old + n) → r ≡ altered_by w cell i k b n
    unfolding altered_by
    raise-some m r e l h a = a ∙ sym (pick_no b _ _ e ∙ pick_yes (leb (old + n) max_sample) _ _ (le-leb (old + n) max_sample (omega arith)))

pub inside-from : (n q : ℕ) → inside n q ≡ true → 2 ≤ q
inside-from n q e = leb-true 2 q (both (leb 2 q) _ e).0

module _ (w : List ℕ) (cell : Cell) (t : ℕ) where
  pub outside-rows : inside cell.height (2 * cell.row + trial_row t) ≡ false → false ≡ tried w cell t
  unfolding tried
  outside-rows e = sym (pick_no _ _ _ e)

  pub outside-columns : inside cell.height (2 * cell.row + trial_row t) ≡ true → inside cell.width (2 * cell.column + trial_column t) ≡ false
      → false ≡ tried w cell t
  unfolding tried
  outside-columns e f = sym (pick_yes _ _ _ e ∙ pick_no _ _ _ f)

  pub tried_of : (r : Bool) → inside cell.height (2 * cell.row + trial_row t) ≡ true → inside cell.width (2 * cell.column + trial_column t) ≡ true
      → r ≡ altered_by w cell (trial_row t) (trial_column t) (trial_cut t) (trial_by t) → r ≡ tried w cell t
  unfolding tried
  tried_of r e f a = a ∙ sym (pick_yes _ _ _ e ∙ pick_yes _ _ _ f)

-- ---- the change of a trial, and the cell
pub made-cut : (b : Bool) (u n x : ℕ) → b ≡ true → x ≡ u - n → x ≡ pick b (u - n) (u + n)
made-cut b u n x e h = h ∙ sym (pick_yes b _ _ e)

pub made-raise : (b : Bool) (u n x : ℕ) → b ≡ false → x ≡ u + n → x ≡ pick b (u - n) (u + n)
made-raise b u n x e h = h ∙ sym (pick_no b _ _ e)

pub cell-eq : (w : List ℕ) (H W r c : ℕ) {p p' q q' l l' : Five} {v v' : ℕ} → p ≡ p' → q ≡ q' → l ≡ l' → v ≡ v'
    → ◌≡◌ {A = Cell} (record { window = w; height = H; width = W; row = r; column = c; rows = p; columns = q; lows = l; value = v })
    (record { window = w; height = H; width = W; row = r; column = c; rows = p'; columns = q'; lows = l'; value = v' })
cell-eq w H W r c a b d e = λ i. record { window = w; height = H; width = W; row = r; column = c; rows = a i; columns = b i; lows = d i; value = e i }
