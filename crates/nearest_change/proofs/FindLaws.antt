-- The call put together: what its window, its cell and its first trial give where the questions pass. Assumes nothing.
use mathlib.Core.Path.{◌≡◌, refl, sym, subst}
use mathlib.Core.List.{List}
use Prim.Native.Nat.{ℕ, ◌+◌, ◌*◌, ◌≤◌, ◌<◌}
use native.Mathlib.Omega.{arith}
use lib.ListN.{get_or}
use lib.Dec.{eqb}
use borrow.Author.Tests.{ne_eqb}
use Rattle.std.specs.Prelude.{Result, Ok, Err}
use Rattle.refusal.specs.Numbers.{number}
use Rattle.refusal.specs.declared.Refusal.{Refusal}
use Rattle.refusal.proofs.Laws.{number-some}
use Rattle.numbers.specs.Signal.{pick}
use Rattle.wavelet.specs.Limits.{max_sample}
use Rattle.wavelet.proofs.LimitLaws.{width_small, height-small}
use Rattle.nearest_change.specs.NearestChange.{Ground, ground_of, IsNearest}
use Rattle.nearest_change.specs.Calls.{Answers}
use Rattle.nearest_change.specs.Trials.{places_of, Within, IsWindow, cell_in, Ready, trial_row, trial_column, tried, made_by, IsFirst, Makes}
use Rattle.nearest_change.specs.declared.Change.{Change}
use Rattle.nearest_change.specs.declared.five.Five.{Five}
use Rattle.nearest_change.specs.declared.trial.Cell.{Cell}
use Rattle.nearest_change.proofs.WindowLaws.{Heights}
use Rattle.nearest_change.proofs.TrialLaws.{old-is}
use Rattle.nearest_change.proofs.NearestTheorem.{twice, found, first-valid, first-nearest}
use Rattle.nearest_change.proofs.StepLaws.{within, ready}
use Rattle.nearest_change.proofs.QuestionLaws.{Passes}

-- a 16-bit number is a height
is-height : (n : ℕ) → n < 65536 → n ≤ max_sample
unfolding max_sample
is-height n h = omega arith

-- ---- the sizes are small
module _ (n W H r c : ℕ) (p : Passes n W H r c) where
  pub height-fits : (1 ≤ H) × (H < 4294967296) × (r < H)
  height-fits = let q = p.height in let k = height-small in let t = twice H r p.row in (omega arith, omega arith, omega arith)

  pub width_fits : (1 ≤ W) × (W < 4294967296) × (c < W)
  width_fits = let q = p.width in let k = width_small in let t = twice W c p.column in (omega arith, omega arith, omega arith)

  pub window-within : (rows columns : Five) → rows ≡ places_of H r → columns ≡ places_of W c → Within n W rows columns
  window-within rows columns e f =
      subst (λ (a : Five). Within n W a columns) (sym e)
      (subst (Within n W (places_of H r)) (sym f) (within n W H r c width_fits.0 height-fits.0 p.room))

  pub cell-ready : (w : List ℕ) (cell : Cell) → ((j : ℕ) → get_or w j 0 < 65536) → cell ≡ cell_in w H W r c → Ready cell.window cell
  cell-ready w cell s e = subst (λ (a : Cell). Ready a.window a) (sym e) (ready w s H W r c height-fits.2 width_fits.2 height-fits.1 width_fits.1)

  -- ---- the first trial
  module _ (h : List ℕ) (fits : (j : ℕ) → get_or h j 0 < 65536) (rows columns : Five) (w : List ℕ) (e : rows ≡ places_of H r) (f : columns ≡ places_of W c)
      (is : IsWindow (ground_of W h) rows columns w) (small : (j : ℕ) → get_or w j 0 < 65536) (cell : Cell) (d : cell ≡ cell_in w H W r c) (t : ℕ)
      (l : IsFirst (tried cell.window cell) t) where
    heights : Heights W H (ground_of W h)
    heights i j _ _ = is-height _ (fits (i * W + j))

    window-is : IsWindow (ground_of W h) (places_of H r) (places_of W c) w
    window-is =
        subst (λ (a : Five). IsWindow (ground_of W h) a (places_of W c) w) e (subst (λ (a : Five). IsWindow (ground_of W h) rows a w) f is)

    first-is : IsFirst (tried w (cell_in w H W r c)) t
    first-is = subst (λ (a : Cell). IsFirst (tried a.window a) t) d l

    pub makes : Makes w r c t
    makes =
        let v = first-valid W H (ground_of W h) heights r c p.row p.column w window-is t first-is in
        let o = old-is W H (ground_of W h) heights r c p.row p.column w window-is (trial_row t) (trial_column t) v.rows-in v.columns-in in
        let a = height-fits in
        let b = width_fits in
        record {
          few = found W H (ground_of W h) heights r c p.row p.column w window-is t first-is;
          row_in = (v.rows-in.from, omega arith);
          column-in = (v.columns-in.from, omega arith);
          height_in = (small _, λ k. let m = v.enough k in omega arith);
        }

    pub nearest : IsNearest W H (ground_of W h) r c (made_by w r c t)
    nearest = first-nearest W H (ground_of W h) heights r c p.row p.column w window-is t first-is

-- ---- the answers
pub refused : (q W H : ℕ) (h : List ℕ) (r c : ℕ) (why : Refusal) → number why ≡ q → Answers q W H (ground_of W h) r c (Err why)
unfolding Answers
refused q W H h r c why e = let n = number-some why in (sym e, omega arith)

pub answered : (q W H : ℕ) (h : List ℕ) (r c : ℕ) (d d' : Change) → q ≡ 0 → d ≡ d' → IsNearest W H (ground_of W h) r c d'
    → Answers q W H (ground_of W h) r c (Ok d)
unfolding Answers
answered q W H h r c d d' e s n = (e, subst (IsNearest W H (ground_of W h) r c) (sym s) n)

-- ---- what a caller takes from an answer
module _ (q W H : ℕ) (g : Ground) (r c : ℕ) (a : Result Change Refusal) (l : Answers q W H g r c a) where
  pub takes-change : (d : Change) → a ≡ Ok d → (q ≡ 0) × IsNearest W H g r c d
  unfolding Answers
  takes-change d e = subst (Answers q W H g r c) e l

  pub takes-number : (why : Refusal) → a ≡ Err why → (q ≡ number why) × (0 < number why)
  unfolding Answers
  takes-number why e = subst (Answers q W H g r c) e l

-- an array that stays where the answer is not 0
pub stays : (n : ℕ) (P : Type 0) (x : List ℕ) → 0 < n → pick (eqb n 0) P (x ≡ x)
stays n P x h = rw (ne_eqb n 0 (λ e. omega arith)) refl
