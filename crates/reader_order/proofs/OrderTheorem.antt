-- The places go through the band rows of the steps: `order`, and in one list `order_is`. Assumes nothing.
use mathlib.Core.Bool.{Bool, true, false}
use mathlib.Core.Path.{◌≡◌, refl, sym, ap, subst, ◌∙◌}
use mathlib.Core.List.{List, [], ◌∷◌}
use Prim.Native.Nat.{ℕ, zero, suc, ◌+◌, ◌-◌, ◌≤◌, ◌<◌}
use native.Mathlib.Omega.{arith}
use lib.Dec.{leb, ltb}
use lib.ListN.{length}
use borrow.Author.Tests.{lt-ltb, le-leb, eq-eqb, ne_eqb}
use Rattle.numbers.specs.Signal.{pick, both}
use Rattle.lifting.specs.Line.{lo}
use Rattle.lifting.specs.Grid.{Side}
use Rattle.wavelet.specs.Levels.{next, side_at}
use Rattle.wavelet.specs.Limits.{max_height}
use Rattle.wavelet.specs.Bands.{Band, code}
use Rattle.wavelet.specs.Order.{RowName, row_name, first_set, last_set, set_row}
use Rattle.wavelet.specs.Steps.{Step, feed, draw, sets_before, steps, band_rows_of}
use Rattle.wavelet.specs.declared.shape.Shape.{Shape}
use Rattle.wavelet.specs.Shape.{columns, rows}
use Rattle.wavelet.proofs.QuestionLaws.{within-yes}
use Rattle.wavelet.proofs.SideLaws.{size-le}
use Rattle.level.specs.Sets.{opens}
use Rattle.reader_steps.specs.Sets.{ahead, has_row, row_of, makes, waiting}
use Rattle.reader_steps.specs.Asked.{named}
use Rattle.reader_steps.specs.Places.{has_cells, Spot, spot, last_of_set, next_up, past, beyond, descend, begins, enter, Ready}
use Rattle.reader_steps.proofs.OpenedSets.{last-is}
use Rattle.reader_steps.proofs.Looks.{named-code, code_lt}
use Rattle.reader_steps.proofs.ReadyLaws.{ready-enter, ready-beyond}
use Rattle.reader_steps.proofs.StepsLeft.{tail_at, steps_left, Ahead, height, row, ahead-is, left-row, left-height, left-done, left-first}
use Rattle.reader_order.specs.declared.Place.{Place}
use Rattle.reader_order.specs.Order.{placed, nowhere, at, seek, shape_fits, place_fits, first_place, next_place, row_at, name_at, rows_from}
use Rattle.reader_order.proofs.OrderLaws.{fits-sized, row-some, first_some, next-some}

-- ---- no place is deeper than the last level
descend-level : (f m k : ℕ) (W H : Side) (n r : ℕ) → (descend f m k W H n r).level ≤ k + m
unfolding descend
descend-level f zero k W H n r = omega arith
descend-level f (suc m) k W H n r =
    go (both (has_cells W H) (opens (ahead f) H r)) (leb (first_set H lo) (sets_before (ahead f) H r))
    (descend-level f m (suc k) (next W) (next H) (sets_before (ahead f) H r) (sets_before (ahead f) H r - first_set H lo))
  where
    to : Spot
    to = descend f m (suc k) (next W) (next H) (sets_before (ahead f) H r) (sets_before (ahead f) H r - first_set H lo)

    go : (t u : Bool) → to.level ≤ suc k + m → (pick t (pick u to (spot (suc k) (sets_before (ahead f) H r) 1)) (spot k n 1)).level ≤ k + suc m
    go true true ih = omega (arith, ih)
    go true false ih = omega arith
    go false u ih = omega arith

module _ (f : ℕ) (W H : Side) (L : ℕ) where
  enter-level : (d : ℕ) → (enter f W H L d).level ≤ L
  unfolding enter
  enter-level d = omega (arith, descend-level f L 0 W H d d)

  beyond-level : (k n c : ℕ) → k < L → (beyond f W H L k n c).level ≤ L
  unfolding beyond past begins
  beyond-level k n c h =
      go (last_of_set W H L k n c) (makes f (side_at k H) n) (has_row H (suc k) (suc n))
      (descend-level f (L - suc k) (suc k) (side_at (suc k) W) (side_at (suc k) H) (suc n) (row_of H (suc k) (suc n)))
    where
      to : Spot
      to = descend f (L - suc k) (suc k) (side_at (suc k) W) (side_at (suc k) H) (suc n) (row_of H (suc k) (suc n))

      go : (t u v : Bool) → to.level ≤ suc k + (L - suc k) →
          (pick t (pick u (spot k (waiting f H k n) 1) (pick v to (spot (suc k) (suc n) 1))) (spot (suc k) n (c + 1))).level ≤ L
      go true true v i = omega arith
      go true false true i = omega (arith, i)
      go true false false i = omega arith
      go false u v i = omega arith

-- ---- the rows left at a place, at l + 1 levels
module _ (w h l x y f : ℕ) where
  abbrev sh : Shape
  sh = record { width = w; height = h; levels = suc l; x = x; y = y; filter = f }

  abbrev W : Side
  W = columns sh

  abbrev H : Side
  H = rows sh

  pub data Left : Place → List RowName → Type 0 where
    none : Left nowhere []
    some : (d k n : ℕ) (c : Band) (t : List RowName) → d < h → k < suc l → Ready f W H (suc l) d (spot (suc k) n (code c)) →
        band_rows_of (steps_left f W H l d (beyond f W H (suc l) k n (code c))) ≡ t →
        Left (placed d (suc k) n (code c)) (row_name (suc k) c (set_row (side_at k H) c n) ∷ t)

  abbrev rows_left : ℕ → Spot → List RowName
  rows_left d q = band_rows_of (steps_left f W H l d q)

  fed-rows : (x : RowName) {l m : List Step} → l ≡ feed x ∷ m → band_rows_of l ≡ x ∷ band_rows_of m
  unfolding band_rows_of
  fed-rows x e = ap band_rows_of e

  drawn-rows : (d : ℕ) {l m : List Step} → l ≡ draw d ∷ m → band_rows_of l ≡ band_rows_of m
  unfolding band_rows_of
  drawn-rows d e = ap band_rows_of e

  no_rows : {l : List Step} → l ≡ [] → band_rows_of l ≡ []
  unfolding band_rows_of
  no_rows e = ap band_rows_of e

  seek-left : (c d : ℕ) (q : Spot) → h - d ≡ c → q.level ≤ suc l → (d < h → Ready f W H (suc l) d q) → Left (seek sh c d q) (rows_left d q)
  unfolding seek
  seek-left zero d q e m r = subst (Left nowhere) (sym (no_rows (left-done f W H l d q (omega arith)))) none
  seek-left (suc c) d q e m r =
      go (next_up f W H (suc l) q.level q.set q.band) (ahead-is f W H l d q.level q.set q.band m (r (omega arith)))
      (seek-left c (suc d) (enter f W H (suc l) (suc d)) (omega arith) (enter-level f W H (suc l) (suc d)) (λ z. ready-enter f W H l (suc d) z))
    where
      go : (u : Spot) → Ahead f W H l d q.level (tail_at f W H l q) u →
          Left (seek sh c (suc d) (enter f W H (suc l) (suc d))) (rows_left (suc d) (enter f W H (suc l) (suc d))) →
          Left (pick (ltb 0 u.level) (at d u) (seek sh c (suc d) (enter f W H (suc l) (suc d)))) (rows_left d q)
      go _ (height z) ih = subst (Left _) (sym (drawn-rows d (left-height f W H l d q (omega arith) z))) ih
      go _ (row k n b deep ready ask z) ih =
          rw (lt-ltb 0 (suc k) (omega arith))
          (subst (Left _) (sym (fed-rows _ (left-row f W H l d q k n b (omega arith) z))) (some d k n b _ (omega arith) (omega arith) ready refl))

  -- ---- the first row, and the one after a row
  pub first-left : shape_fits sh ≡ true → Left (first_place sh) (band_rows_of (steps (ahead f) W H (suc l)))
  first-left fits =
      let z : h - 0 ≡ h = omega arith in
      subst (λ p. Left p (band_rows_of (steps (ahead f) W H (suc l)))) (first_some sh fits)
      (subst (Left _) (ap band_rows_of (left-first f W H l))
      (seek-left (h - 0) 0 (enter f W H (suc l) 0) refl (enter-level f W H (suc l) 0) (λ m. ready-enter f W H l 0 m)))

  abbrev Next : Place → RowName → List RowName → Type 0
  Next p v t = (place_fits sh p ≡ true) × (name_at sh p ≡ v) × Left (next_place sh p) t

  place-fits : shape_fits sh ≡ true → (d k n : ℕ) (c : Band) → d < h → k < suc l → n ≤ last_set (side_at k H) → place_fits sh (placed d (suc k) n (code c)) ≡ true
  unfolding place_fits
  place-fits fits d k n c p q r =
      let z = fits-sized sh fits in
      let small : n ≤ max_height = omega (arith, r, last-is (side_at k H), size-le k H, z.height) in
      rw (fits, within-yes 1 (suc l) (suc k) (omega arith) (omega arith), lt-ltb d h p, le-leb n max_height small, lt-ltb (code c) 4 (code_lt c)) refl

  pub next-left : shape_fits sh ≡ true → (p : Place) (v : RowName) (t : List RowName) → Left p (v ∷ t) → Next p v t
  next-left fits _ _ _ (some d k n c t p q ready e) =
      let inside = place-fits fits d k n c p q (ready.there k refl) in
      let i : suc k - 1 ≡ k = omega arith in (
        inside,
        ap (λ b. row_name (suc k) b (row_at sh (placed d (suc k) n (code c)))) (named-code c)
            ∙ ap (λ r. row_name (suc k) c r)
            (sym (row-some sh (placed d (suc k) n (code c)) inside)
            ∙ ap (λ j. set_row (side_at j H) (named (code c)) n) i
            ∙ ap (λ b. set_row (side_at k H) b n) (named-code c)),
        subst (Left _) e
            (subst (λ u. Left u (rows_left d (beyond f W H (suc l) k n (code c))))
            (ap (λ j. seek sh (h - d) d (beyond f W H (suc l) j n (code c))) (sym i) ∙ next-some sh (placed d (suc k) n (code c)) inside)
            (seek-left (h - d) d (beyond f W H (suc l) k n (code c)) refl (beyond-level f W H (suc l) k n (code c) q)
            (λ m. ready-beyond f W H l d k n (code c) (omega arith) ready))),
      )

  pub over-left : (p : Place) → Left p [] → p.level ≡ 0
  over-left _ none = refl

  pub row-left : (p : Place) (v : RowName) (t : List RowName) → Left p (v ∷ t) → 0 < p.level
  row-left _ _ _ (some d k n c t p q ready e) = omega arith

-- ---- the order of a shape that passes 2, 3 and 4: what is left at a place is a list of rows, the place's own first
pub record Order (s : Shape) : Type 1 where
  pub Left : Place → List RowName → Type 0
  pub first : Left (first_place s) (band_rows_of (steps (ahead s.filter) (columns s) (rows s) s.levels))
  pub next : (p : Place) (v : RowName) (t : List RowName) → Left p (v ∷ t) → (place_fits s p ≡ true) × (name_at s p ≡ v) × Left (next_place s p) t
  pub over : (p : Place) → Left p [] → p.level ≡ 0
  pub some : (p : Place) (v : RowName) (t : List RowName) → Left p (v ∷ t) → 0 < p.level

pub order : (s : Shape) → shape_fits s ≡ true → Order s
order s fits = go s.levels refl (fits-sized s fits).levels.0
  where
    made : ℕ → Shape
    made L = record { width = s.width; height = s.height; levels = L; x = s.x; y = s.y; filter = s.filter }

    go : (L : ℕ) → L ≡ s.levels → 1 ≤ L → Order s
    go zero e h = absurd (omega arith)
    go (suc l) e h =
        let same : made (suc l) ≡ s = ap made e in
        let fit : shape_fits (made (suc l)) ≡ true = ap shape_fits same ∙ fits in
        subst Order same
        record {
          Left = Left s.width s.height l s.x s.y s.filter;
          first = first-left s.width s.height l s.x s.y s.filter fit;
          next = next-left s.width s.height l s.x s.y s.filter fit;
          over = over-left s.width s.height l s.x s.y s.filter;
          some = row-left s.width s.height l s.x s.y s.filter;
        }

-- so the rows from the first place on are those that a reader wants
module _ (s : Shape) (o : Order s) where
  rows-left : (n : ℕ) (p : Place) (l : List RowName) → o.Left p l → length l ≤ n → rows_from s n p ≡ l
  unfolding rows_from
  rows-left zero p [] r h = refl
  rows-left zero p (v ∷ l) r h = absurd (omega arith)
  rows-left (suc n) p [] r h = rw (eq-eqb p.level 0 (o.over p r)) refl
  rows-left (suc n) p (v ∷ l) r h =
      let a = o.next p v l r in
      let k = o.some p v l r in
      rw (ne_eqb p.level 0 (λ e. omega arith), a.1, rows-left n (next_place s p) l a.2 (omega arith)) refl

pub order_is : (s : Shape) → shape_fits s ≡ true → (n : ℕ) → length (band_rows_of (steps (ahead s.filter) (columns s) (rows s) s.levels)) ≤ n →
    rows_from s n (first_place s) ≡ band_rows_of (steps (ahead s.filter) (columns s) (rows s) s.levels)
order_is s fits n h = rows-left s (order s fits) n (first_place s) _ (order s fits).first h
