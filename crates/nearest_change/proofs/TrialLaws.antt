-- A trial works exactly where the change that it makes alters the cell. Assumes nothing.
use mathlib.Core.Path.{◌≡◌, refl, sym, ap, ap₂, ◌∙◌}
use mathlib.Core.Bool.{Bool, true, false, not}
use mathlib.Core.List.{List}
use Prim.Native.Nat.{ℕ, ◌+◌, ◌-◌, ◌*◌, ◌≤◌, ◌<◌}
use native.Mathlib.Omega.{arith}
use lib.IntN.{ℤ, pos, nat_abs, ◌+ℤ◌}
use lib.ListN.{get_or}
use lib.Dec.{eqb, leb, ltb}
use borrow.Author.Tests.{eqb-true, eqb-false, not-true, leb-true, ltb-true, le-leb, lt-ltb}
use Rattle.numbers.specs.Signal.{pick}
use Rattle.numbers.proofs.Integers.{each, lin}
use Rattle.numbers.proofs.Sweep.{both}
use Rattle.lifting.specs.Line.{lo}
use Rattle.lifting.specs.Grid.{side, count}
use Rattle.wavelet.specs.Limits.{max_sample}
use Rattle.nearest_change.specs.NearestChange.{Ground, cell_of, changed, Alters}
use Rattle.nearest_change.specs.Trials.{places_of, bias, lifted_of, number_of, replaced_of, IsWindow, cell_in, altered, altered_by, inside}
use Rattle.nearest_change.specs.Trials.{trial_by, trial_cut, trial_row, trial_column, tried, made_by}
use Rattle.nearest_change.specs.declared.Change.{Change}
use Rattle.nearest_change.specs.declared.five.Five.{Five}
use Rattle.nearest_change.specs.declared.trial.Cell.{Cell}
use Rattle.nearest_change.proofs.LineLaws.{mirror-in}
use Rattle.nearest_change.proofs.WindowLaws.{Heights, column_at, lows_at, cell-lifted, lows-changed, places-number, height_in, column-in, lows-in}

-- both tests, answered yes
pub both_yes : (a b : Bool) → a ≡ true → b ≡ true → pick a b false ≡ true
both_yes a b p q = simp (p, q)

cancelled : (u v : ℤ) → u +ℤ pos bias +ℤ pos bias ≡ v +ℤ pos bias +ℤ pos bias → u ≡ v
cancelled = each _ λ p q. each _ λ r s. simp lin (omega arith)

picked-height : (b : Bool) (v x : ℕ) → v ≤ max_sample → x ≤ max_sample → pick b v x ≤ max_sample
picked-height true v x p q = p
picked-height false v x p q = q

pub changed-heights : (W H : ℕ) (g : Ground) (d : Change) → d.height ≤ max_sample → Heights W H g → Heights W H (changed d g)
unfolding changed
changed-heights W H g d h heights i j p q = picked-height (pick (eqb i d.row) (eqb j d.column) false) d.height (g i j) h (heights i j p q)

not_eqb : (a b : ℕ) → (a ≡ b → ⊥) → (t : Bool) → eqb a b ≡ t → not t ≡ true
not_eqb a b h true e = absurd (h (eqb-true a b e))
not_eqb a b h false e = refl

-- place i of five is one of a line of n
pub record Here (n k i : ℕ) : Type 0 where
  pub few : i < 5
  pub from : 2 ≤ 2 * k + i
  pub to : 2 * k + i < n + 2

pub own-place : (n k i : ℕ) → Here n k i → number_of (places_of n k) i ≡ 2 * k + i - 2
own-place n k i h = places-number n k i h.few ∙ mirror-in n (2 * k + i) h.from h.to

module _ (W H : ℕ) (g : Ground) (heights : Heights W H g) (r c : ℕ) (p : r < count lo (side 0 H)) (q : c < count lo (side 0 W)) (w : List ℕ)
    (is : IsWindow g (places_of H r) (places_of W c) w) where
  abbrev rows : Five
  rows = places_of H r

  abbrev columns : Five
  columns = places_of W c

  abbrev cell : Cell
  cell = cell_in w H W r c

  abbrev value : Ground → ℕ
  value f = lifted_of (lows_at f rows columns)

  abbrev at : ℕ → ℕ → ℕ → Change
  at i k v = record { row = 2 * r + i - 2; column = 2 * c + k - 2; height = v }

  -- the cell changes where its value in natural numbers does
  values_same : (d : Change) → d.height ≤ max_sample → cell_of W H (changed d g) r c ≡ cell_of W H g r c → value (changed d g) ≡ value g
  values_same d h e =
      ap nat_abs
      (sym (cell-lifted W H (changed d g) (changed-heights W H g d h heights) r c p q)
      ∙ ap (λ (z : ℤ). z +ℤ pos bias +ℤ pos bias) e
      ∙ cell-lifted W H g heights r c p q)

  cells_same : (d : Change) → d.height ≤ max_sample → value (changed d g) ≡ value g → cell_of W H (changed d g) r c ≡ cell_of W H g r c
  cells_same d h e =
      cancelled _ _
      (cell-lifted W H (changed d g) (changed-heights W H g d h heights) r c p q
      ∙ ap pos e
      ∙ sym (cell-lifted W H g heights r c p q))

  -- what stands in the window
  pub old-is : (i k : ℕ) → Here H r i → Here W c k → get_or w (5 * k + i) 0 ≡ g (2 * r + i - 2) (2 * c + k - 2)
  old-is i k a b = height_in g rows columns w is i k a.few b.few ∙ ap₂ g (own-place H r i a) (own-place W c k b)

  -- and what the window's numbers say of a change
  altered-is : (i k v : ℕ) → Here H r i → Here W c k → altered w cell i k v ≡ not (eqb (value (changed (at i k v) g)) (value g))
  unfolding altered
  altered-is i k v a b =
      ap₂ (λ (m n : ℕ). not (eqb m n))
      (ap lifted_of
      (ap₂ (λ (f h : Five). replaced_of f columns (2 * c + k - 2) (lifted_of (replaced_of h rows (2 * r + i - 2) v))) (lows-in g rows columns w is)
      (column-in g rows columns w is k b.few ∙ ap (column_at g rows) (own-place W c k b))
      ∙ sym (lows-changed g (at i k v) rows columns)))
      (ap lifted_of (lows-in g rows columns w is))

  altered-alters : (i k v : ℕ) → Here H r i → Here W c k → v ≤ max_sample → altered w cell i k v ≡ true → Alters W H g r c (at i k v)
  altered-alters i k v a b h e =
      record {
        row_in = let f = a.from in let t = a.to in omega arith;
        column-in = let f = b.from in let t = b.to in omega arith;
        height_in = h;
        alters = λ same. eqb-false _ _ (not-true _ (sym (altered-is i k v a b) ∙ e)) (values_same (at i k v) h same);
      }

  alters-altered : (i k v : ℕ) → Here H r i → Here W c k → Alters W H g r c (at i k v) → altered w cell i k v ≡ true
  alters-altered i k v a b l =
      altered-is i k v a b ∙ not_eqb _ _ (λ e. l.alters (cells_same (at i k v) l.height_in e)) _ refl

  -- ---- trial t
  abbrev pub old : ℕ → ℕ
  old t = g (2 * r + trial_row t - 2) (2 * c + trial_column t - 2)

  -- the height that stands there in the window, and the new one
  abbrev stands : ℕ → ℕ
  stands t = get_or w (5 * trial_column t + trial_row t) 0

  abbrev new_height : Bool → ℕ → ℕ
  new_height b t = pick b (stands t - trial_by t) (stands t + trial_by t)

  -- its place is one of the map's, and a cut is no greater than the height
  pub record Valid (t : ℕ) : Type 0 where
    pub rows-in : Here H r (trial_row t)
    pub columns-in : Here W c (trial_column t)
    pub enough : trial_cut t ≡ true → trial_by t ≤ old t

  inside-here : (n k i : ℕ) → i < 5 → inside n (2 * k + i) ≡ true → Here n k i
  inside-here n k i f e =
      let b = both (leb 2 (2 * k + i)) (ltb (2 * k + i) (n + 2)) e in
      record { few = f; from = leb-true 2 _ b.0; to = ltb-true _ _ b.1 }

  here-inside : (n k i : ℕ) → Here n k i → inside n (2 * k + i) ≡ true
  here-inside n k i h = both_yes _ _ (le-leb _ _ h.from) (lt-ltb _ _ h.to)

  remainder : (t : ℕ) → (trial_row t < 5) × (trial_column t < 5)
  remainder t = (omega arith, omega arith)

  by-cut : (t : ℕ) (b : Bool) → trial_cut t ≡ b → Here H r (trial_row t) → Here W c (trial_column t)
      → altered_by w cell (trial_row t) (trial_column t) b (trial_by t) ≡ true
      → (b ≡ true → trial_by t ≤ old t) × Alters W H g r c (at (trial_row t) (trial_column t) (new_height b t))
  unfolding altered_by
  by-cut t true s a b e =
      let l = both (leb (trial_by t) (stands t)) _ e in
      let o = old-is (trial_row t) (trial_column t) a b in
      let m = heights (2 * r + trial_row t - 2) (2 * c + trial_column t - 2) (let f = a.from in let u = a.to in omega arith)
      (let f = b.from in let u = b.to in omega arith) in
      let k = leb-true (trial_by t) _ l.0 in
      (λ _. omega arith, altered-alters (trial_row t) (trial_column t) _ a b (omega arith) l.1)
  by-cut t false s a b e =
      let l = both (leb (stands t + trial_by t) max_sample) _ e in
      (λ z. absurd (no-yes z), altered-alters (trial_row t) (trial_column t) _ a b (leb-true _ _ l.0) l.1)
    where
      no-yes : false ≡ true → ⊥
      no-yes z = let k : ◌≡◌ {A = ℕ} 0 1 = ap (λ (b : Bool). pick b 1 0) z in omega arith

  pub tried-alters : (t : ℕ) → tried w cell t ≡ true → Valid t × Alters W H g r c (made_by w r c t)
  unfolding tried made_by
  tried-alters t e =
      let a = both (inside H (2 * r + trial_row t)) _ e in
      let b = both (inside W (2 * c + trial_column t)) _ a.1 in
      let m = remainder t in
      let h = inside-here H r (trial_row t) m.0 a.0 in
      let k = inside-here W c (trial_column t) m.1 b.0 in
      let l = by-cut t (trial_cut t) refl h k b.1 in
      (record { rows-in = h; columns-in = k; enough = l.0 }, l.1)

  by-alters : (t : ℕ) (b : Bool) → Here H r (trial_row t) → Here W c (trial_column t) → (b ≡ true → trial_by t ≤ old t)
      → Alters W H g r c (at (trial_row t) (trial_column t) (new_height b t))
      → altered_by w cell (trial_row t) (trial_column t) b (trial_by t) ≡ true
  unfolding altered_by
  by-alters t true a b enough l =
      let o = old-is (trial_row t) (trial_column t) a b in
      let e = enough refl in
      both_yes _ _ (le-leb (trial_by t) (stands t) (omega arith)) (alters-altered (trial_row t) (trial_column t) _ a b l)
  by-alters t false a b enough l = both_yes _ _ (le-leb _ _ l.height_in) (alters-altered (trial_row t) (trial_column t) _ a b l)

  pub alters-tried : (t : ℕ) → Valid t → Alters W H g r c (made_by w r c t) → tried w cell t ≡ true
  unfolding tried made_by
  alters-tried t v l =
      both_yes _ _ (here-inside H r (trial_row t) v.rows-in)
      (both_yes _ _ (here-inside W c (trial_column t) v.columns-in) (by-alters t (trial_cut t) v.rows-in v.columns-in v.enough l))
