-- A pair of rows lifted back in one pass over the columns: each column by itself, and the test of the numbers made, gathered. Assumes nothing.
use mathlib.Core.Path.{◌≡◌, refl, sym, ap, ◌∙◌}
use mathlib.Core.Bool.{Bool, true, ◌&&◌}
use mathlib.Core.List.{List}
use Prim.Native.Nat.{ℕ, suc, ◌+◌, ◌*◌, ◌≤◌, ◌<◌}
use native.Mathlib.Omega.{arith}
use lib.IntN.{ℤ, pos}
use lib.ListN.{length, set, length-set}
use lib.Seq.{get_or-set_same, get_or-set_other}
use Rattle.numbers.specs.Signal.{at, both, stored}
use Rattle.numbers.specs.Word.{wrap32}
use Rattle.numbers.specs.Tests.{every}
use Rattle.numbers.proofs.Stores.{stored-off, at_stored}
use Rattle.numbers.proofs.TestLaws.{every-same}
use Rattle.lifting.specs.Line.{unpredicted, unupdated}
use Rattle.lifting.specs.Rows.{row_changed}
use Rattle.lifting.specs.Pairs.{pair_unlifted, pair_within, changed_at, unlifted_at}
use Rattle.lifting.specs.Ranges.{within}
use Rattle.lifting.proofs.RangeLaws.{within_same, pair_is}
use Rattle.lifting.proofs.ColumnLaws.{columns-apart, column-more, column-swap, row-none}

-- ---- the stores of one column, s and v being what is stored and d the high number as it was
module _ (m : List ℤ) (h l r b : ℕ) (s v d : ℤ) (ih : h < length m) (il : l < length m) (other : l ≡ h → ⊥)
    (ed : d ≡ at m h)
    (es : s ≡ unupdated wrap32 (at m l) d (at m r)) (ev : v ≡ unpredicted wrap32 d (at (set m l s) b) s) where
  low-stored : at (set m l s) ≡ changed_at (unupdated wrap32) l h r (at m)
  low-stored = at_stored m l s il ∙ ap (λ (z : ℤ). stored l z (at m)) (es ∙ ap (λ (z : ℤ). unupdated wrap32 (at m l) z (at m r)) ed)

  pub back-stores : at (set (set m l s) h v) ≡ unlifted_at h l r b (at m)
  back-stores =
      let n = length-set m l s in
      let o : at (set m l s) h ≡ d = get_or-set_other m l h s (pos 0) (λ e. other (sym e)) ∙ sym ed in
      let k : at (set m l s) l ≡ s = get_or-set_same m l s (pos 0) il in
      let u : v ≡ unpredicted wrap32 (at (set m l s) h) (at (set m l s) b) (at (set m l s) l) = cc (ev, o, k) in
      at_stored (set m l s) h v (omega arith)
      ∙ ap (λ (y : ℤ). stored h y (at (set m l s))) u
      ∙ ap (changed_at (unpredicted wrap32) h b l) low-stored

  low-stays : at (set (set m l s) h v) l ≡ s
  low-stays = get_or-set_other (set m l s) h l v (pos 0) other ∙ get_or-set_same m l s (pos 0) il

  high-stays : at (set (set m l s) h v) h ≡ v
  high-stays = let n = length-set m l s in get_or-set_same (set m l s) h v (pos 0) (omega arith)

  -- the test of both, by bounds read back
  pub back-tested : (p q : Bool) (least most low high : ℤ) → low ≡ least → high ≡ most → p ≡ within low high s → q ≡ within low high v
      → p && q ≡ both (within least most (at (set (set m l s) h v) l)) (within least most (at (set (set m l s) h v) h))
  back-tested p q least most low high el em ep eq =
      let end = set (set m l s) h v in
      pair_is p q (within least most (at end l)) (within least most (at end h)) (ep ∙ within_same low high s least most (at end l) el em (sym low-stays))
      (eq ∙ within_same low high v least most (at end h) el em (sym high-stays))

-- ---- one column more
module _ (s h l r b i : ℕ) (x : ℕ → ℤ) (g : i < s) where
  pub unlifted-more : pair_unlifted s (i + 1) h l r b x ≡ unlifted_at (h * s + i) (l * s + i) (r * s + i) (b * s + i) (pair_unlifted s i h l r b x)
  unfolding pair_unlifted
  unlifted-more =
      ap (row_changed (unpredicted wrap32) s (i + 1) h b l) (column-more (unupdated wrap32) s l h r i g x)
      ∙ column-more (unpredicted wrap32) s h b l i g _
      ∙ ap (changed_at (unpredicted wrap32) (h * s + i) (b * s + i) (l * s + i)) (column-swap (unpredicted wrap32) s h b l i g (unupdated wrap32) _ l h r)

  -- the columns before it stay
  pub unlifted-before : (q c : ℕ) → c < i → unlifted_at (h * s + i) (l * s + i) (r * s + i) (b * s + i) x (q * s + c) ≡ x (q * s + c)
  unlifted-before q c k =
      stored-off (h * s + i) (q * s + c) _ _ (columns-apart s h q i c k g) ∙ stored-off (l * s + i) (q * s + c) _ x (columns-apart s l q i c k g)

pub unlifted-none : (s h l r b : ℕ) (x : ℕ → ℤ) → pair_unlifted s 0 h l r b x ≡ x
unfolding pair_unlifted
unlifted-none s h l r b x = row-none _ s h b l _ ∙ row-none _ s l h r x

-- ---- the test, gathered
pub within_none : (lo hi : ℤ) (s h l : ℕ) (x : ℕ → ℤ) → true ≡ pair_within lo hi s 0 h l x
unfolding pair_within every
within_none lo hi s h l x = refl

pub within_more : (lo hi : ℤ) (s h l r b i : ℕ) (x y : ℕ → ℤ) (ok one : Bool) → i < s
    → y ≡ unlifted_at (h * s + i) (l * s + i) (r * s + i) (b * s + i) x → ok ≡ pair_within lo hi s i h l x
    → one ≡ both (within lo hi (y (l * s + i))) (within lo hi (y (h * s + i))) → ok && one ≡ pair_within lo hi s (i + 1) h l y
unfolding pair_within every
within_more lo hi s h l r b i x y ok one g e is here =
    let p : (z : ℕ → ℤ) → ℕ → Bool = λ z c. both (within lo hi (z (l * s + c))) (within lo hi (z (h * s + c))) in
    let n : i + 1 ≡ suc i = omega arith in
    let same : every i (p x) ≡ every i (p y) =
    every-same i _ _ (λ c k.
    let f : (q : ℕ) → y (q * s + c) ≡ x (q * s + c) = λ q. ap (λ (z : ℕ → ℤ). z (q * s + c)) e ∙ unlifted-before s h l r b i x g q c k in
    cc (f l, f h)) in
    rw n (pair_is ok one (every i (p y)) (p y i) (is ∙ same) here)

-- at the end, the bounds read back
pub within_end : (lo hi low high : ℤ) (s h l i w : ℕ) (x : ℕ → ℤ) (ok : Bool) → lo ≡ low → hi ≡ high → i ≤ w → w ≤ i
    → ok ≡ pair_within lo hi s i h l x → pair_within low high s w h l x ≡ ok
within_end lo hi low high s h l i w x ok el eh le ge is = let e : i ≡ w = omega arith in sym (rw (el, eh, e) at is)
