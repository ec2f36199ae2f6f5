-- The 5/3's even row of set n and the odd row before it, made in one pass, come to the same as one after the other. Assumes nothing.
use mathlib.Core.Path.{◌≡◌, refl, sym, ap, ◌∙◌}
use mathlib.Core.Bool.{Bool, true, false, false≢true}
use Prim.Native.Nat.{ℕ, zero, suc, ◌+◌, ◌-◌, ◌*◌, ◌%◌, ◌≤◌, ◌<◌}
use native.Mathlib.Omega.{arith}
use lib.IntN.{ℤ, pos}
use lib.Dec.{eqb}
use borrow.Author.Tests.{lt-ltb, le-ltb}
use Rattle.numbers.specs.Signal.{pick, both}
use Rattle.numbers.specs.Tests.{every}
use Rattle.numbers.specs.Word.{wrap32}
use Rattle.numbers.proofs.TestLaws.{every-same}
use Rattle.lifting.specs.Line.{unupdated, unpredicted}
use Rattle.lifting.specs.Grid.{Side}
use Rattle.lifting.specs.Rows.{row_changed}
use Rattle.lifting.specs.Ranges.{within}
use Rattle.lifting.specs.Pairs.{pair_fits, pair_unlifted, pair_within}
use Rattle.lifting.proofs.ColumnLaws.{pair-fits}
use Rattle.filters.specs.Filters.{filter_of}
use Rattle.wavelet.specs.Limits.{range}
use Rattle.wavelet.specs.Maps.{value_fits}
use Rattle.areas.specs.Areas.{between}
use Rattle.level.specs.Tried.{failed, passed, outcome}
use Rattle.level.specs.Stretch as stretch
use Rattle.level.specs.Stretch.{has_low}
use Rattle.level.specs.Rebuilding.{Kept, lowest_by}
use Rattle.level.proofs.SlotLaws.{slot-room}
use Rattle.level.proofs.AdmitLaws.{value-between}
use Rattle.level.proofs.WorkLaws.{low-there}
use Rattle.level.proofs.KeptLaws.{kept-both, kept-is}
use Rattle.synthesis.specs.Columns.{row_before, row_after, unupdated_of, even_of, odd_of, columns_of}
use Rattle.synthesis.specs.Work.{even_done, row_fits, pair_made, own_even, pair_of, most_made}
use Rattle.synthesis.proofs.FilterColumns.{columns-laws}
use Rattle.synthesis.proofs.NeighbourLaws.{odd-before, even-after}
use Rattle.synthesis.proofs.KeptLaws.{odd-kept, done-kept}
use Rattle.synthesis.proofs.WorkLaws.{pair-failed, pair-made, first-none, before-pair, most-passed}

-- ---- tests
both-four : (a b c d : Bool) → both (both a b) (both c d) ≡ both (both a c) (both b d)
both-four true true c d = refl
both-four true false true d = refl
both-four true false false d = refl
both-four false b c d = refl

both-turned : (a b : Bool) → both a b ≡ both b a
both-turned true true = refl
both-turned true false = refl
both-turned false true = refl
both-turned false false = refl

every-both : (n : ℕ) (p q : ℕ → Bool) → every n (λ i. both (p i) (q i)) ≡ both (every n p) (every n q)
unfolding every
every-both zero p q = refl
every-both (suc n) p q = ap (λ (t : Bool). both t (both (p n) (q n))) (every-both n p q) ∙ both-four (every n p) (every n q) (p n) (q n)

within-fits : (k : ℕ) (low high v : ℤ) → low ≡ lowest_by (filter_of 0) k → high ≡ pos (range (filter_of 0) k) → within low high v ≡ value_fits (filter_of 0) k v
within-fits k low high v el eh = rw (el, eh) (unfold within between in sym (value-between (filter_of 0) k v))

-- ---- set n with both rows
module _ (k w : ℕ) (H : Side) (n : ℕ) (some : 0 < n) (there : 2 * n < H.start % 2 + H.length) where
  even_is : (a : ℕ) (x : ℕ → ℤ) → a ≡ row_after H 1 (2 * n) →
      row_changed (unupdated wrap32) w w (2 * n % 4) ((2 * n - 1) % 4) (a % 4) x ≡ even_done (columns_of 0) k w H n x
  unfolding even_done even_of unupdated_of filter_of stretch.row_by
  even_is a x ea = rw (low-there H n (omega arith), lt-ltb 1 H.length (omega arith), ← odd-before H n some there, ea) refl

  odd_is : (b : ℕ) (y : ℕ → ℤ) → b ≡ row_before H 1 (2 * n - 1) →
      row_changed (unpredicted wrap32) w w ((2 * n - 1) % 4) (b % 4) (2 * n % 4) y ≡ odd_of 0 w H (2 * n - 1) y
  unfolding odd_of stretch.row_by
  odd_is b y eb = rw (← even-after H n some there, eb) refl

  odd_place : 2 * (n - 1) + 1 ≡ 2 * n - 1
  odd_place = omega arith

  even_place : 2 * (n - 1) + 2 ≡ 2 * n
  even_place = omega arith

  pair_is : (a b : ℕ) (x : ℕ → ℤ) → a ≡ row_after H 1 (2 * n) → b ≡ row_before H 1 (2 * n - 1) →
      pair_unlifted w w ((2 * n - 1) % 4) (2 * n % 4) (a % 4) (b % 4) x ≡ odd_of 0 w H (2 * (n - 1) + 1) (even_done (columns_of 0) k w H n x)
  unfolding pair_unlifted
  pair_is a b x ea eb = rw odd_place (odd_is b _ eb ∙ ap (odd_of 0 w H (2 * n - 1)) (even_is a x ea))

  slots_apart : 2 * n % 4 ≡ (2 * n - 1) % 4 → ⊥
  slots_apart e = omega arith

  -- the rows of the pair fit in the level's stretch
  pair-room : (N r b : ℕ) → 4 * w ≤ N → pair_fits N w w ((2 * n - 1) % 4) (2 * n % 4) (r % 4) (b % 4) ≡ true
  pair-room N r b room =
      let four : 0 < 4 = omega arith in
      let p = slot-room four w (2 * n - 1) in
      let q = slot-room four w (2 * n) in
      let s = slot-room four w r in
      let t = slot-room four w b in
      pair-fits N w w _ _ _ _ slots_apart (omega arith) (omega arith) (omega arith) (omega arith) (omega arith)

  pair-fitting : (low high : ℤ) (z : ℕ → ℤ) → low ≡ lowest_by (filter_of 0) k → high ≡ pos (range (filter_of 0) k) →
      pair_within low high w w ((2 * n - 1) % 4) (2 * n % 4) z ≡
      both (row_fits (columns_of 0) k w (2 * (n - 1) + 1) z) (row_fits (columns_of 0) k w (2 * (n - 1) + 2) z)
  unfolding pair_within stretch.row_fits stretch.row_place filter_of
  pair-fitting low high z el eh =
      let E : ℕ → Bool = λ i. value_fits (filter_of 0) k (z (2 * n % 4 * w + i)) in
      let O : ℕ → Bool = λ i. value_fits (filter_of 0) k (z ((2 * n - 1) % 4 * w + i)) in
      rw (odd_place, even_place)
      (every-same w _ (λ i. both (E i) (O i)) (λ i h. cc (
        within-fits k low high (z (2 * n % 4 * w + i)) el eh,
        within-fits k low high (z ((2 * n - 1) % 4 * w + i)) el eh,
      ))
      ∙ every-both w E O
      ∙ both-turned (every w E) (every w O))

  -- ---- one after the other
  not_own : own_even H n ≡ false
  unfolding own_even
  not_own = rw (low-there H n (omega arith), le-ltb n 1 (omega arith)) refl

  most-is : (y : ℕ → ℤ) → pair_made (columns_of 0) k w H (n - 1) y ≡ most_made (columns_of 0) k w H n y
  unfolding filter_of pair_of
  most-is y =
      before-pair (columns_of 0) k w H n y (n - 1) 1 refl (omega arith)
      ∙ most-passed (columns_of 0) k w H n y (first-none (columns_of 0) k w H n y false (sym not_own) refl)

  pair-both : (y z : ℕ → ℤ) → z ≡ odd_of 0 w H (2 * (n - 1) + 1) y → (ok more : Bool) → ok ≡ row_fits (columns_of 0) k w (2 * (n - 1) + 1) z →
      more ≡ row_fits (columns_of 0) k w (2 * (n - 1) + 2) z → outcome (both ok more) z ≡ pair_made (columns_of 0) k w H (n - 1) y
  pair-both y z ez true more eo em = pair-made (columns_of 0) k w H (n - 1) y z ez true more eo refl em
  pair-both y z ez false more eo em = pair-failed (columns_of 0) k w H (n - 1) y z ez false eo refl

  -- ---- the answer of the call
  answer-is : (fit t : Bool) (r : ℕ) → fit ≡ true → r ≡ pick fit (pick t 0 14) 5 → eqb r 0 ≡ t
  answer-is true true r f e = rw e refl
  answer-is true false r f e = rw e refl
  answer-is false t r f e = absurd (false≢true f)

  pub pair-call : (N a b r : ℕ) (low high : ℤ) (x z : ℕ → ℤ) → 4 * w ≤ N → a ≡ row_after H 1 (2 * n) → b ≡ row_before H 1 (2 * n - 1) →
      low ≡ lowest_by (filter_of 0) k → high ≡ pos (range (filter_of 0) k) →
      r ≡ pick (pair_fits N w w ((2 * n - 1) % 4) (2 * n % 4) (a % 4) (b % 4)) (pick (pair_within low high w w ((2 * n - 1) % 4) (2 * n % 4) z) 0 14) 5 →
      z ≡ pick (pair_fits N w w ((2 * n - 1) % 4) (2 * n % 4) (a % 4) (b % 4)) (pair_unlifted w w ((2 * n - 1) % 4) (2 * n % 4) (a % 4) (b % 4) x) x →
      (outcome (eqb r 0) z ≡ most_made (columns_of 0) k w H n (even_done (columns_of 0) k w H n x)) × Kept (4 * w) x z
  unfolding filter_of
  pair-call N a b r low high x z room ea eb el eh er ez =
      let y = even_done (columns_of 0) k w H n x in
      let fit = pair-room N a b room in
      let is : z ≡ odd_of 0 w H (2 * (n - 1) + 1) y = rw fit at ez ∙ pair_is a b x ea eb in
      let ok = answer-is _ _ r fit er ∙ pair-fitting low high z el eh in (
        ap (λ (t : Bool). outcome t z) ok ∙ pair-both y z is _ _ refl refl ∙ most-is y,
        kept-is _ _ _ _ (kept-both _ _ _ _ (done-kept (columns_of 0) (columns-laws 0) k w H n x) (odd-kept (columns_of 0) (columns-laws 0) k w H (2 *
            (n - 1) + 1) y)) is,
      )
