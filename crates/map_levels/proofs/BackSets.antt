-- A level back in one sweep, from high row to high row: what the lines hold is what the level's columns need, and each row is put where nothing is read any
-- more. Assumes nothing.
use mathlib.Core.Path.{◌≡◌, refl, sym, ap, ◌∙◌, fun_ext, subst}
use mathlib.Core.Bool.{Bool, true, false, ◌&&◌}
use Prim.Native.Nat.{ℕ, ◌+◌, ◌-◌, ◌*◌, ◌/◌, ◌%◌, ◌^◌, ◌≤◌, ◌<◌}
use native.Mathlib.Decide.{dec_lt, ℕ_discrete}
use native.Mathlib.Nat.{mul-le-mul_right}
use native.Mathlib.Omega.{arith}
use borrow.Author.Tests.{lt-ltb, le-ltb, eqb-true}
use lib.Dec.{eqb}
use lib.IntN.{ℤ, nat_abs}
use lib.Signed.{shr_z}
use Rattle.numbers.specs.Signal.{both, windowed}
use Rattle.numbers.specs.Word.{wrap32}
use Rattle.numbers.proofs.Integers.{each, lin, dif-nat_abs}
use Rattle.numbers.proofs.Parts.{window-in, window-past}
use Rattle.lifting.specs.Line.{lo, unupdated, unpredicted}
use Rattle.lifting.specs.Grid.{Side, count, joined, single_high}
use Rattle.lifting.specs.GridHalves.{halves_of, highs_laid, unlifted_in_place}
use Rattle.lifting.specs.FiveThree.{five_three_filter}
use Rattle.lifting.proofs.SingleLaws.{unlifted-none}
use Rattle.wavelet.specs.Bands.{Grid}
use Rattle.wavelet.specs.Maps.{every, value_fits}
use Rattle.wavelet.proofs.MapTheorems.{every-same}
use Rattle.map_levels.specs.Rowwise.{cut}
use Rattle.map_levels.specs.Passes.{before, after, is_low, plane_row, low_rows_changed, rows_mapped, KeptFrom}
use Rattle.map_levels.specs.LevelPasses.{level_unlifted, columns_unlifted_in_place}
use Rattle.map_levels.specs.SweepBack.{short_unupdated, short_unpredicted, short_unlifted, low_place, SmallBands, band_rows, grid_in, RowPut}
use Rattle.map_levels.specs.BackLines.{line_long, next_line, high_line, even_line, odd_line, even_of, odd_of}
use Rattle.map_levels.specs.BackLines.{PairBack, EvenBack, OddBack, LineMade, RowsDone}
use Rattle.map_levels.proofs.CellLaws.{placed, placed-in, joined_at, low-in, low-high, high-in, high-low}
use Rattle.map_levels.proofs.ColumnPass.{before-is, after_is}
use Rattle.map_levels.proofs.GridSweep.{mapped_in}
use Rattle.map_levels.proofs.OneRow.{by-test}
use Rattle.map_levels.proofs.RowwiseLaws.{and_both, gather-turn}
use Rattle.map_levels.proofs.TestLaws.{false-true}
use Rattle.map_levels.proofs.ShortBack.{short-unlifted, unlifted-small, short-unupdated, short-unpredicted, unupdated-small}
use Rattle.map_levels.proofs.SweepBackGrid.{cut_small}
use Rattle.map_levels.proofs.BackRowLaws.{low-row-past, low-row-is, high-row-is, one-unlifted}

half-small : (M : ℕ) (a : ℤ) → nat_abs a ≤ M → nat_abs (shr_z a 2) ≤ M
half-small M = each _ λ p q. simp (lin, dif-nat_abs) (omega arith)

-- a small row lifted back, of any width
unlifted-most : (S : Side) (y : ℕ → ℤ) → ((j : ℕ) → j < S.length → nat_abs (y j) ≤ 2 ^ 26) → (j : ℕ) → j < S.length → nat_abs (unlifted_in_place S y j) ≤ 2 ^ 28
unlifted-most S y small j b =
    elim (dec_lt 1 S.length) [
      | yes more ↦ unlifted-small S y more small j b
      | no d ↦
          let z : j ≡ 0 = omega arith in
          by-test (single_high S)
          (λ e. rw (z, one-unlifted S e y) (omega (arith, half-small (2 ^ 26) (y 0) (small 0 (omega arith)))))
          (λ e. rw (unlifted-none S (omega arith) e y) (omega (arith, small j b)))
    ]

low_or_high : (H : Side) (r : ℕ) {P : Type 0} → (is_low H r ≡ true → P) → (is_low H r ≡ false → P) → P
low_or_high H r f g = by-test (is_low H r) f g

low-coordinate : (H : Side) (r : ℕ) → is_low H r ≡ true → (H.start + r) % 2 ≡ 0
unfolding is_low
low-coordinate H r e = eqb-true _ _ e

-- what stands in two areas
grid-same : (k : ℕ) (g x g' x' : ℕ → ℤ) (j : ℕ) → (g' j ≡ g j) × (x' j ≡ x j) → grid_in k g' x' j ≡ grid_in k g x j
grid-same k g x g' x' j e = by-test (eqb k 0) (λ t. rw t e.0) (λ t. rw t e.1)

module _ (A : ℕ) (W H : Side) (z x₀ : ℕ → ℤ) where
  abbrev w : ℕ
  w = W.length

  abbrev h : ℕ
  h = H.length

  -- the rows in halves, lifted back along their rows, with the low ones done, and all done
  abbrev Y : Grid
  Y = band_rows A W H z x₀

  abbrev R : Grid
  R = rows_mapped (unlifted_in_place W) w h Y

  abbrev E : Grid
  E = low_rows_changed (unupdated wrap32) w H R

  abbrev X : Grid
  X = level_unlifted W H Y

  -- a row that is read from r on, where the work area is as it was from row r on
  rows_same : (x : ℕ → ℤ) (r : ℕ) → r < h → KeptFrom (r * w) x₀ x → cut w (band_rows A W H z x r) ≡ cut w (Y r)
  rows_same x r rh kept =
      low_or_high H r
      (λ e.
      let c = low-row-past W H r rh (low-coordinate H r e) in
      sym (low-row-is A W H z x r rh e)
      ∙ ap (λ (u : ℕ → ℤ). highs_laid W (windowed (plane_row H r * A) w z) u) (fun_ext λ j.
      elim (dec_lt j (count lo W)) [
        | yes b ↦
            window-in _ (count lo W) x j b ∙ kept.kept _ (omega arith) ∙ sym (window-in (low_place W H + r / 2 * count lo W) (count lo W) x₀ j b)
        | no b ↦ window-past _ (count lo W) x j (omega arith) ∙ sym (window-past _ (count lo W) x₀ j (omega arith))
      ])
      ∙ low-row-is A W H z x₀ r rh e)
      (λ e. sym (high-row-is A W H z x r rh e) ∙ high-row-is A W H z x₀ r rh e)

  module _ (small : SmallBands A W H z x₀) where
    pub row-fetched : (x y₀ y : ℕ → ℤ) (b r : ℕ) → r < h → KeptFrom (r * w) x₀ x →
        LineMade b w (short_unlifted W (cut w (band_rows A W H z x r))) y₀ y → (j : ℕ) → j < w → y (b + j) ≡ R r j
    row-fetched x y₀ y b r rh kept m j jb =
        m.made j jb
        ∙ ap (λ (u : ℕ → ℤ). short_unlifted W u j) (rows_same x r rh kept)
        ∙ short-unlifted W (cut w (Y r)) (λ i ib. cut_small A W H z x₀ small r i rh ib) j jb
        ∙ sym (mapped_in (unlifted_in_place W) w h Y r j rh jb)

    row-most : (r j : ℕ) → r < h → j < w → nat_abs (R r j) ≤ 2 ^ 28
    row-most r j rh jb =
        rw (mapped_in (unlifted_in_place W) w h Y r j rh jb) (unlifted-most W (cut w (Y r)) (λ i ib. cut_small A W H z x₀ small r i rh ib) j jb)

    module _ (more : 1 < h) (j : ℕ) (jb : j < w) where
      -- a low row done
      even_is : (l : ℕ) → l < h → (H.start + l) % 2 ≡ 0 → short_unupdated (R l j) (R (before l) j) (R (after h l) j) ≡ E l j
      even_is l lh e =
          let p = (before-is H.start h l more lh).0 in
          let q = (after_is H.start h l more lh).0 in
          short-unupdated _ _ _ (omega (arith, row-most (before l) j p jb)) (omega (arith, row-most (after h l) j q jb))
          ∙ sym (low-in (unupdated wrap32) w H R j jb l lh e)

      even-most : (l : ℕ) → l < h → (H.start + l) % 2 ≡ 0 → nat_abs (E l j) ≤ 2 ^ 29
      even-most l lh e =
          let p = (before-is H.start h l more lh).0 in
          let q = (after_is H.start h l more lh).0 in
          rw (low-in (unupdated wrap32) w H R j jb l lh e)
          (omega (
            arith,
            unupdated-small (2 ^ 28) (R l j) (R (before l) j) (R (after h l) j) (omega arith) (row-most l j lh jb) (row-most (before l) j p jb)
                (row-most (after h l) j q jb),
          ))

      pub even-done : (l : ℕ) → l < h → (H.start + l) % 2 ≡ 0 → E l j ≡ X l j
      unfolding level_unlifted columns_unlifted_in_place
      even-done l lh e = simp (lt-ltb 1 h more) (sym (high-low (unpredicted wrap32) w H E j jb l lh e))

      -- a high row done
      pub odd-done : (r : ℕ) → r < h → (H.start + r) % 2 ≡ 1 → short_unpredicted (R r j) (E (before r) j) (E (after h r) j) ≡ X r j
      unfolding level_unlifted columns_unlifted_in_place
      odd-done r rh e =
          let p = before-is H.start h r more rh in
          let q = after_is H.start h r more rh in
          short-unpredicted _ _ _ (even-most (before r) p.0 (omega (arith, p.1))) (even-most (after h r) q.0 (omega (arith, q.1)))
          ∙ simp (lt-ltb 1 h more)
          (ap (λ (v : ℤ). unpredicted wrap32 v (E (before r) j) (E (after h r) j)) (sym (low-high (unupdated wrap32) w H R j jb r rh e))
          ∙ sym (high-in (unpredicted wrap32) w H E j jb r rh e))

-- room for row r of a grid
pub put-room : (w h n r : ℕ) → r < h → w * h ≤ n → r * w + w ≤ n
put-room w h n r b room = let m : (r + 1) * w ≤ h * w = mul-le-mul_right w (omega arith) in omega arith

-- the row after a low row is high
pub next-high : (y h l q : ℕ) → 1 < h → l < h → (y + l) % 2 ≡ 0 → q ≡ after h l → (y + q) % 2 ≡ 1
next-high y h l q more b e eq = rw eq (omega (arith, (after_is y h l more b).1))

-- ---- rows that are put
pub record RowsPut (ok : Bool) (k : ℕ) (W : Side) (X : Grid) (g₀ x₀ : ℕ → ℤ) (r : ℕ) (g x : ℕ → ℤ) : Type 0 where
  pub answer : ok ≡ every r (λ i. every W.length (λ j. value_fits five_three_filter k (X i j)))
  pub made : ok ≡ true → (i c : ℕ) → i < r → c < W.length → grid_in k g x (i * W.length + c) ≡ joined W (halves_of W (X i)) c
  pub kept : KeptFrom (r * W.length) x₀ x
  pub kept_heights : KeptFrom (r * W.length) g₀ g

and-true : (a b : Bool) → a && b ≡ true → (a ≡ true) × (b ≡ true)
and-true true b e = (refl, e)
and-true false b e = absurd (false-true e)

module _ (k : ℕ) (W : Side) (X : Grid) (g₀ x₀ : ℕ → ℤ) where
  abbrev n : ℕ
  n = W.length

  pub put-none : RowsPut true k W X g₀ x₀ 0 g₀ x₀
  unfolding every
  put-none =
      record {
        answer = refl;
        made = λ t i c b. absurd (omega arith);
        kept = record { kept = λ j b. refl };
        kept_heights = record { kept = λ j b. refl };
      }

  pub put-more : (r : ℕ) (ok t : Bool) (v g x g' x' : ℕ → ℤ) → RowsPut ok k W X g₀ x₀ r g x → ((j : ℕ) → j < n → v j ≡ X r j) →
      RowPut five_three_filter t k r W v g g' x x' → RowsPut (ok && t) k W X g₀ x₀ (r + 1) g' x'
  put-more r ok t v g x g' x' D same P =
      let next : (r + 1) * n ≡ r * n + n = omega arith in
      record {
        answer = gather-turn ok t r _ D.answer (P.answer ∙ every-same n _ _ (λ j b. ap (value_fits five_three_filter k) (same j b)));
        made = λ fits i c ib cb.
            let o = and-true ok t fits in
            elim (ℕ_discrete i r) [
              | yes e ↦
                  rw e
                  (P.made o.1 c cb ∙ joined_at W v c ∙ same (placed W c) (placed-in W c cb) ∙ sym (joined_at W (X r) c))
              | no d ↦
                  let below : (i + 1) * n ≤ r * n = mul-le-mul_right n (omega (arith, d)) in
                  grid-same k g x g' x' (i * n + c) (P.before (i * n + c) (omega arith)) ∙ D.made o.0 i c (omega (arith, d)) cb
            ];
        kept = record { kept = λ j b. (P.past j (omega arith)).1 ∙ D.kept.kept j (omega arith) };
        kept_heights = record { kept = λ j b. (P.past j (omega arith)).0 ∙ D.kept_heights.kept j (omega arith) };
      }

-- ---- from high row to high row
module _ (k A : ℕ) (W H : Side) (z g₀ x₀ : ℕ → ℤ) (more : 1 < H.length) (small : SmallBands A W H z x₀) where
  abbrev rows : Grid
  rows = R A W H z x₀

  abbrev evens : Grid
  evens = E A W H z x₀

  abbrev all : Grid
  all = X A W H z x₀

  abbrev Put : Bool → ℕ → (ℕ → ℤ) → (ℕ → ℤ) → Type 0
  Put ok r g x = RowsPut ok k W all g₀ x₀ r g x

  of-done : {ok : Bool} {r : ℕ} {g x y : ℕ → ℤ} → RowsDone ok k A W H z g₀ x₀ r g x y → Put ok r g x
  of-done D = record { answer = D.answer; made = D.made; kept = D.kept; kept_heights = D.kept_heights }

  to-done : {ok : Bool} {r : ℕ} {g x y : ℕ → ℤ} → Put ok r g x → (r < H.length → (j : ℕ) → j < W.length → y (high_line + j) ≡ rows r j) →
      (r < H.length → (j : ℕ) → j < W.length → y (even_line + j) ≡ evens (before r) j) → RowsDone ok k A W H z g₀ x₀ r g x y
  to-done D high even = record { high = high; even = even; answer = D.answer; made = D.made; kept = D.kept; kept_heights = D.kept_heights }

  -- the answers of the two rows of a pair
  pair-answers : (a b c : Bool) → (a && b) && c ≡ both a (c && b)
  pair-answers true true true = refl
  pair-answers true true false = refl
  pair-answers true false true = refl
  pair-answers true false false = refl
  pair-answers false b c = refl

  weaker : {x y : ℕ → ℤ} (r q : ℕ) → r ≤ q → KeptFrom (r * W.length) x y → KeptFrom (q * W.length) x y
  weaker r q b K =
      let m : r * W.length ≤ q * W.length = mul-le-mul_right W.length b in
      record { kept = λ j jb. K.kept j (omega arith) }

  before-next : (r : ℕ) → before (r + 1) ≡ r
  unfolding before
  before-next r = simp (lt-ltb 0 (r + 1) (omega arith)) (omega arith)

  after_next : (r : ℕ) → r + 1 < H.length → after H.length r ≡ r + 1
  unfolding after
  after_next r b = simp (lt-ltb (r + 1) H.length b)

  after_last : (r : ℕ) → 0 < r → H.length ≤ r + 1 → after H.length r ≡ before r
  unfolding after before
  after_last r s b = simp (le-ltb (r + 1) H.length b, lt-ltb 0 r s)

  -- the row after a low row is no less than the high row before it
  after-least : (r : ℕ) → r ≤ after H.length (r + 1)
  unfolding after
  after-least r =
      elim (dec_lt (r + 1 + 1) H.length) [
        | yes b ↦ simp (lt-ltb (r + 1 + 1) H.length b) (omega arith)
        | no b ↦ simp (le-ltb (r + 1 + 1) H.length (omega arith)) (omega arith)
      ]

  module _ (wide : W.length ≤ line_long) where
    -- low row r + 1 and the high row after it in the lines
    module _ (r q : ℕ) (b : r + 1 < H.length) (odd : (H.start + r) % 2 ≡ 1) (eq : q ≡ after H.length (r + 1)) (ok₀ : Bool) (g x y y₁ y₂ : ℕ → ℤ)
        (D : RowsDone ok₀ k A W H z g₀ x₀ r g x y) (m₁ : LineMade 0 W.length (short_unlifted W (cut W.length (band_rows A W H z x (r + 1)))) y y₁)
        (m₂ : LineMade next_line W.length (short_unlifted W (cut W.length (band_rows A W H z x q))) y₁ y₂) where
      next-in : q < H.length
      next-in = rw eq (after_is H.start H.length (r + 1) more b).0

      next-least : r ≤ q
      next-least = rw eq (after-least r)

      low-there : (j : ℕ) → j < W.length → y₂ j ≡ rows (r + 1) j
      low-there j jb =
          let t : 0 + j ≡ j = omega arith in
          m₂.before j (omega arith) ∙ ap y₁ (sym t) ∙ row-fetched A W H z x₀ small x y y₁ 0 (r + 1) b (weaker r (r + 1) (omega arith) D.kept) m₁ j jb

      next-there : (j : ℕ) → j < W.length → y₂ (next_line + j) ≡ rows q j
      next-there j jb = row-fetched A W H z x₀ small x y₁ y₂ next_line q next-in (weaker r q next-least D.kept) m₂ j jb

      high-there : (j : ℕ) → j < W.length → y₂ (high_line + j) ≡ rows r j
      high-there j jb = m₂.after (high_line + j) (omega arith) ∙ m₁.after (high_line + j) (omega arith) ∙ D.high (omega arith) j jb

      even-there : (j : ℕ) → j < W.length → y₂ (even_line + j) ≡ evens (before r) j
      even-there j jb = m₂.after (even_line + j) (omega arith) ∙ m₁.after (even_line + j) (omega arith) ∙ D.even (omega arith) j jb

      low : (H.start + (r + 1)) % 2 ≡ 0
      low = omega arith

      even-now : (j : ℕ) → j < W.length → even_of y₂ j ≡ evens (r + 1) j
      even-now j jb =
          cc (low-there j jb, high-there j jb, next-there j jb, eq, before-next r) ∙ even_is A W H z x₀ small more j jb (r + 1) b low

      odd-now : (j : ℕ) → j < W.length → odd_of y₂ j ≡ all r j
      odd-now j jb =
          cc (high-there j jb, even-there j jb, even-now j jb, after_next r b) ∙ odd-done A W H z x₀ small more j jb r (omega arith) odd

      pub pair-done : (ok₁ ok₂ : Bool) (y₃ g₁ x₁ g₂ x₂ : ℕ → ℤ) → PairBack W.length y₂ y₃ →
          RowPut five_three_filter ok₁ k r W (λ j. y₃ (odd_line + j)) g g₁ x x₁ →
          RowPut five_three_filter ok₂ k (r + 1) W (λ j. y₃ (even_line + j)) g₁ g₂ x₁ x₂ →
          RowsDone (both ok₀ (ok₂ && ok₁)) k A W H z g₀ x₀ (r + 2) g₂ x₂ y₃
      pair-done ok₁ ok₂ y₃ g₁ x₁ g₂ x₂ C P₁ P₂ =
          let e : r + 2 ≡ r + 1 + 1 = omega arith in
          let f : before (r + 1 + 1) ≡ r + 1 = before-next (r + 1) in
          let one = put-more k W all g₀ x₀ r ok₀ ok₁ (λ j. y₃ (odd_line + j)) g x g₁ x₁ (of-done D) (λ j jb. C.odd j jb ∙ odd-now j jb) P₁ in
          let two = put-more k W all g₀ x₀ (r + 1) (ok₀ && ok₁) ok₂ (λ j. y₃ (even_line + j)) g₁ x₁ g₂ x₂ one
          (λ j jb. C.even j jb ∙ even-now j jb ∙ even-done A W H z x₀ small more j jb (r + 1) b low) P₂ in
          rw (← pair-answers ok₀ ok₁ ok₂, e)
          (to-done two
          (λ rh j jb. C.high j jb ∙ next-there j jb ∙ ap (λ (i : ℕ). rows i j) (eq ∙ after_next (r + 1) rh))
          (λ rh j jb. C.even j jb ∙ even-now j jb ∙ ap (λ (i : ℕ). evens i j) (sym f)))

    -- the last high row
    pub last-done : (r : ℕ) → r < H.length → H.length ≤ r + 1 → (H.start + r) % 2 ≡ 1 → (ok₀ ok₁ : Bool) (g x y y₁ g₁ x₁ : ℕ → ℤ) →
        RowsDone ok₀ k A W H z g₀ x₀ r g x y → OddBack W.length y y₁ → RowPut five_three_filter ok₁ k r W (λ j. y₁ (odd_line + j)) g g₁ x x₁ →
        RowsDone (both ok₀ ok₁) k A W H z g₀ x₀ H.length g₁ x₁ y₁
    last-done r rh b odd ok₀ ok₁ g x y y₁ g₁ x₁ D C P =
        let e : H.length ≡ r + 1 = omega arith in
        let f = after_last r (omega arith) b in
        let one = put-more k W all g₀ x₀ r ok₀ ok₁ (λ j. y₁ (odd_line + j)) g x g₁ x₁ (of-done D)
        (λ j jb. C.odd j jb ∙ cc (D.high rh j jb, D.even rh j jb, f) ∙ odd-done A W H z x₀ small more j jb r rh odd) P in
        let last : RowsDone (ok₀ && ok₁) k A W H z g₀ x₀ (r + 1) g₁ x₁ y₁ =
        to-done one (λ l. absurd (omega arith)) (λ l. absurd (omega arith)) in
        rw (← and_both ok₀ ok₁) (subst (λ (n : ℕ). RowsDone (ok₀ && ok₁) k A W H z g₀ x₀ n g₁ x₁ y₁) (sym e) last)

    pub none_left : (r : ℕ) → H.length ≤ r → r ≤ H.length → (ok₀ : Bool) (g x y : ℕ → ℤ) → RowsDone ok₀ k A W H z g₀ x₀ r g x y →
        RowsDone (both ok₀ true) k A W H z g₀ x₀ H.length g x y
    none_left r a b true g x y D = let e : r ≡ H.length = omega arith in rw e at D
    none_left r a b false g x y D = let e : r ≡ H.length = omega arith in rw e at D

    -- the first low row, b being 0 or 1: it and the high rows beside it in the lines
    module _ (b q : ℕ) (eb : b ≡ H.start % 2) (eq : q ≡ after H.length b) (y y₁ y₂ y₃ y₄ : ℕ → ℤ)
        (m₁ : LineMade 0 W.length (short_unlifted W (cut W.length (band_rows A W H z x₀ b))) y y₁)
        (m₂ : LineMade high_line W.length (short_unlifted W (cut W.length (band_rows A W H z x₀ (1 - b)))) y₁ y₂)
        (m₃ : LineMade next_line W.length (short_unlifted W (cut W.length (band_rows A W H z x₀ q))) y₂ y₃) (C : EvenBack W.length y₃ y₄) where
      same : (r : ℕ) → KeptFrom (r * W.length) x₀ x₀
      same r = record { kept = λ j l. refl }

      low_first : (H.start + b) % 2 ≡ 0
      low_first = omega arith

      before-first : before b ≡ 1 - b
      unfolding before
      before-first =
          elim (dec_lt 0 b) [
            | yes l ↦ simp (lt-ltb 0 b l) (omega arith)
            | no l ↦ simp (le-ltb 0 b (omega arith)) (omega arith)
          ]

      before-second : before (1 - b) ≡ b
      unfolding before
      before-second =
          elim (dec_lt 0 (1 - b)) [
            | yes l ↦ simp (lt-ltb 0 (1 - b) l) (omega arith)
            | no l ↦ simp (le-ltb 0 (1 - b) (omega arith)) (omega arith)
          ]

      high-first : (j : ℕ) → j < W.length → y₃ (high_line + j) ≡ rows (1 - b) j
      high-first j jb =
          m₃.after (high_line + j) (omega arith) ∙ row-fetched A W H z x₀ small x₀ y₁ y₂ high_line (1 - b) (omega arith) (same (1 - b)) m₂ j jb

      even-first : (j : ℕ) → j < W.length → even_of y₃ j ≡ evens b j
      even-first j jb =
          let t : 0 + j ≡ j = omega arith in
          let l : y₃ j ≡ rows b j =
          m₃.before j (omega arith)
          ∙ m₂.before j (omega arith)
          ∙ ap y₁ (sym t)
          ∙ row-fetched A W H z x₀ small x₀ y y₁ 0 b (omega arith) (same b) m₁ j jb in
          let n : y₃ (next_line + j) ≡ rows q j =
          row-fetched A W H z x₀ small x₀ y₂ y₃ next_line q (rw eq (after_is H.start H.length b more (omega arith)).0) (same q) m₃ j jb in
          cc (l, n, high-first j jb, eq, before-first) ∙ even_is A W H z x₀ small more j jb b (omega arith) low_first

      first-lines : {ok : Bool} {g x : ℕ → ℤ} → Put ok (1 - b) g x → RowsDone ok k A W H z g₀ x₀ (1 - b) g x y₄
      first-lines D =
          to-done D (λ rh j jb. C.high j jb ∙ high-first j jb)
          (λ rh j jb. C.even j jb ∙ even-first j jb ∙ ap (λ (i : ℕ). evens i j) (sym before-second))

      pub first-high : b ≡ 1 → RowsDone true k A W H z g₀ x₀ (1 - b) g₀ x₀ y₄
      first-high e = let t : 0 ≡ 1 - b = omega arith in first-lines (subst (λ (n : ℕ). Put true n g₀ x₀) t (put-none k W all g₀ x₀))

      pub first-low : b ≡ 0 → (ok : Bool) (g x : ℕ → ℤ) → RowPut five_three_filter ok k 0 W (λ j. y₄ (even_line + j)) g₀ g x₀ x →
          RowsDone ok k A W H z g₀ x₀ (1 - b) g x y₄
      first-low e ok g x P =
          let t : 0 + 1 ≡ 1 - b = omega arith in
          first-lines
          (subst (λ (n : ℕ). Put ok n g x) t
          (put-more k W all g₀ x₀ 0 true ok (λ j. y₄ (even_line + j)) g₀ x₀ g x (put-none k W all g₀ x₀)
          (λ j jb. C.even j jb ∙ even-first j jb ∙ ap (λ (i : ℕ). evens i j) e ∙ even-done A W H z x₀ small more j jb 0 (omega arith) (rw e at low_first))
          P))
