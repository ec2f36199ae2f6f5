-- The columns of a window lifted with its rows in their own order: a turn finishes low row 2n and high row 2n + 1, and the low row after them if it is the
-- last.
-- Rows below k are done, the others as they were (RowSwept). Assumes nothing.
use mathlib.Core.Path.{◌≡◌, refl, sym, ap, ◌∙◌}
use mathlib.Core.Logic.{◌≢◌}
use Prim.Native.Nat.{ℕ, ◌+◌, ◌-◌, ◌*◌, ◌/◌, ◌≤◌, ◌<◌}
use native.Mathlib.Decide.{dec_lt, ℕ_discrete}
use native.Mathlib.Omega.{arith}
use lib.IntN.{ℤ}
use lib.Dec.{eqb}
use borrow.Author.Tests.{lt-ltb, le-ltb, eq-eqb, ne_eqb}
use Rattle.numbers.specs.Signal.{pick}
use Rattle.numbers.specs.Word.{wrap32}
use Rattle.lifting.specs.Line.{lo, hi, predicted, updated}
use Rattle.lifting.specs.Grid.{side, place, joined, line_forward}
use Rattle.lifting.specs.Rows.{row_changed, rows_changed}
use Rattle.lifting.proofs.GridLaws.{joined-place, low-one}
use Rattle.lifting.proofs.RowLaws.{rows-fit, changed, row-at, row-past, row_other}
use Rattle.wavelet.specs.Bands.{Grid}
use Rattle.wavelet.specs.Plane.{cells, flat}
use Rattle.map_levels.specs.Passes.{Rows}
use Rattle.map_levels.proofs.GridSweep.{RowSwept, start, finish, store-row, row_room, within_in, within-past, within-wide}
use Rattle.strokes.specs.Local.{columns_done, row_after, row_before, pair_done, turn_done}
use Rattle.strokes.proofs.LineAtZero.{high-inner, high_end, low-inner, low_end}

-- the rows that are done after n turns
abbrev pub rows_done : ℕ → ℕ → ℕ
rows_done h n = pick (eqb (2 * n + 1) h) (2 * n + 1) (2 * n)

by_three : (f : ℤ → ℤ → ℤ → ℤ) {x x' a a' b b' : ℤ} → x ≡ x' → a ≡ a' → b ≡ b' → f x a b ≡ f x' a' b'
by_three f p q r = λ i. f (p i) (q i) (r i)

-- ---- what is done, at a cell
module _ (w h : ℕ) (X : Grid) where
  abbrev Y : Grid
  Y = columns_done w h X

  abbrev value : ℕ → ℕ → ℤ
  value c r = joined (side 0 h) (line_forward wrap32 (side 0 h) (λ i. X i c)) r

  done-in : (r c : ℕ) → r < h → c < w → Y r c ≡ value c r
  unfolding columns_done
  done-in r c p q = simp (within_in w h r c p q)

  pub done-past : (r c : ℕ) → h ≤ r → Y r c ≡ X r c
  unfolding columns_done
  done-past r c p = simp (within-past w h r c p)

  done-wide : (r c : ℕ) → w ≤ c → Y r c ≡ X r c
  unfolding columns_done
  done-wide r c q = simp (within-wide w h r c q)

  pub high-done : (n c : ℕ) → 2 * n + 1 < h → c < w → Y (2 * n + 1) c ≡ line_forward wrap32 (side 0 h) (λ i. X i c) hi n
  unfolding place
  high-done n c p q =
      let e : 2 * n + 1 ≡ place (side 0 h) hi n = omega arith in
      done-in (2 * n + 1) c p q ∙ ap (value c) e ∙ joined-place (side 0 h) _ hi n

  pub low-done : (n c : ℕ) → 2 * n < h → c < w → Y (2 * n) c ≡ line_forward wrap32 (side 0 h) (λ i. X i c) lo n
  unfolding place
  low-done n c p q =
      let e : 2 * n ≡ place (side 0 h) lo n = omega arith in
      done-in (2 * n) c p q ∙ ap (value c) e ∙ joined-place (side 0 h) _ lo n

  -- one row or none: nothing is to be done
  pub done-one : (r c : ℕ) → h ≤ 1 → Y r c ≡ X r c
  unfolding place
  done-one r c g =
      elim (dec_lt r h) [
        | yes p ↦
            elim (dec_lt c w) [
              | yes q ↦
                  let z : r ≡ 2 * 0 = omega arith in
                  ap (λ (i : ℕ). Y i c) z ∙ low-done 0 c (omega arith) q ∙ low-one (side 0 h) g wrap32 (λ i. X i c) 0 ∙ ap (λ (i : ℕ). X i c) (omega arith)
              | no q ↦ done-wide r c (omega arith)
            ]
        | no p ↦ done-past r c (omega arith)
      ]

-- ---- the rows beside
after_is : (h n : ℕ) → 2 * n + 1 < h → (row_after h n < h) × (2 * n ≤ row_after h n)
after_is h n b =
    elim (dec_lt (2 * n + 2) h) [
      | yes p ↦ simp (lt-ltb (2 * n + 2) h p) (omega arith)
      | no p ↦ simp (le-ltb (2 * n + 2) h (omega arith)) (omega arith)
    ]

before-is : (n : ℕ) → row_before n ≡ 2 * (n - 1) + 1
before-is n = elim (ℕ_discrete n 0) [ yes e ↦ simp (eq-eqb n 0 e) (omega arith) | no d ↦ simp (ne_eqb n 0 d) (omega arith) ]

-- ---- one turn
module _ (m s w h : ℕ) (R : Rows m s w h) (X : Grid) (n : ℕ) (b : 2 * n + 1 < h) where
  high_value : (c : ℕ) → c < w → predicted wrap32 (X (2 * n + 1) c) (X (2 * n) c) (X (row_after h n) c) ≡ Y w h X (2 * n + 1) c
  high_value c q =
      elim (dec_lt (2 * n + 2) h) [
        | yes p ↦ simp (lt-ltb (2 * n + 2) h p) (sym (high-done w h X n c b q ∙ high-inner wrap32 h (λ i. X i c) n p))
        | no p ↦ simp (le-ltb (2 * n + 2) h (omega arith)) (sym (high-done w h X n c b q ∙ high_end wrap32 h (λ i. X i c) n (omega arith)))
      ]

  low_value : (c : ℕ) → c < w → updated wrap32 (X (2 * n) c) (Y w h X (2 * (n - 1) + 1) c) (Y w h X (2 * n + 1) c) ≡ Y w h X (2 * n) c
  low_value c q =
      by_three (updated wrap32) refl (high-done w h X (n - 1) c (omega arith) q) (high-done w h X n c b q)
      ∙ sym (low-done w h X n c (omega arith) q ∙ low-inner wrap32 h (λ i. X i c) n b)

  module _ (x : ℕ → ℤ) (sw : RowSwept s (Y w h X) X (2 * n) x) where
    abbrev x₁ : ℕ → ℤ
    x₁ = row_changed (predicted wrap32) s w (2 * n + 1) (2 * n) (row_after h n) x

    abbrev x₂ : ℕ → ℤ
    x₂ = row_changed (updated wrap32) s w (2 * n) (row_before n) (2 * n + 1) x₁

    pair_is : pair_done m s w h n x ≡ x₂
    pair_is =
        let ws = R.wide in
        let a = after_is h n b in
        let e = before-is n in
        let room : (r : ℕ) → r < h → r * s + w ≤ m = λ r. row_room m s w h r R in
        changed (updated wrap32) s w (2 * n) (row_before n) (2 * n + 1) _ m
        (rows-fit m s w (2 * n) (row_before n) (2 * n + 1) ws (room (2 * n) (omega arith)) (room (row_before n) (omega arith)) (room (2 * n + 1) b))
        ∙ ap (row_changed (updated wrap32) s w (2 * n) (row_before n) (2 * n + 1))
        (changed (predicted wrap32) s w (2 * n + 1) (2 * n) (row_after h n) x m
        (rows-fit m s w (2 * n + 1) (2 * n) (row_after h n) ws (room (2 * n + 1) b) (room (2 * n) (omega arith)) (room (row_after h n) a.0)))

    first-other : (r c : ℕ) → c < s → r ≢ 2 * n + 1 → x₁ (r * s + c) ≡ x (r * s + c)
    first-other r c cs d = row_other (predicted wrap32) s w (2 * n + 1) (2 * n) (row_after h n) x r c d R.wide cs

    second-other : (r c : ℕ) → c < s → r ≢ 2 * n → x₂ (r * s + c) ≡ x₁ (r * s + c)
    second-other r c cs d = row_other (updated wrap32) s w (2 * n) (row_before n) (2 * n + 1) x₁ r c d R.wide cs

    -- the high row
    high-row : (c : ℕ) → c < s → x₁ ((2 * n + 1) * s + c) ≡ Y w h X (2 * n + 1) c
    high-row c cs =
        let a = after_is h n b in
        elim (dec_lt c w) [
          | yes q ↦
              row-at (predicted wrap32) s w (2 * n + 1) (2 * n) (row_after h n) x c q
              ∙ by_three (predicted wrap32) (sw.rest (2 * n + 1) c cs (omega arith)) (sw.rest (2 * n) c cs (omega arith)) (sw.rest (row_after h n) c cs
              a.1)
              ∙ high_value c q
          | no q ↦
              row-past (predicted wrap32) s w (2 * n + 1) (2 * n) (row_after h n) x _ (omega arith) ∙ sw.rest (2 * n + 1) c cs (omega arith)
              ∙ sym (done-wide w h X (2 * n + 1) c (omega arith))
        ]

    -- the high row before
    before-row : (c : ℕ) → c < s → x₁ (row_before n * s + c) ≡ Y w h X (2 * (n - 1) + 1) c
    before-row c cs =
        ap (λ (r : ℕ). x₁ (r * s + c)) (before-is n)
        ∙ elim (ℕ_discrete n 0) [
          | yes z ↦ let k : 2 * (n - 1) + 1 ≡ 2 * n + 1 = omega arith in rw k (high-row c cs)
          | no d ↦ first-other (2 * (n - 1) + 1) c cs (omega arith) ∙ sw.done (2 * (n - 1) + 1) c cs (omega arith)
        ]

    low-row : (c : ℕ) → c < s → x₂ (2 * n * s + c) ≡ Y w h X (2 * n) c
    low-row c cs =
        elim (dec_lt c w) [
          | yes q ↦
              row-at (updated wrap32) s w (2 * n) (row_before n) (2 * n + 1) x₁ c q
              ∙ by_three (updated wrap32) (first-other (2 * n) c cs (omega arith) ∙ sw.rest (2 * n) c cs (omega arith)) (before-row c cs) (high-row c cs)
              ∙ low_value c q
          | no q ↦
              row-past (updated wrap32) s w (2 * n) (row_before n) (2 * n + 1) x₁ _ (omega arith) ∙ first-other (2 * n) c cs (omega arith)
              ∙ sw.rest (2 * n) c cs (omega arith) ∙ sym (done-wide w h X (2 * n) c (omega arith))
        ]

    pair-swept : RowSwept s (Y w h X) X (2 * n + 2) x₂
    pair-swept =
        record {
          done = λ r c cs rk.
              elim (ℕ_discrete r (2 * n)) [
                | yes e ↦ rw e (low-row c cs)
                | no d ↦
                    second-other r c cs d
                    ∙ elim (ℕ_discrete r (2 * n + 1)) [
                      | yes e ↦ rw e (high-row c cs)
                      | no d' ↦ first-other r c cs d' ∙ sw.done r c cs (omega arith)
                    ]
              ];
          rest = λ r c cs kr. second-other r c cs (omega arith) ∙ first-other r c cs (omega arith) ∙ sw.rest r c cs (omega arith);
        }

  -- the last low row
  module _ (y : ℕ → ℤ) (sw : RowSwept s (Y w h X) X (2 * n + 2) y) (z : 2 * n + 3 ≡ h) where
    abbrev y₁ : ℕ → ℤ
    y₁ = row_changed (updated wrap32) s w (2 * (n + 1)) (2 * (n + 1) - 1) (2 * (n + 1) - 1) y

    last-value : (c : ℕ) → c < w → updated wrap32 (X (2 * (n + 1)) c) (Y w h X (2 * n + 1) c) (Y w h X (2 * n + 1) c) ≡ Y w h X (2 * (n + 1)) c
    last-value c q =
        let k : n + 1 - 1 ≡ n = omega arith in
        let d = high-done w h X n c b q in
        by_three (updated wrap32) refl d d
        ∙ sym (low-done w h X (n + 1) c (omega arith) q ∙ low_end wrap32 h (λ i. X i c) (n + 1) (omega arith) (omega arith)
        ∙ ap (λ (i : ℕ). updated wrap32 (X (2 * (n + 1)) c) (line_forward wrap32 (side 0 h) (λ j. X j c) hi i) (line_forward wrap32 (side 0 h)
        (λ j. X j c) hi i)) k)

    last_row : (c : ℕ) → c < s → y₁ (2 * (n + 1) * s + c) ≡ Y w h X (2 * (n + 1)) c
    last_row c cs =
        let k : 2 * (n + 1) - 1 ≡ 2 * n + 1 = omega arith in
        let d : y ((2 * (n + 1) - 1) * s + c) ≡ Y w h X (2 * n + 1) c = ap (λ (i : ℕ). y (i * s + c)) k ∙ sw.done (2 * n + 1) c cs (omega arith) in
        elim (dec_lt c w) [
          | yes q ↦
              row-at (updated wrap32) s w (2 * (n + 1)) (2 * (n + 1) - 1) (2 * (n + 1) - 1) y c q
              ∙ by_three (updated wrap32) (sw.rest (2 * (n + 1)) c cs (omega arith)) d d ∙ last-value c q
          | no q ↦
              row-past (updated wrap32) s w (2 * (n + 1)) (2 * (n + 1) - 1) (2 * (n + 1) - 1) y _ (omega arith) ∙ sw.rest (2 * (n + 1)) c cs (omega arith)
              ∙ sym (done-wide w h X (2 * (n + 1)) c (omega arith))
        ]

    last-swept : RowSwept s (Y w h X) X (2 * (n + 1) + 1) y₁
    last-swept =
        let k : 2 * n + 2 ≡ 2 * (n + 1) = omega arith in
        store-row y₁ (rw k at sw)
        (λ r c cs d. row_other (updated wrap32) s w (2 * (n + 1)) (2 * (n + 1) - 1) (2 * (n + 1) - 1) y r c d R.wide cs) last_row

    last-is : rows_changed (updated wrap32) m s w (2 * (n + 1)) (2 * (n + 1) - 1) (2 * (n + 1) - 1) y ≡ y₁
    last-is =
        let one = row_room m s w h (2 * (n + 1)) R (omega arith) in
        let two = row_room m s w h (2 * (n + 1) - 1) R (omega arith) in
        changed (updated wrap32) s w (2 * (n + 1)) (2 * (n + 1) - 1) (2 * (n + 1) - 1) y m
        (rows-fit m s w (2 * (n + 1)) (2 * (n + 1) - 1) (2 * (n + 1) - 1) R.wide one two two)

  pub turn : (x x' : ℕ → ℤ) → x' ≡ turn_done m s w h n x → RowSwept s (Y w h X) X (2 * n) x → RowSwept s (Y w h X) X (rows_done h (n + 1)) x'
  turn x x' e sw =
      let p = pair_is x sw in
      let q = pair-swept x sw in
      elim (ℕ_discrete (2 * (n + 1) + 1) h) [
        | yes z ↦
            let f : x' ≡ rows_changed (updated wrap32) m s w (2 * (n + 1)) (2 * (n + 1) - 1) (2 * (n + 1) - 1) (pair_done m s w h n x) =
            simp (eq-eqb (2 * (n + 1) + 1) h z) at e in
            let g : x' ≡ y₁ (x₂ x sw) q (omega arith) =
            f ∙ ap (rows_changed (updated wrap32) m s w (2 * (n + 1)) (2 * (n + 1) - 1) (2 * (n + 1) - 1)) p ∙ last-is (x₂ x sw) q (omega arith) in
            simp (eq-eqb (2 * (n + 1) + 1) h z) (rw g (last-swept (x₂ x sw) q (omega arith)))
        | no d ↦
            let f : x' ≡ pair_done m s w h n x = simp (ne_eqb (2 * (n + 1) + 1) h d) at e in
            let k : rows_done h (n + 1) ≡ 2 * n + 2 = simp (ne_eqb (2 * (n + 1) + 1) h d) (omega arith) in
            rw (k, f ∙ p) q
      ]

-- before the end the rows done are even in number, and at the end they are all
pub rows_before : (h n : ℕ) → 2 * n + 1 < h → rows_done h n ≡ 2 * n
rows_before h n b = simp (ne_eqb (2 * n + 1) h (omega arith))

pub rows-after : (h n : ℕ) → h / 2 ≤ n → h ≤ rows_done h n
rows-after h n b = elim (ℕ_discrete (2 * n + 1) h) [ yes e ↦ simp (eq-eqb (2 * n + 1) h e) (omega arith) | no d ↦ simp (ne_eqb (2 * n + 1) h d) (omega arith) ]

-- one row is as it was
pub one-row : (s w h : ℕ) (x : ℕ → ℤ) → 0 < s → h < 2 → x ≡ flat s (columns_done w h (cells s x))
one-row s w h x apart g = finish apart (start s (columns_done w h (cells s x)) 0 x (λ r c lt. absurd (omega arith))) (λ r c le. done-one w h
    (cells s x) r c (omega arith))
