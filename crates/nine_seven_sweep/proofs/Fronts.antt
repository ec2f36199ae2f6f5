-- A sweep over the rows of two halves, one row changed after the other: which low and which high rows are done. x₀ is the area at its beginning, Y what the
-- rows
-- become, and P says where a row stands, by its half and its number there. Assumes nothing.
use mathlib.Core.Path.{◌≡◌, refl, sym, ap, ◌∙◌, fun_ext}
use mathlib.Core.Logic.{◌≢◌}
use Prim.Native.Nat.{ℕ, ◌+◌, ◌-◌, ◌*◌, ◌/◌, ◌%◌, ◌≤◌, ◌<◌}
use native.Mathlib.Nat.{mul-le-mul_right, mul-le-mul_left, div-add-mod', mod-lt}
use native.Mathlib.Decide.{dec_lt, ℕ_discrete}
use native.Mathlib.Omega.{arith}
use lib.IntN.{ℤ}
use borrow.Author.Tests.{lt-ltb, le-ltb}
use Rattle.lifting.specs.Line.{Half, lo, hi}
use Rattle.lifting.specs.Grid.{Side, count}
use Rattle.lifting.specs.Rows.{row_changed, rows_changed}
use Rattle.lifting.proofs.RowLaws.{rows-fit}
use Rattle.lifting.proofs.RowLaws as two
use Rattle.nine_seven.specs.Rows.{row_by, rows_by}
use Rattle.nine_seven.proofs.FiveRows.{five-fit}
use Rattle.nine_seven.proofs.FiveRows as five
use Rattle.nine_seven_sweep.specs.Columns.{column, columns_by}
use Rattle.nine_seven_sweep.specs.Passes.{Rows}

-- ---- rows in an area
pub row_room : (n s w h r : ℕ) → Rows n s w h → r < h → r * s + w ≤ n
row_room n s w h r g lt = let m : r * s ≤ (h - 1) * s = mul-le-mul_right s (omega arith) in omega (arith, g.room)

-- an area that kept its length
pub rows-kept : {n n' s w h : ℕ} → n' ≡ n → Rows n s w h → Rows n' s w h
rows-kept e g = rw e g

pub few : (n s w h : ℕ) → Rows n s w h → h ≤ n + 1
few n s w h g = let m : (h - 1) * 1 ≤ (h - 1) * s = mul-le-mul_left (h - 1) (omega (arith, g.some, g.wide)) in omega (arith, g.room)

-- ---- what a row call leaves: row t is v, and every other number is as it was
pub record RowSet (s w t : ℕ) (v : ℕ → ℤ) (x x' : ℕ → ℤ) : Type 0 where
  pub here : (c : ℕ) → c < w → x' (t * s + c) ≡ v c
  pub wide : (c : ℕ) → w ≤ c → x' (t * s + c) ≡ x (t * s + c)
  pub other : (q c : ℕ) → q ≢ t → c < s → x' (q * s + c) ≡ x (q * s + c)

module _ (n s w h : ℕ) (R : Rows n s w h) (x x' : ℕ → ℤ) where
  pub by_two : (f : ℤ → ℤ → ℤ → ℤ) (t a b : ℕ) → t < h → a < h → b < h → x' ≡ rows_changed f n s w t a b x →
      RowSet s w t (λ c. f (x (t * s + c)) (x (a * s + c)) (x (b * s + c))) x x'
  by_two f t a b th ah bh is =
      let room : (r : ℕ) → r < h → r * s + w ≤ n = λ r l. row_room n s w h r R l in
      let e = is ∙ two.changed f s w t a b x n (rows-fit n s w t a b R.wide (room t th) (room a ah) (room b bh)) in
      let each : (j : ℕ) → x' j ≡ row_changed f s w t a b x j = λ j. ap (λ (y : ℕ → ℤ). y j) e in
      record {
        here = λ c cw. each (t * s + c) ∙ two.row-at f s w t a b x c cw;
        wide = λ c wc. each (t * s + c) ∙ two.row-past f s w t a b x (t * s + c) (omega arith);
        other = λ q c d cs. each (q * s + c) ∙ two.row_other f s w t a b x q c d R.wide cs;
      }

  pub by-four : (f : ℤ → ℤ → ℤ → ℤ → ℤ → ℤ) (t a b d e : ℕ) → t < h → a < h → b < h → d < h → e < h → x' ≡ rows_by f n s w t a b d e x →
      RowSet s w t (λ c. f (x (t * s + c)) (x (a * s + c)) (x (b * s + c)) (x (d * s + c)) (x (e * s + c))) x x'
  by-four f t a b d e th ah bh dh eh is =
      let room : (r : ℕ) → r < h → r * s + w ≤ n = λ r l. row_room n s w h r R l in
      let i = is ∙ five.changed f s w t a b d e x n (five-fit n s w t a b d e R.wide (room t th) (room a ah) (room b bh) (room d dh) (room e eh)) in
      let each : (j : ℕ) → x' j ≡ row_by f s w t a b d e x j = λ j. ap (λ (y : ℕ → ℤ). y j) i in
      record {
        here = λ c cw. each (t * s + c) ∙ five.row-at f s w t a b d e x c cw;
        wide = λ c wc. each (t * s + c) ∙ five.row-past f s w t a b d e x (t * s + c) (omega arith);
        other = λ q c ne cs. each (q * s + c) ∙ five.row_other f s w t a b d e x q c ne R.wide cs;
      }

-- ---- rows of two halves that stand apart
pub record Apart (H : Side) (P : Half → ℕ → ℕ) : Type 0 where
  pub inside : (k : Half) (n : ℕ) → n < count k H → P k n < H.length
  pub one : (k : Half) (n m : ℕ) → n ≢ m → P k n ≢ P k m
  pub two : (n m : ℕ) → n < count lo H → m < count hi H → P lo n ≢ P hi m

-- the low rows below k and the high rows below l are done
pub record Fronts (s w : ℕ) (H : Side) (P : Half → ℕ → ℕ) (Y : Half → ℕ → ℕ → ℤ) (x₀ : ℕ → ℤ) (k l : ℕ) (x : ℕ → ℤ) : Type 0 where
  pub lows : (n c : ℕ) → c < w → n < k → n < count lo H → x (P lo n * s + c) ≡ Y lo n c
  pub highs : (n c : ℕ) → c < w → n < l → n < count hi H → x (P hi n * s + c) ≡ Y hi n c
  pub rest_lows : (n c : ℕ) → c < w → k ≤ n → n < count lo H → x (P lo n * s + c) ≡ x₀ (P lo n * s + c)
  pub rest_highs : (n c : ℕ) → c < w → l ≤ n → n < count hi H → x (P hi n * s + c) ≡ x₀ (P hi n * s + c)
  pub beside : (q c : ℕ) → c < s → w ≤ c → x (q * s + c) ≡ x₀ (q * s + c)
  pub past : (q c : ℕ) → c < s → H.length ≤ q → x (q * s + c) ≡ x₀ (q * s + c)

module _ (s w : ℕ) (H : Side) (P : Half → ℕ → ℕ) (Y : Half → ℕ → ℕ → ℤ) (x₀ : ℕ → ℤ) where
  pub begin : Fronts s w H P Y x₀ 0 0 x₀
  begin =
      record {
        lows = λ n c cw b. absurd (omega arith);
        highs = λ n c cw b. absurd (omega arith);
        rest_lows = λ n c cw b i. refl;
        rest_highs = λ n c cw b i. refl;
        beside = λ q c cs b. refl;
        past = λ q c cs b. refl;
      }

  module _ (A : Apart H P) (ws : w ≤ s) (x x' : ℕ → ℤ) (k l : ℕ) (F : Fronts s w H P Y x₀ k l x) where
    -- one row more of a half
    pub low-done : (v : ℕ → ℤ) → k < count lo H → RowSet s w (P lo k) v x x' → ((c : ℕ) → c < w → v c ≡ Y lo k c) → Fronts s w H P Y x₀ (k + 1) l x'
    low-done v kl R new =
        let other : (q c : ℕ) → q ≢ P lo k → c < w → x' (q * s + c) ≡ x (q * s + c) = λ q c d cw. R.other q c d (omega arith) in
        record {
          lows = λ n c cw b i.
              elim (ℕ_discrete n k) [
                | yes e ↦ rw e (R.here c cw ∙ new c cw)
                | no d ↦ other (P lo n) c (A.one lo n k d) cw ∙ F.lows n c cw (omega arith) i
              ];
          highs = λ n c cw b i. other (P hi n) c (λ e. A.two k n kl i (sym e)) cw ∙ F.highs n c cw b i;
          rest_lows = λ n c cw b i. other (P lo n) c (A.one lo n k (omega arith)) cw ∙ F.rest_lows n c cw (omega arith) i;
          rest_highs = λ n c cw b i. other (P hi n) c (λ e. A.two k n kl i (sym e)) cw ∙ F.rest_highs n c cw b i;
          beside = λ q c cs b.
              elim (ℕ_discrete q (P lo k)) [
                | yes e ↦ (rw e (R.wide c b)) ∙ F.beside q c cs b
                | no d ↦ R.other q c d cs ∙ F.beside q c cs b
              ];
          past = λ q c cs b. let i = A.inside lo k kl in R.other q c (omega arith) cs ∙ F.past q c cs b;
        }

    pub high-done : (v : ℕ → ℤ) → l < count hi H → RowSet s w (P hi l) v x x' → ((c : ℕ) → c < w → v c ≡ Y hi l c) → Fronts s w H P Y x₀ k (l + 1) x'
    high-done v lh R new =
        let other : (q c : ℕ) → q ≢ P hi l → c < w → x' (q * s + c) ≡ x (q * s + c) = λ q c d cw. R.other q c d (omega arith) in
        record {
          lows = λ n c cw b i. other (P lo n) c (A.two n l i lh) cw ∙ F.lows n c cw b i;
          highs = λ n c cw b i.
              elim (ℕ_discrete n l) [
                | yes e ↦ rw e (R.here c cw ∙ new c cw)
                | no d ↦ other (P hi n) c (A.one hi n l d) cw ∙ F.highs n c cw (omega arith) i
              ];
          rest_lows = λ n c cw b i. other (P lo n) c (A.two n l i lh) cw ∙ F.rest_lows n c cw b i;
          rest_highs = λ n c cw b i. other (P hi n) c (A.one hi n l (omega arith)) cw ∙ F.rest_highs n c cw (omega arith) i;
          beside = λ q c cs b.
              elim (ℕ_discrete q (P hi l)) [
                | yes e ↦ (rw e (R.wide c b)) ∙ F.beside q c cs b
                | no d ↦ R.other q c d cs ∙ F.beside q c cs b
              ];
          past = λ q c cs b. let i = A.inside hi l lh in R.other q c (omega arith) cs ∙ F.past q c cs b;
        }

  -- a half that has no more rows
  pub low-none : (k l : ℕ) (x : ℕ → ℤ) → count lo H ≤ k → Fronts s w H P Y x₀ k l x → Fronts s w H P Y x₀ (k + 1) l x
  low-none k l x b F =
      record {
        lows = λ n c cw a i. F.lows n c cw (omega arith) i;
        highs = F.highs;
        rest_lows = λ n c cw a i. F.rest_lows n c cw (omega arith) i;
        rest_highs = F.rest_highs;
        beside = F.beside;
        past = F.past;
      }

  pub high-none : (k l : ℕ) (x : ℕ → ℤ) → count hi H ≤ l → Fronts s w H P Y x₀ k l x → Fronts s w H P Y x₀ k (l + 1) x
  high-none k l x b F =
      record {
        lows = F.lows;
        highs = λ n c cw a i. F.highs n c cw (omega arith) i;
        rest_lows = F.rest_lows;
        rest_highs = λ n c cw a i. F.rest_highs n c cw (omega arith) i;
        beside = F.beside;
        past = F.past;
      }

  -- all rows done: each column is changed by g
  pub end : (k l : ℕ) (x : ℕ → ℤ) (g : (ℕ → ℤ) → ℕ → ℤ) → 0 < s → count lo H ≤ k → count hi H ≤ l → Fronts s w H P Y x₀ k l x →
      (((q c : ℕ) → q < H.length → c < w → ((n : ℕ) → n < count lo H → x (P lo n * s + c) ≡ Y lo n c) →
      ((n : ℕ) → n < count hi H → x (P hi n * s + c) ≡ Y hi n c) → x (q * s + c) ≡ g (column s x₀ c) q)) → x ≡ columns_by g s w H.length x₀
  unfolding columns_by
  end k l x g apart kl lh F each =
      fun_ext λ j.
      let q = j / s in
      let c = j % s in
      let cs : c < s = mod-lt j apart in
      let back : q * s + c ≡ j = div-add-mod' j s in
      ap x (sym back)
      ∙ elim (dec_lt q H.length) [
        | yes a ↦
            elim (dec_lt c w) [
              | yes b ↦
                  each q c a b (λ n i. F.lows n c b (omega arith) i) (λ n i. F.highs n c b (omega arith) i)
                  ∙ simp (lt-ltb q H.length a, lt-ltb c w b)
              | no b ↦ F.beside q c cs (omega arith) ∙ ap x₀ back ∙ simp (lt-ltb q H.length a, le-ltb c w (omega arith))
            ]
        | no a ↦ F.past q c cs (omega arith) ∙ ap x₀ back ∙ simp (le-ltb q H.length (omega arith))
      ]
