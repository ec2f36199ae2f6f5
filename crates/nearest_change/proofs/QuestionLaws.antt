-- The questions of the call in their order, and what they leave known. Assumes nothing.
use mathlib.Core.Path.{◌≡◌, refl}
use mathlib.Core.Bool.{Bool, true, false}
use Prim.Native.Nat.{ℕ, suc, ◌*◌, ◌^◌, ◌≤◌, ◌<◌}
use native.Mathlib.Nat.{mul_comm}
use native.Mathlib.Omega.{arith}
use lib.Dec.{leb, ltb}
use borrow.Author.Tests.{leb-true, ltb-true, le-leb, lt-leb, lt-ltb, le-ltb}
use Rattle.numbers.proofs.Sweep.{both}
use Rattle.lifting.specs.Line.{lo}
use Rattle.lifting.specs.Grid.{side, count}
use Rattle.wavelet.specs.Limits.{max_width, max_height}
use Rattle.wavelet.specs.Questions.{ask, within}
use Rattle.wavelet.specs.Bands.{LL, across, down}
use Rattle.wavelet.specs.Levels.{side_at}
use Rattle.wavelet.specs.View.{band_rows, band_columns}
use Rattle.wavelet.proofs.QuestionLaws.{within-true}
use Rattle.wavelet.proofs.ViewLaws.{product}
use Rattle.nearest_change.specs.Calls.{nearest_question}

pub rows_are : (H : ℕ) → band_rows (side 0 H) 1 LL ≡ count lo (side 0 H)
unfolding band_rows side_at down
rows_are H = refl

pub columns-are : (W : ℕ) → band_columns (side 0 W) 1 LL ≡ count lo (side 0 W)
unfolding band_columns side_at across
columns-are W = refl

-- the product of the sizes fits a word
pub product_small : (W H : ℕ) → within 1 max_width W ≡ true → within 1 max_height H ≡ true → W * H < 2 ^ 64
product_small W H p q =
    let h = (within-true 1 max_height H q).1 in
    omega (arith, product H W (omega arith) (within-true 1 max_width W p).1, mul_comm W H)

-- a question answered yes
yes-zero : (q : Bool) (n rest : ℕ) → ask q (suc n) rest ≡ 0 → (q ≡ true) × (rest ≡ 0)
yes-zero true n rest e = (refl, e)
yes-zero false n rest e = absurd (omega arith)

-- all of them
pub record Passes (n W H r c : ℕ) : Type 0 where
  pub width : (1 ≤ W) × (W ≤ max_width)
  pub height : (1 ≤ H) × (H ≤ max_height)
  pub room : W * H ≤ n
  pub row : r < count lo (side 0 H)
  pub column : c < count lo (side 0 W)

module _ (n W H r c : ℕ) where
  pub passes : nearest_question n W H r c ≡ 0 → Passes n W H r c
  unfolding nearest_question
  passes e =
      let a = yes-zero (within 1 max_width W) 1 _ e in
      let b = yes-zero (within 1 max_height H) 2 _ a.1 in
      let d = yes-zero (leb (W * H) n) 4 _ b.1 in
      let f = yes-zero _ 5 0 d.1 in
      let g = both (ltb r (band_rows (side 0 H) 1 LL)) (ltb c (band_columns (side 0 W) 1 LL)) f.0 in
      record {
        width = within-true 1 max_width W a.0;
        height = within-true 1 max_height H b.0;
        room = leb-true _ _ d.0;
        row = omega (arith, ltb-true r (band_rows (side 0 H) 1 LL) g.0, rows_are H);
        column = omega (arith, ltb-true c (band_columns (side 0 W) 1 LL) g.1, columns-are W);
      }

  pub no-width : within 1 max_width W ≡ false → 2 ≡ nearest_question n W H r c
  unfolding nearest_question
  no-width e = simp e

  module _ (w : within 1 max_width W ≡ true) where
    pub no-height : within 1 max_height H ≡ false → 3 ≡ nearest_question n W H r c
    unfolding nearest_question
    no-height e = simp (w, e)

    module _ (h : within 1 max_height H ≡ true) where
      pub no_room : n < W * H → 5 ≡ nearest_question n W H r c
      unfolding nearest_question
      no_room e = simp (w, h, lt-leb (W * H) n e)

      module _ (s : W * H ≤ n) where
        pub no_row : count lo (side 0 H) ≤ r → 6 ≡ nearest_question n W H r c
        unfolding nearest_question
        no_row e = simp (w, h, le-leb (W * H) n s, rows_are H, le-ltb r (count lo (side 0 H)) e)

        pub no-column : r < count lo (side 0 H) → count lo (side 0 W) ≤ c → 6 ≡ nearest_question n W H r c
        unfolding nearest_question
        no-column p e = simp (w, h, le-leb (W * H) n s, rows_are H, columns-are W, lt-ltb r (count lo (side 0 H)) p, le-ltb c (count lo (side 0 W)) e)

        pub none-no : r < count lo (side 0 H) → c < count lo (side 0 W) → 0 ≡ nearest_question n W H r c
        unfolding nearest_question
        none-no p e = simp (w, h, le-leb (W * H) n s, rows_are H, columns-are W, lt-ltb r (count lo (side 0 H)) p, lt-ltb c (count lo (side 0 W)) e)
