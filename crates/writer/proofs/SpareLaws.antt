-- The spare row: a draw leaves it alone (`after-past`), and its heights moved on are these heights offered then (`moved-offered`). Assumes nothing.
use mathlib.Core.Bool.{Bool, true, false}
use mathlib.Core.Path.{◌≡◌, refl, sym, ap, ap₂, ◌∙◌}
use mathlib.Core.List.{List, []}
use Prim.Native.Nat.{ℕ, zero, suc, ◌+◌, ◌-◌, ◌%◌, ◌≤◌, ◌<◌}
use native.Mathlib.Decide.{dec_lt}
use native.Mathlib.Omega.{arith}
use lib.IntN.{ℤ}
use lib.ListN.{length, drop}
use lib.Seq.{drop-length}
use lib.Dec.{ltb}
use borrow.Author.Tests.{lt-ltb, le-ltb, lt-leb, le-leb}
use Rattle.numbers.specs.Signal.{pick, stored, spliced}
use Rattle.lifting.specs.Grid.{Side}
use Rattle.level.specs.Level.{Memory}
use Rattle.level.specs.Heights.{height_at}
use Rattle.analysis.specs.Forward.{kind_of, heights_put}
use Rattle.analysis.proofs.ForwardLaws.{height-more, height-none, laws-of}
use Rattle.writer.specs.declared.Writer.{Writer}
use Rattle.writer.specs.Taking.{kind, columns_of, Taking, none, takes, at_column, complete, row_makes, offering}
use Rattle.writer.specs.Machine.{Out}
use Rattle.writer.specs.Calls.{resumed}
use Rattle.writer.proofs.StateHolds.{st}
use Rattle.writer.specs.Spare.{spare_at, moved_row, moving}
use Rattle.writer.proofs.OfferLaws.{plus, takes-at, inside, whole, filled, offer-used}

-- ---- numbers put into a row, f being the number of the filter
module _ (f : ℕ) (W : Side) (s m c : ℕ) where
  -- of the numbers only the first n count
  pub heights-by : (n : ℕ) (g h x : ℕ → ℤ) → ((j : ℕ) → j < n → g j ≡ h j) → heights_put f W (s % 2 + m) c n g x ≡ heights_put f W (s % 2 + m) c n h x
  heights-by zero g h x e = height-none f W (s % 2 + m) c g x ∙ sym (height-none f W (s % 2 + m) c h x)
  heights-by (suc n) g h x e =
      height-more f W s m c n g x
      ∙ ap₂ (λ v y. stored ((kind_of f).cell W s m (c + n)) v y) (e n (omega arith)) (heights-by n g h x (λ j p. e j (omega arith)))
      ∙ sym (height-more f W s m c n h x)

  -- they are put into the level's stretch
  pub heights-past : (n : ℕ) (h x : ℕ → ℤ) (j : ℕ) → c + n ≤ W.length → (kind_of f).stretch W ≤ j → heights_put f W (s % 2 + m) c n h x j ≡ x j
  heights-past zero h x j a p = ap (λ (y : Memory). y j) (height-none f W (s % 2 + m) c h x)
  heights-past (suc n) h x j a p =
      ap (λ (y : Memory). y j) (height-more f W s m c n h x)
      ∙ (laws-of f).cell-past W s m (c + n) (h n) (heights_put f W (s % 2 + m) c n h x) j (omega arith) p
      ∙ heights-past n h x j (omega arith) p

-- ---- n numbers put in place of those from place a on
module _ (a n : ℕ) (y x : Memory) (j : ℕ) where
  pub before-spliced : j < a → spliced a n y x j ≡ x j
  unfolding spliced
  before-spliced h = simp (lt-leb a j h)

  pub past-spliced : a + n ≤ j → spliced a n y x j ≡ x j
  unfolding spliced
  past-spliced h = simp (le-leb a j (omega arith), le-ltb j (a + n) h)

  pub in-spliced : j < n → spliced a n y x (a + j) ≡ y j
  unfolding spliced
  in-spliced h =
      let e : a + j - a ≡ j = omega arith in
      simp (le-leb a (a + j) (omega arith), lt-ltb (a + j) (a + n) (omega arith), e)

-- ---- what a draw leaves does not hang on the column
pub resumed-any : (φ : ℕ) (W : Side) (top L r : ℕ) (f : Bool) (cl v i : ℕ) (o : Out) (b : Bool) (u j k : ℕ) →
    resumed b (st φ W top L r j f cl v i) o u ≡ resumed b (st φ W top L r k f cl v i) o u
unfolding resumed
resumed-any φ W top L r f cl v i o false u j k = refl
resumed-any φ W top L r f cl v i o true zero j k = refl
resumed-any φ W top L r f cl v i o true (suc u) j k = refl

-- ---- its heights move on: all of them
pub moving-taken : (s : Writer) (x : Memory) → (moving s x).taken ≡ s.column
unfolding moving
moving-taken s x = go (ltb s.column s.width)
  where
    go : (t : Bool) → (pick {A = Taking} t (record { taken = s.column; writer = s; store = moved_row s x }) (record {
      taken = s.column;
      writer = complete s (row_makes (kind s) s (moved_row s x));
      store = (row_makes (kind s) s (moved_row s x)).store;
    })).taken ≡ s.column
    go true = refl
    go false = refl

-- of the heights hs, it is an offer of them
module _ (hs : List ℕ) (s : Writer) (x : Memory) (t : takes s ≡ true) (e : s.column ≡ length hs) (some : 0 < length hs) (few : length hs ≤ s.width)
    (same : (j : ℕ) → j < length hs → x (spare_at s + j) ≡ height_at hs j) where
  abbrev from : Writer
  from = at_column s 0

  row_is : filled hs from x (takes-at s 0 ∙ t) (length hs) ≡ moved_row s x
  row_is =
      heights-by s.filter (columns_of s) s.y s.rows 0 (length hs) (height_at hs) (λ j. x (spare_at s + j)) x (λ j p. sym (same j p))
      ∙ ap (λ (n : ℕ). heights_put s.filter (columns_of s) (s.y % 2 + s.rows) 0 n (λ j. x (spare_at s + j)) x) (sym e)

  -- what `moving` gives: part of a row, a whole one
  abbrev begun_taking : Taking
  begun_taking = record { taken = s.column; writer = s; store = moved_row s x }

  abbrev whole_taking : Taking
  whole_taking = record {
    taken = s.column;
    writer = complete s (row_makes (kind s) s (moved_row s x));
    store = (row_makes (kind s) s (moved_row s x)).store;
  }

  begun-is : (k c : ℕ) (y : Memory) → k ≡ s.column → c ≡ s.column → y ≡ moved_row s x →
      record { taken = k; writer = at_column s c; store = y } ≡ begun_taking
  begun-is k c y a b d = rw (a, b, d) refl

  made-is : (k : ℕ) (y : Memory) → k ≡ s.column → y ≡ moved_row s x →
      record { taken = k; writer = complete from (row_makes (kind s) from y); store = (row_makes (kind s) from y).store } ≡ whole_taking
  made-is k y a d = rw (a, d) refl

  rest-none : (w : Writer) (y : Memory) → kind w ≡ kind s → plus (length hs) (offering (kind s) (drop (length hs) hs) w y) ≡ plus (length hs) (none w y)
  rest-none w y z =
      ap (λ (l : List ℕ). plus (length hs) (offering (kind s) l w y)) (drop-length hs)
      ∙ ap (λ k. plus (length hs) (offering k [] w y)) (sym z)
      ∙ ap (plus (length hs)) (offer-used w y)

  pub moved-offered : offering (kind s) hs from x ≡ moving s x
  unfolding moving
  moved-offered =
      elim (dec_lt (length hs) s.width) [
        | yes d ↦
            inside hs from x (takes-at s 0 ∙ t) (length hs) (omega arith) (omega arith)
            ∙ rest-none _ _ refl
            ∙ begun-is _ _ _ (omega arith) (omega arith) row_is
            ∙ sym (ap (λ b. pick b begun_taking whole_taking) (lt-ltb s.column s.width (omega arith)))
        | no d ↦
            whole hs from x (takes-at s 0 ∙ t) (length hs) some (omega arith) (omega arith)
            ∙ rest-none _ _ refl
            ∙ made-is _ _ (omega arith) row_is
            ∙ sym (ap (λ b. pick b begun_taking whole_taking) (le-ltb s.column s.width (omega arith)))
      ]
