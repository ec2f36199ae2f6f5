-- The text of the rows drawn from a writer is the lines that the heights taken make due: all of them once no row waits (`lines-due`), the first of
-- them before (`lines-prefix`). By demand 3 of the writer; assumes nothing.
use mathlib.Core.Bool.{true}
use mathlib.Core.Path.{◌≡◌, refl, sym, ap, ap₂, ◌∙◌}
use mathlib.Core.List.{List, [], ◌∷◌, ◌++◌, map, append-nil, append_assoc, cons≢nil, head-eq_of_cons-eq, tail-eq_of_cons-eq}
use Prim.Native.Nat.{ℕ, zero, suc, ◌+◌, ◌*◌, ◌≤◌, ◌<◌}
use native.Mathlib.Omega.{arith}
use lib.IntN.{ℤ}
use lib.ListN.{length, drop, get_or}
use Rattle.numbers.specs.Word.{whole}
use Rattle.lifting.specs.Grid.{side}
use Rattle.lifting.specs.FiveThree.{five_three_filter}
use Rattle.filters.specs.Filters.{filter_of}
use Rattle.wavelet.specs.Limits.{max_height, max_sample}
use Rattle.wavelet.specs.Bands.{Grid, Band, LL, HL, LH, HH, code}
use Rattle.wavelet.specs.Levels.{level_band}
use Rattle.wavelet.specs.View.{band_columns}
use Rattle.wavelet.specs.Maps.{IsMap}
use Rattle.wavelet.specs.Order.{RowName}
use Rattle.calls.specs.Lists.{All, all_more}
use Rattle.calls.proofs.AllLaws.{all-at}
use Rattle.level.specs.Level.{Memory}
use Rattle.writer.specs.Questions.{set_up_question}
use Rattle.writer.specs.declared.BandRow.{BandRow}
use Rattle.writer.specs.History.{Call, Event, events, fresh_world, taken, finished_by, DrawnRow, drawn}
use Rattle.writer.specs.Demand3.{whole_rows, made_of, waiting_of, answered, MapOf, HasValues}
use Rattle.writer.proofs.Demand3.{height-range, demand-3}
use Rattle.text.specs.Decimal.{numeral, integer}
use Rattle.listing.specs.Lines.{band_letters, spaced, row_head, row_line, line_of, lines_of, size_line}
use Rattle.listing.specs.Listing.{Shape, grid_of, lines_due}
use Rattle.listing.specs.Parts.{letter, head_text, head_part}
use Rattle.listing.proofs.DrawnText.{drawn_line, drawn_text}

-- ---- one line
head-same : (k : ℕ) (b : Band) (r n : ℕ) → head_text (head_part k (code b) r n) ≡ row_head k b r
unfolding head_text row_head code letter
head-same k LL r n = sym (append_assoc (numeral k) (32 ∷ band_letters LL) (32 ∷ numeral r))
head-same k HL r n = sym (append_assoc (numeral k) (32 ∷ band_letters HL) (32 ∷ numeral r))
head-same k LH r n = sym (append_assoc (numeral k) (32 ∷ band_letters LH) (32 ∷ numeral r))
head-same k HH r n = sym (append_assoc (numeral k) (32 ∷ band_letters HH) (32 ∷ numeral r))

pub spaced-same : (n : ℕ) (y z : ℕ → ℤ) → ((i : ℕ) → i < n → y i ≡ z i) → spaced n y ≡ spaced n z
unfolding spaced
spaced-same zero y z e = refl
spaced-same (suc n) y z e = ap₂ (λ a v. a ++ (32 ∷ integer v)) (spaced-same n y z (λ i p. e i (omega arith))) (e n (omega arith))

-- the line of an answer r with the values y, as the code writes it
abbrev line_as : BandRow → (ℕ → ℤ) → List ℕ
line_as r y = head_text (head_part r.level r.band r.row r.length) ++ (spaced r.length y ++ (10 ∷ []))

module _ (W H : ℕ) (g : Grid) where
  -- how many values the row of a name has, and which
  abbrev columns : RowName → ℕ
  columns x = band_columns (side 0 W) x.level x.band

  abbrev values_of : RowName → ℕ → ℤ
  values_of x = level_band five_three_filter whole (side 0 W) (side 0 H) g x.level x.band x.row

  pub line_same : (d : DrawnRow) (x : RowName) → d.row ≡ answered (side 0 W) x → HasValues 0 (side 0 W) 0 H g d → drawn_line d ≡ line_of W H g x
  unfolding filter_of drawn_line line_of row_line
  line_same d x e v =
      ap (λ r. line_as r d.values) e
      ∙ ap₂ (λ h s. h ++ (s ++ (10 ∷ []))) (head-same x.level x.band x.row (columns x)) (spaced-same (columns x) d.values (values_of x) same)
      ∙ sym (append_assoc (row_head x.level x.band x.row) (spaced (columns x) (values_of x)) (10 ∷ []))
    where
      same : (i : ℕ) → i < columns x → d.values i ≡ values_of x i
      same i p =
          let n : d.row.length ≡ columns x = ap (λ r. r.length) e in
          v.are x.band (ap (λ r. r.band) e) i (omega arith)
          ∙ ap (λ r. level_band five_three_filter whole (side 0 W) (side 0 H) g r.level x.band r.row i) e

  -- ---- the lines of rows drawn, and of those after them
  pub lines_same : (l : List DrawnRow) (m : List RowName) → All (HasValues 0 (side 0 W) 0 H g) l
      → map (λ d. d.row) l ++ map (answered (side 0 W)) (drop (length l) m) ≡ map (answered (side 0 W)) m
      → drawn_text l ++ lines_of W H g (drop (length l) m) ≡ lines_of W H g m
  unfolding drawn_text lines_of
  lines_same [] m a e = refl
  lines_same (d ∷ l) [] a e = absurd (cons≢nil e)
  lines_same (d ∷ l) (x ∷ m) (all_more v a) e =
      append_assoc (drawn_line d) (drawn_text l) (lines_of W H g (drop (length l) m))
      ∙ ap₂ ◌++◌ (line_same d x (head-eq_of_cons-eq e) v) (lines_same l m a (tail-eq_of_cons-eq e))

-- ---- the heights taken are the first of a map
pub grid-map : (W H : ℕ) (l : List ℕ) → All (λ h. h ≤ max_sample) l → IsMap W H (grid_of W l)
unfolding grid_of max_sample
grid-map W H l a = record { heights = λ r c _ _. height-range (get_or l (r * W + c) 0) (all-at 0 (omega arith) a (r * W + c)) }

pub grid-map-of : (W H : ℕ) (es : List Event) → 1 ≤ H → H ≤ max_height → All (λ h. h ≤ max_sample) (taken es) → length (taken es) ≤ W * H
    → (finished_by es ≡ true → length (taken es) ≡ W * H) → MapOf (side 0 W) H (grid_of W (taken es)) es
unfolding grid_of
grid-map-of W H es some limit small within all = record {
  begins = record { some = some; limit = limit; map = grid-map W H (taken es) small; within = within; heights = λ _ _ _ _. refl };
  all = all;
}

-- ---- the lines of any list of calls on a fresh writer
module _ (W L n : ℕ) (x : Memory) (ready : set_up_question 0 (side 0 W) L n ≡ 0) (cs : List Call) (H : ℕ) where
  abbrev es : List Event
  es = events cs (fresh_world 0 (side 0 W) 0 L n x)

  abbrev q : Shape
  q = record { width = W; height = H; levels = L }

  module _ (some : 1 ≤ H) (limit : H ≤ max_height) (small : All (λ h. h ≤ max_sample) (taken es)) (within : length (taken es) ≤ W * H)
      (all : finished_by es ≡ true → length (taken es) ≡ W * H) where
    -- the lines drawn, and those of the rows that wait
    pub lines-all : (size_line W H L ++ drawn_text (drawn es)) ++ lines_of W H (grid_of W (taken es)) (waiting_of 0 (side 0 W) 0 L es)
        ≡ lines_due q (taken es) (finished_by es)
    unfolding lines_due waiting_of made_of whole_rows filter_of
    lines-all =
        let d = (demand-3 0 (side 0 W) 0 L n x (omega arith) (omega arith) ready cs).1 in
        append_assoc (size_line W H L) (drawn_text (drawn es)) _
        ∙ ap (λ t. size_line W H L ++ t)
        (lines_same W H (grid_of W (taken es)) (drawn es) (made_of 0 (side 0 W) 0 L es)
        (d.values H (grid_of W (taken es)) (grid-map-of W H es some limit small within all))
        d.in_order)

    pub lines-prefix : (r : List ℕ) × ((size_line W H L ++ drawn_text (drawn es)) ++ r ≡ lines_due q (taken es) (finished_by es))
    lines-prefix = (lines_of W H (grid_of W (taken es)) (waiting_of 0 (side 0 W) 0 L es), lines-all)

    pub lines-due : waiting_of 0 (side 0 W) 0 L es ≡ [] → size_line W H L ++ drawn_text (drawn es) ≡ lines_due q (taken es) (finished_by es)
    unfolding lines_of
    lines-due z =
        sym (append-nil (size_line W H L ++ drawn_text (drawn es)))
        ∙ ap (λ m. (size_line W H L ++ drawn_text (drawn es)) ++ lines_of W H (grid_of W (taken es)) m) (sym z)
        ∙ lines-all
