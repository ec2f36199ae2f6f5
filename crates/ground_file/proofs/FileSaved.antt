-- What a saver writes is its plane's file: `saved`, over every list of calls lent one plane (`calls-saved`). Assumes nothing.
use mathlib.Core.Path.{◌≡◌, refl, sym, ap, ap₂, subst, ◌∙◌}
use mathlib.Core.Bool.{Bool, true, false}
use mathlib.Core.List.{List, [], ◌∷◌, ◌++◌, append_assoc, append-nil}
use mathlib.Core.Logic.{◌⊎◌, inl, inr, ⊎_elim}
use Prim.Native.Nat.{ℕ, zero, suc, ◌+◌, ◌-◌, ◌*◌, ◌/◌, ◌%◌, ◌^◌, ◌≤◌, ◌<◌, min}
use native.Mathlib.Nat.{div-le_self}
use native.Mathlib.Omega.{arith}
use native.Mathlib.Decide.{dec_lt}
use lib.IntN.{ℤ, pos, negsuc, nat_abs, ◌*ℤ◌}
use lib.Signed.{mag, shr_z}
use lib.Dec.{leb, eqb}
use lib.ListN.{length, take, drop, length-take, length-drop, length-append, take-append-drop}
use lib.Seq.{take_all, drop-drop, get_or-take, get_or-drop, length-take-le}
use borrow.Author.Tests.{le-leb, eq-eqb, ne_eqb, leb-true}
use Rattle.numbers.specs.Signal.{at, pick}
use Rattle.numbers.specs.Tests.{every}
use Rattle.numbers.proofs.TestLaws.{every-each, each-every}
use Rattle.wavelet.specs.declared.shape.Shape.{Shape}
use Rattle.wavelet.specs.Shape.{columns, rows}
use Rattle.wavelet.specs.Bands.{Band, LL, HL, LH, HH, code}
use Rattle.wavelet.specs.Limits.{max_width, max_height, max_levels, range}
use Rattle.wavelet.specs.Order.{RowName, row_name, same_name, times}
use Rattle.wavelet.specs.Questions.{size_question}
use Rattle.wavelet.specs.View.{band_columns, band_start, Kept}
use Rattle.wavelet.specs.ViewCall.{band_row_exists, view_question, view_start, view_length, view_row}
use Rattle.wavelet.specs.ViewCall as view
use Rattle.wavelet.proofs.LimitLaws.{width_small, height-small}
use Rattle.wavelet.proofs.QuestionLaws.{within-yes}
use Rattle.wavelet.proofs.ViewLaws.{named-at, question-row, viewed, view_in}
use Rattle.wavelet.proofs.ViewAsks.{kept-exists}
use Rattle.filters.specs.Filters.{filter_of}
use Rattle.filters.proofs.FigureLaws.{levels-most}
use Rattle.filters.proofs.PlainFigures.{range-is}
use Rattle.wavelet.specs.Asks.{by_filter}
use Rattle.reader_steps.specs.Asked.{named}
use Rattle.reader_order.specs.declared.Place.{Place}
use Rattle.reader_order.specs.Order.{nowhere, shape_fits, place_fits, first_place, next_place, row_at, name_at}
use Rattle.reader_order.proofs.OrderLaws.{place-in}
use Rattle.reader_order.proofs.OrderTheorem.{Order, order}
use Rattle.ground_file.specs.declared.saver.Saver.{Saver}
use Rattle.ground_file.specs.Saving.{Saved}
use Rattle.ground_file.specs.Groups.{zigzag, bytes_of, group_of, groups_of, row_bytes}
use Rattle.ground_file.specs.File.{header_of, stored, listed, numbers_of, rows_bytes, wanted, body_of, as_number, prime, file_of, Fits}
use Rattle.ground_file.specs.Values.{kept, is_multiple}
use Rattle.ground_file.specs.Saving.{saver_at, row_of, step_of, piece_of, at_row, onward, partly, from_of, rest_of, moved, begins, row_fits, row_divides}
use Rattle.ground_file.specs.Saving.{row_number}
use Rattle.ground_file.specs.Saving.{Went, here, on, stop_of, set_up_number, save_number, fresh, Ran, Saves, Savable, Calls, none, call}
use Rattle.ground_file.proofs.Digits.{bytes-length}
use Rattle.ground_file.proofs.FileLaws.{listed-length, listed_same, same-is, times-first, wanted-kept, kept-wanted}
use Rattle.ground_file.proofs.MapFiles.{by_one, range_small}
use Rattle.ground_file.proofs.ValueLaws.{kept-is, kept_small, multiple-of, number_append, number-rest, is-multiple}
use Rattle.ground_file.proofs.SaverLaws.{start-in, piece-head, piece-group, piece-sum, moved-part, moved-whole, on-head, on-group, on-sum, nothing_written}
use Rattle.ground_file.proofs.SaverLaws.{group-more, group-last, stop-row, multiple-one, number-none, first-phase}
use Rattle.ground_file.proofs.SaverAsks.{Passed, passed, filter-few}

-- ---- lists of numbers
drop-listed : (k n : ℕ) (x : ℕ → ℕ) → drop k (listed n x) ≡ listed (n - k) (λ i. x (k + i))
unfolding listed
drop-listed zero n x =
    let e : n - 0 ≡ n = omega arith in
    front (listed n x) ∙ ap (λ m. listed m x) (sym e) ∙ listed_same (n - 0) x (λ i. x (0 + i)) (λ i h. ap x (omega arith))
  where
    front : (l : List ℕ) → drop 0 l ≡ l
    front [] = refl
    front (y ∷ l) = refl
drop-listed (suc k) zero x = let e : 0 - suc k ≡ 0 = omega arith in rw e refl
drop-listed (suc k) (suc n) x =
    let e : suc n - suc k ≡ n - k = omega arith in
    drop-listed k n (λ i. x (suc i)) ∙ ap (λ m. listed m (λ i. x (suc (k + i)))) (sym e)
    ∙ listed_same (suc n - suc k) (λ i. x (suc (k + i))) (λ i. x (suc k + i)) (λ i h. ap x (omega arith))

take-listed : (m n : ℕ) (x : ℕ → ℕ) → take m (listed n x) ≡ listed (min n m) x
unfolding listed
take-listed zero zero x = refl
take-listed zero (suc n) x = let e : min (suc n) 0 ≡ 0 = omega arith in rw e refl
take-listed (suc m) zero x = let e : min 0 (suc m) ≡ 0 = omega arith in rw e refl
take-listed (suc m) (suc n) x = let e : min (suc n) (suc m) ≡ suc (min n m) = omega arith in rw e (ap (λ l. x 0 ∷ l) (take-listed m n (λ i. x (suc i))))

pub part-listed : (m k n : ℕ) (x : ℕ → ℕ) → take m (drop k (listed n x)) ≡ listed (min (n - k) m) (λ i. x (k + i))
part-listed m k n x = ap (take m) (drop-listed k n x) ∙ take-listed m (n - k) (λ i. x (k + i))

-- ---- a value in its range
mag-size : (v : ℤ) → mag v ≤ nat_abs v
mag-size (pos n) = omega arith
mag-size (negsuc n) = omega arith

kept-stored : (b : Band) (q : ℕ) (v : ℤ) → nat_abs v < 2 ^ 27 → kept (pick (eqb (code b) 0) 1 q) v ≡ zigzag (stored q b v)
unfolding stored code
kept-stored LL q v h = kept-is 1 v (omega (arith, mag-size v)) ∙ ap zigzag (by_one v)
kept-stored HL q v h = kept-is q v (omega (arith, mag-size v, div-le_self (mag v) q))
kept-stored LH q v h = kept-is q v (omega (arith, mag-size v, div-le_self (mag v) q))
kept-stored HH q v h = kept-is q v (omega (arith, mag-size v, div-le_self (mag v) q))

code-named : (c : ℕ) → c < 4 → code (named c) ≡ c
unfolding code named
code-named zero h = refl
code-named (suc zero) h = refl
code-named (suc (suc zero)) h = refl
code-named (suc (suc (suc zero))) h = refl
code-named (suc (suc (suc (suc c)))) h = absurd (omega arith)

-- ---- groups
one-more : (n : ℕ) (r : List ℕ) → groups_of (suc n) r ≡ group_of (take 16 r) ++ groups_of n (drop 16 r)
unfolding groups_of
one-more n r = refl

no-groups : (r : List ℕ) → groups_of 0 r ≡ []
unfolding groups_of
no-groups r = refl

-- ---- the checksum of two stretches
abbrev check : ℕ → List ℕ → List ℕ
check c l = bytes_of 4 (as_number c l % prime)

check-on : (c : ℕ) (l m : List ℕ) → check c (l ++ m) ≡ check (as_number c l % prime) m
check-on c l m = ap (bytes_of 4) (ap (λ n. n % prime) (number_append c l m) ∙ sym (number-rest (as_number c l) m))

pub drop-0 : (l : List ℕ) → drop 0 l ≡ l
drop-0 [] = refl
drop-0 (x ∷ l) = refl

-- ---- a file in pieces, of a shape and a step that pass and a plane that is long enough
module _ (sh : Shape) (q : ℕ) (ok : set_up_number sh q ≡ 0) (p : List ℤ) (long : sh.width * sh.height ≤ length p) where
  abbrev P : ℕ → ℤ
  P = at p

  pass : Passed sh q
  pass = passed sh q ok

  few : sh.levels ≤ max_levels
  few = omega (arith, pass.deep.1, levels-most sh.filter)

  sizes : size_question sh.width sh.height sh.levels ≡ 0
  unfolding size_question
  sizes =
      rw (
        within-yes 1 max_width sh.width pass.wide.0 pass.wide.1,
        within-yes 1 max_height sh.height pass.high.0 pass.high.1,
        within-yes 1 max_levels sh.levels pass.deep.0 few,
      ) refl

  fits : shape_fits sh ≡ true
  unfolding shape_fits
  fits = eq-eqb _ 0 sizes

  o : Order sh
  o = order sh fits

  by-filter : (f L : ℕ) → L ≤ (filter_of f).levels → L ≤ by_filter f 5 4
  unfolding filter_of
  by-filter zero L h = h
  by-filter (suc f) L h = h

  range-few : (k : ℕ) → k ≤ sh.levels → range (filter_of sh.filter) k < 2 ^ 27
  range-few k h =
      omega (
        arith,
        range-is sh.filter k,
        range_small sh.filter k (filter-few sh.filter pass.known)
            (by-filter sh.filter k (omega (arith, pass.deep.1))),
      )

  -- ---- the row at a place: x is its name
  abbrev columns_of : RowName → ℕ
  columns_of x = band_columns (columns sh) x.level x.band

  abbrev start_at : RowName → ℕ
  start_at x = band_start (columns sh) (rows sh) x.level x.band x.row

  abbrev Wanted : RowName → List RowName → Type 0
  Wanted x l = (y : RowName) → 0 < times y (x ∷ l) → 0 < times y (wanted sh)

  abbrev saver : Place → ℕ → ℕ → ℕ → ℕ → Saver
  saver pl g m c f = saver_at sh q pl g m c f

  -- what a file can hold of a row; and of every row that is wanted, but those of l
  abbrev Good : RowName → Type 0
  Good x = ((i : ℕ) → i < columns_of x → zigzag (stored q x.band (P (start_at x + i))) < 2 ^ 28)
      × ((i : ℕ) → i < columns_of x → 0 < code x.band → P (start_at x + i) ≡ pos q *ℤ shr_z (P (start_at x + i)) q)

  abbrev GoodBut : List RowName → Type 0
  GoodBut l = (y : RowName) → 0 < times y (wanted sh) → (0 < times y l) ⊎ Good y

  good-next : (x : RowName) (l : List RowName) → GoodBut (x ∷ l) → Good x → GoodBut l
  unfolding times
  good-next x l g h y w = ⊎_elim (λ z. go (same_name y x) refl z) (λ z. inr z) (g y w)
    where
      go : (t : Bool) → same_name y x ≡ t → 0 < pick t 1 0 + times y l → (0 < times y l) ⊎ Good y
      go true e z = inr (subst Good (sym (same-is y x e)) h)
      go false e z = inl (omega (arith, z))

  -- the row, as the view gives it
  abbrev row : Place → List ℤ
  row pl = view_row p (columns sh) (rows sh) sh.levels pl.level pl.band (row_at sh pl)

  -- the row has passed 7 and 22
  abbrev Asked : Place → Type 0
  Asked pl = (row_fits (saver pl 0 0 0 1) (row pl) ≡ true) × (row_divides (saver pl 0 0 0 1) (row pl) ≡ true)

  row_is : (pl : Place) (g m c f : ℕ) → row_of (saver pl g m c f) p ≡ row pl
  unfolding row_of
  row_is pl g m c f = refl

  module _ (pl : Place) (x : RowName) (l : List RowName) (left : o.Left pl (x ∷ l)) (there : Wanted x l) where
    inside : place_fits sh pl ≡ true
    inside = (o.next pl x l left).0

    name : name_at sh pl ≡ x
    name = (o.next pl x l left).1

    code_is : code x.band ≡ pl.band
    code_is = ap code (sym (ap (λ (y : RowName). y.band) name)) ∙ code-named pl.band (place-in sh pl inside).band

    level-is : x.level ≡ pl.level
    level-is = sym (ap (λ (y : RowName). y.level) name)

    keeps : Kept (columns sh) (rows sh) sh.levels x.level x.band x.row
    keeps = wanted-kept sh pass.deep.0 x (there x (times-first x l))

    -- the same by the place's own numbers
    keeps_here : Kept (columns sh) (rows sh) sh.levels pl.level (named pl.band) (row_at sh pl)
    keeps_here = subst (λ (y : RowName). Kept (columns sh) (rows sh) sh.levels y.level y.band y.row) (sym name) keeps

    question : view_question (length p) (columns sh) (rows sh) sh.levels pl.level pl.band (row_at sh pl) ≡ 0
    question =
        question-row (length p) (columns sh) (rows sh) sh.levels pl.level pl.band (row_at sh pl) sizes long
        ∙ ap (λ t. pick t 0 6)
        (ap (λ c. view.named c (λ b. band_row_exists (columns sh) (rows sh) sh.levels pl.level b (row_at sh pl)) false)
        (sym (code-named pl.band (place-in sh pl inside).band))
        ∙ named-at (named pl.band) (λ b. band_row_exists (columns sh) (rows sh) sh.levels pl.level b (row_at sh pl)) false
        ∙ kept-exists (columns sh) (rows sh) sh.levels pl.level (named pl.band) (row_at sh pl) keeps_here)

    length-view : view_length (columns sh) pl.level pl.band ≡ columns_of x
    unfolding view_length
    length-view =
        ap (λ c. view.named c (band_columns (columns sh) pl.level) 0) (sym (code-named pl.band (place-in sh pl inside).band))
        ∙ named-at (named pl.band) (band_columns (columns sh) pl.level) 0
        ∙ ap (λ (y : RowName). band_columns (columns sh) y.level y.band) name

    start-view : view_start (columns sh) (rows sh) pl.level pl.band (row_at sh pl) ≡ start_at x
    unfolding view_start
    start-view =
        ap (λ c. view.named c (λ b. band_start (columns sh) (rows sh) pl.level b (row_at sh pl)) 0)
        (sym (code-named pl.band (place-in sh pl inside).band))
        ∙ named-at (named pl.band) (λ b. band_start (columns sh) (rows sh) pl.level b (row_at sh pl)) 0
        ∙ ap (λ (y : RowName). band_start (columns sh) (rows sh) y.level y.band y.row) name

    within-plane : start_at x + columns_of x ≤ length p
    within-plane =
        let v = view_in (length p) (columns sh) (rows sh) sh.levels pl.level pl.band (row_at sh pl)
        (viewed (length p) (columns sh) (rows sh) sh.levels pl.level pl.band (row_at sh pl) question) in
        omega (arith, v, length-view, start-view)

    row_here : row pl ≡ take (columns_of x) (drop (start_at x) p)
    unfolding view_row
    row_here = rw (eq-eqb _ 0 question) (ap₂ (λ n a. take n (drop a p)) length-view start-view)

    row-length : length (row pl) ≡ columns_of x
    row-length =
        ap length row_here ∙ length-take-le (columns_of x) (drop (start_at x) p) (omega (arith, within-plane, length-drop (start_at x) p))

    row-at : (j : ℕ) → j < columns_of x → at (row pl) j ≡ P (start_at x + j)
    row-at j h = ap (λ r. at r j) row_here ∙ get_or-take (columns_of x) (drop (start_at x) p) j (pos 0) h ∙ get_or-drop (start_at x) p j (pos 0)

    -- ---- a group of it
    module _ (ranged : row_fits (saver pl 0 0 0 1) (row pl) ≡ true) where
      small : (j : ℕ) → j < columns_of x → nat_abs (at (row pl) j) < 2 ^ 27
      unfolding row_fits
      small j h =
          let e : nat_abs (at (row pl) j) ≤ range (filter_of sh.filter) (min pl.level (filter_of sh.filter).levels) =
          leb-true _ _
          (every-each (length (row pl))
          (λ i. leb (nat_abs (at (row pl) i)) (range (filter_of sh.filter) (min pl.level (filter_of sh.filter).levels))) ranged j
          (omega (arith, row-length, h))) in
          let top : min pl.level (filter_of sh.filter).levels ≡ pl.level = omega (arith, (place-in sh pl inside).most, pass.deep.1) in
          let same : range (filter_of sh.filter) (min pl.level (filter_of sh.filter).levels) ≡ range (filter_of sh.filter) pl.level =
          ap (range (filter_of sh.filter)) top in
          omega (arith, e, same, range-few pl.level (place-in sh pl inside).most)

      number_is : (m c g i : ℕ) → 16 * g + i < columns_of x
          → kept (step_of (saver pl g m c 1)) (at (row pl) (16 * g + i)) ≡ zigzag (stored q x.band (P (start_at x + (16 * g + i))))
      unfolding step_of
      number_is m c g i h =
          ap (λ b. kept (pick (eqb b 0) 1 q) (at (row pl) (16 * g + i))) (sym code_is)
          ∙ kept-stored x.band q (at (row pl) (16 * g + i)) (small (16 * g + i) h)
          ∙ ap (λ v. zigzag (stored q x.band v)) (row-at (16 * g + i) h)

      piece_is : (g m c : ℕ) → piece_of (saver pl g m c 1) (row pl) ≡ group_of (take 16 (drop (16 * g) (numbers_of sh q P x)))
      unfolding numbers_of
      piece_is g m c =
          sym (piece-group (saver pl g m c 1) (row pl) (step_of (saver pl g m c 1)) (λ z. omega arith) refl refl)
          ∙ ap group_of
          (ap (λ n. listed (min (n - 16 * g) 16) (λ i. kept (step_of (saver pl g m c 1)) (at (row pl) (16 * g + i)))) row-length
          ∙ listed_same (min (columns_of x - 16 * g) 16) _ (λ i. zigzag (stored q x.band (P (start_at x + (16 * g + i)))))
          (λ i h. number_is m c g i (omega arith))
          ∙ sym (part-listed 16 (16 * g) (columns_of x) (λ i. zigzag (stored q x.band (P (start_at x + i))))))

    module _ (asked : Asked pl) where
      good-small : (i : ℕ) → i < columns_of x → zigzag (stored q x.band (P (start_at x + i))) < 2 ^ 28
      good-small i h =
          let e = kept-stored x.band q (P (start_at x + i)) (subst (λ v. nat_abs v < 2 ^ 27) (row-at i h) (small asked.0 i h)) in
          omega (arith, e, kept_small (pick (eqb (code x.band) 0) 1 q) (P (start_at x + i)))

      good-multiple : (i : ℕ) → i < columns_of x → 0 < code x.band → P (start_at x + i) ≡ pos q *ℤ shr_z (P (start_at x + i)) q
      unfolding row_divides step_of
      good-multiple i h b =
          let e = every-each (length (row pl)) (λ j. is_multiple (step_of (saver pl 0 0 0 1)) (at (row pl) j)) asked.1 i (omega (arith, row-length, h)) in
          let step : pick (eqb pl.band 0) 1 q ≡ q = ap (λ t. pick t 1 q) (ne_eqb pl.band 0 (λ z. omega (arith, code_is, b, z))) in
          multiple-of q (P (start_at x + i)) pass.step.0 (ap₂ is_multiple (sym step) (sym (row-at i h)) ∙ e)

      good : Good x
      good = (good-small, good-multiple)

  -- ---- the bytes left of the file where a saver is
  abbrev header : List ℕ
  header = header_of sh q

  abbrev rows_of : List RowName → List ℕ
  rows_of l = rows_bytes sh q P l

  abbrev group_at : RowName → ℕ → List ℕ
  group_at x g = group_of (take 16 (drop (16 * g) (numbers_of sh q P x)))

  -- the groups of a row from group g on
  abbrev groups_from : RowName → ℕ → List ℕ
  groups_from x g = groups_of ((length (numbers_of sh q P x) + 15) / 16 - g) (drop (16 * g) (numbers_of sh q P x))

  data Held : Saver → List ℕ → Type 0 where
    head : (m : ℕ) → m < length header
        → Held (saver nowhere 0 m 0 0) (drop m header ++ (rows_of (wanted sh) ++ check 0 (header ++ rows_of (wanted sh))))
    group : (pl : Place) (x : RowName) (l : List RowName) (g m c : ℕ) (t : List ℕ) → o.Left pl (x ∷ l) → Wanted x l → c < prime
        → 16 * g < columns_of x → m < length (group_at x g) → (0 < g + m → Asked pl) → GoodBut (x ∷ l)
        → groups_from x (g + 1) ++ rows_of l ≡ t → Held (saver pl g m c 1) (drop m (group_at x g) ++ (t ++ check c (group_at x g ++ t)))
    sum : (pl : Place) (m c : ℕ) → m < 4 → c < prime → GoodBut [] → Held (saver pl 0 m c 2) (drop m (bytes_of 4 c))
    over : (pl : Place) → GoodBut [] → Held (saver pl 0 0 0 3) []

  numbers-length : (x : RowName) → length (numbers_of sh q P x) ≡ columns_of x
  unfolding numbers_of
  numbers-length x = listed-length _ _

  group-some : (x : RowName) (g : ℕ) → 0 < length (group_at x g)
  unfolding group_of
  group-some x g = omega arith

  -- one group and those after it
  groups-first : (x : RowName) (g : ℕ) → 16 * g < columns_of x → groups_from x g ≡ group_at x g ++ groups_from x (g + 1)
  groups-first x g h =
      let n = numbers-length x in
      let e : (length (numbers_of sh q P x) + 15) / 16 - g ≡ suc ((length (numbers_of sh q P x) + 15) / 16 - (g + 1)) = omega arith in
      let f : 16 * g + 16 ≡ 16 * (g + 1) = omega arith in
      ap (λ k. groups_of k (drop (16 * g) (numbers_of sh q P x))) e
      ∙ one-more ((length (numbers_of sh q P x) + 15) / 16 - (g + 1)) (drop (16 * g) (numbers_of sh q P x))
      ∙ ap (λ r. group_at x g ++ groups_of ((length (numbers_of sh q P x) + 15) / 16 - (g + 1)) r)
      (drop-drop 16 (16 * g) (numbers_of sh q P x) ∙ ap (λ k. drop k (numbers_of sh q P x)) f)

  groups_none : (x : RowName) (g : ℕ) → columns_of x ≤ 16 * g → groups_from x g ≡ []
  groups_none x g h =
      let n = numbers-length x in
      let e : (length (numbers_of sh q P x) + 15) / 16 - g ≡ 0 = omega arith in
      ap (λ k. groups_of k (drop (16 * g) (numbers_of sh q P x))) e ∙ no-groups (drop (16 * g) (numbers_of sh q P x))

  row_first : (x : RowName) (l : List RowName) → rows_of (x ∷ l) ≡ groups_from x 0 ++ rows_of l
  unfolding rows_bytes row_bytes
  row_first x l =
      let e : (length (numbers_of sh q P x) + 15) / 16 - 0 ≡ (length (numbers_of sh q P x) + 15) / 16 = omega arith in
      let f : 16 * 0 ≡ 0 = omega arith in
      ap (λ r. r ++ rows_of l) (ap₂ groups_of (sym e) (sym (drop-0 (numbers_of sh q P x)) ∙ ap (λ k. drop k (numbers_of sh q P x)) (sym f)))

  remains : (a : ℕ) → a % prime < prime
  unfolding prime
  remains a = omega arith

  own : (c : ℕ) → c < prime → c % prime ≡ c
  unfolding prime
  own c h = omega arith

  later : (x : RowName) (l : List RowName) → Wanted x l → (y : RowName) → 0 < times y l → 0 < times y (wanted sh)
  unfolding times
  later x l w y h = w y (omega arith)

  -- at group g, nothing of it written
  at-group : (pl : Place) (x : RowName) (l : List RowName) (g c : ℕ) → o.Left pl (x ∷ l) → Wanted x l → c < prime → 16 * g < columns_of x
      → (0 < g → Asked pl) → GoodBut (x ∷ l) → (r : List ℕ) → r ≡ groups_from x g ++ rows_of l → Held (saver pl g 0 c 1) (r ++ check c r)
  at-group pl x l g c left w cs h asked but r e =
      let t : List ℕ = groups_from x (g + 1) ++ rows_of l in
      let f : r ≡ group_at x g ++ t = e ∙ ap (λ u. u ++ rows_of l) (groups-first x g h) ∙ append_assoc (group_at x g) (groups_from x (g + 1)) (rows_of l) in
      let z : g + 0 ≡ g = omega arith in
      subst (Held (saver pl g 0 c 1))
      (ap (λ u. u ++ (t ++ check c (group_at x g ++ t))) (drop-0 (group_at x g)) ∙ sym (append_assoc (group_at x g) t (check c (group_at x g ++ t)))
      ∙ ap (λ u. u ++ check c u) (sym f))
      (group pl x l g 0 c t left w cs h (group-some x g) (λ k. asked (omega arith)) but refl)

  no_rows : (c : ℕ) → rows_of [] ++ check c (rows_of []) ≡ bytes_of 4 (c % prime)
  unfolding rows_bytes as_number
  no_rows c = refl

  -- at the rows from a place on
  at_rows : (pl : Place) (l : List RowName) (c : ℕ) → o.Left pl l → ((y : RowName) → 0 < times y l → 0 < times y (wanted sh)) → c < prime → GoodBut l
      → Held (saver pl 0 0 c (pick (eqb pl.level 0) 2 1)) (rows_of l ++ check c (rows_of l))
  at_rows pl [] c left w cs but =
      rw (eq-eqb pl.level 0 (o.over pl left))
      (subst (Held (saver pl 0 0 c 2)) (drop-0 (bytes_of 4 c) ∙ ap (bytes_of 4) (sym (own c cs)) ∙ sym (no_rows c)) (sum pl 0 c (omega arith) cs but))
  at_rows pl (x ∷ l) c left w cs but =
      rw (ne_eqb pl.level 0 (λ e. omega (arith, o.some pl x l left)))
      (at-group pl x l 0 c left w cs (omega (arith, (keeps pl x l left w).columns)) (λ k. absurd (omega arith)) but (rows_of (x ∷ l)) (row_first x l))

  rest-is : (s : Saver) (r : List ℤ) → rest_of s r ≡ drop (from_of s r) (piece_of s r)
  unfolding rest_of
  rest-is s r = refl

  at-row-is : (s : Saver) (pl : Place) (c : ℕ) → saver_at s.shape s.step pl 0 0 c (pick (eqb pl.level 0) 2 1) ≡ at_row s pl c
  unfolding at_row
  at-row-is s pl c = refl

  header-some : 0 < length header
  unfolding header_of bytes_of
  header-some = omega arith

  -- ---- one part of a piece
  abbrev Steps : Saver → ℕ → List ℕ → Type 0
  Steps s m t = (u : List ℕ) × Held (moved s (row_of s p) m) u × (take m (rest_of s (row_of s p)) ++ u ≡ t)

  stepped : (s : Saver) (r : List ℤ) (piece rest : List ℕ) (m : ℕ) → piece_of s r ≡ piece → s.part < length piece → m ≤ length (rest_of s r)
      → (s.part + m < length piece → Held (partly s (s.part + m)) (drop (s.part + m) piece ++ rest))
      → Held (onward s (length r) (as_number s.sum piece % prime)) rest
      → (u : List ℕ) × Held (moved s r m) u × (take m (rest_of s r) ++ u ≡ drop s.part piece ++ rest)
  stepped s r piece rest m e h n more whole =
      let f : from_of s r ≡ s.part = sym (start-in s.part (length (piece_of s r)) (omega (arith, ap length e))) in
      let left : rest_of s r ≡ drop s.part piece = rest-is s r ∙ ap₂ drop f e in
      let size : length (drop s.part piece) ≡ length piece - s.part = length-drop s.part piece in
      elim (dec_lt (s.part + m) (length piece)) [
        | yes k ↦ (
          drop (s.part + m) piece ++ rest,
          subst (λ v. Held v (drop (s.part + m) piece ++ rest))
              (ap (λ i. partly s (i + m)) (sym f) ∙ moved-part s r m (omega (arith, f, ap length e, k))) (more k),
          ap (λ l. take m l ++ (drop (s.part + m) piece ++ rest)) left
              ∙ sym (append_assoc (take m (drop s.part piece)) (drop (s.part + m) piece) rest)
              ∙ ap (λ l. (take m (drop s.part piece) ++ l) ++ rest) (sym (drop-drop m s.part piece))
              ∙ ap (λ l. l ++ rest) (take-append-drop m (drop s.part piece)),
        )
        | no k ↦ (
          rest,
          subst (λ v. Held v rest)
              (ap (λ l. onward s (length r) (as_number s.sum l % prime)) (sym e) ∙ moved-whole s r m (omega (arith, f, ap length e, k))) whole,
          ap (λ l. take m l ++ rest) left ∙ ap (λ l. l ++ rest) (take_all m (drop s.part piece) (omega (arith, size, k))),
        )
      ]

  -- the row that is begun is in its range, and divides
  number_passed : (s : Saver) (r : List ℤ) → row_number s r ≡ 0 → begins s ≡ true → (row_fits s r ≡ true) × (row_divides s r ≡ true)
  unfolding row_number
  number_passed s r e b = go (begins s) b (row_fits s r) refl (row_divides s r) refl e
    where
      go : (t : Bool) → t ≡ true → (u : Bool) → row_fits s r ≡ u → (v : Bool) → row_divides s r ≡ v → ◌≡◌ {A = ℕ} (pick t (pick u (pick v 0 22) 7) 0) 0
          → (row_fits s r ≡ true) × (row_divides s r ≡ true)
      go true z true y true w x = (y, w)
      go true z true y false w x = absurd (omega arith)
      go true z false y v w x = absurd (omega arith)
      go false z u y v w x = let d : ◌≡◌ {A = ℕ} 0 1 = ap (λ b. pick b 1 0) z in absurd (omega arith)

  asked_here : (pl : Place) (g m c : ℕ) → (0 < g + m → Asked pl) → row_number (saver pl g m c 1) (row pl) ≡ 0 → Asked pl
  unfolding row_fits row_divides step_of begins
  asked_here pl zero zero c asked e = number_passed (saver pl 0 0 c 1) (row pl) e refl
  asked_here pl zero (suc m) c asked e = asked (omega arith)
  asked_here pl (suc g) m c asked e = asked (omega arith)

  held_on : (s : Saver) (t : List ℕ) (m : ℕ) → Held s t → s.phase < 3 → row_number s (row_of s p) ≡ 0 → m ≤ length (rest_of s (row_of s p)) → Steps s m t
  held_on _ _ m (head k h) ph free n =
      let s : Saver = saver nowhere 0 k 0 0 in
      stepped s (row_of s p) header (rows_of (wanted sh) ++ check 0 (header ++ rows_of (wanted sh))) m (sym (piece-head s (row_of s p) refl)) h n
      (λ z. head (k + m) z)
      (subst (λ v. Held v (rows_of (wanted sh) ++ check 0 (header ++ rows_of (wanted sh))))
      (at-row-is s (first_place sh) (as_number 0 header % prime) ∙ on-head s (length (row_of s p)) (as_number 0 header % prime) refl)
      (subst (Held _) (ap (λ u. rows_of (wanted sh) ++ u) (sym (check-on 0 header (rows_of (wanted sh)))))
      (at_rows (first_place sh) (wanted sh) (as_number 0 header % prime) o.first (λ y z. z) (remains _) (λ y z. inl z))))
  held_on _ _ m (group pl x l g k c t left w cs in_row h asked but e) ph free n =
      let s : Saver = saver pl g k c 1 in
      let done : Asked pl = asked_here pl g k c asked (ap (row_number s) (sym (row_is pl g k c 1)) ∙ free) in
      let c' : ℕ = as_number c (group_at x g) % prime in
      stepped s (row_of s p) (group_at x g) (t ++ check c (group_at x g ++ t)) m
      (ap (piece_of s) (row_is pl g k c 1) ∙ piece_is pl x l left w done.0 g k c) h n
      (λ z. group pl x l g (k + m) c t left w cs in_row z (λ y. done) but e)
      (subst (λ v. Held v (t ++ check c (group_at x g ++ t))) (ap (λ r. onward s (length r) c') (sym (row_is pl g k c 1)))
      (subst (Held _) (ap (λ u. t ++ u) (sym (check-on c (group_at x g) t)))
      (elim (dec_lt (16 * (g + 1)) (columns_of x)) [ yes z ↦ more z done c' (remains _) | no z ↦ last (omega (arith, z)) done c' (remains _) ])))
    where
      s : Saver
      s = saver pl g k c 1

      width : length (row pl) ≡ columns_of x
      width = row-length pl x l left w

      more : 16 * (g + 1) < columns_of x → Asked pl → (c' : ℕ) → c' < prime
          → Held (onward s (length (row pl)) c') (t ++ check c' t)
      more z done c' small =
          subst (λ v. Held v (t ++ check c' t))
          (group-more s (length (row pl)) c' (omega (arith, width, z)) ∙ on-group s (length (row pl)) c' (λ y. omega arith) refl)
          (at-group pl x l (g + 1) c' left w small z (λ y. done) but t (sym e))

      last : columns_of x ≤ 16 * (g + 1) → Asked pl → (c' : ℕ) → c' < prime → Held (onward s (length (row pl)) c') (t ++ check c' t)
      last z done c' small =
          let end : t ≡ rows_of l = sym e ∙ ap (λ u. u ++ rows_of l) (groups_none x (g + 1) z) in
          subst (λ v. Held v (t ++ check c' t))
          (at-row-is s (next_place sh pl) c' ∙ group-last s (length (row pl)) c' (omega (arith, width, z))
          ∙ on-group s (length (row pl)) c' (λ y. omega arith) refl)
          (subst (λ u. Held (saver (next_place sh pl) 0 0 c' (pick (eqb (next_place sh pl).level 0) 2 1)) (u ++ check c' u)) (sym end)
          (at_rows (next_place sh pl) l c' (o.next pl x l left).2 (later x l w) small (good-next x l but (good pl x l left w done))))
  held_on _ _ m (sum pl k c h cs but) ph free n =
      let s : Saver = saver pl 0 k c 2 in
      let r = stepped s (row_of s p) (bytes_of 4 c) [] m (sym (piece-sum s (row_of s p) (λ y. omega arith) (λ y. omega arith)))
      (omega (arith, h, bytes-length 4 c)) n
      (λ z. subst (Held _) (sym (append-nil _)) (sum pl (k + m) c (omega (arith, z, bytes-length 4 c)) cs but))
      (subst (λ v. Held v []) (on-sum s (length (row_of s p)) _ (λ y. omega arith) (λ y. omega arith)) (over pl but)) in
      (r.0, r.1, r.2 ∙ append-nil _)
  held_on _ _ m (over pl but) ph free n = absurd (omega arith)

  -- ---- so the bytes written are the first of the file, and at the end all of it
  begun : Held (fresh sh q) (file_of sh q P)
  unfolding file_of body_of
  begun =
      subst (Held (fresh sh q))
      (ap (λ u. u ++ (rows_of (wanted sh) ++ check 0 (header ++ rows_of (wanted sh)))) (drop-0 header)
      ∙ sym (append_assoc header (rows_of (wanted sh)) (check 0 (header ++ rows_of (wanted sh)))))
      (head 0 header-some)

  went-held : (b : List ℕ) (s : Saver) → Went p (fresh sh q) b s → (t : List ℕ) × Held s t × (b ++ t ≡ file_of sh q P)
  went-held _ _ here = (file_of sh q P, begun, refl)
  went-held _ _ (on {b} {s} m w ph free some n) =
      let r = went-held b s w in
      let u = held_on s r.0 m r.1 ph free n in
      (u.0, u.1, append_assoc b (take m (rest_of s (row_of s p))) u.0 ∙ ap (λ l. b ++ l) u.2 ∙ r.2)

  over_none : (s : Saver) (t : List ℕ) → Held s t → 3 ≤ s.phase → (t ≡ []) × GoodBut []
  over_none _ _ (head k h) z = absurd (omega arith)
  over_none _ _ (group pl x l g k c t left w cs in_row h asked but e) z = absurd (omega arith)
  over_none _ _ (sum pl k c h cs but) z = absurd (omega arith)
  over_none _ _ (over pl but) z = (refl, but)

  pub saved : (b : List ℕ) (s : Saver) → Went p (fresh sh q) b s → (t : List ℕ) × (b ++ t ≡ file_of sh q P) × (3 ≤ s.phase → t ≡ [])
  saved b s w = let r = went-held b s w in (r.0, r.2, λ h. (over_none s r.0 r.1 h).0)

  -- and where it is over, the plane has a file
  pub saved-fits : (b : List ℕ) (s : Saver) → Went p (fresh sh q) b s → 3 ≤ s.phase → sh.x < 65536 → sh.y < 65536 → Fits sh q P
  unfolding times
  saved-fits b s w end hx hy =
      record {
        step = pass.step.0;
        levels = pass.deep.0;
        across = hx;
        down = hy;
        width = omega (arith, pass.wide.1, width_small);
        height = omega (arith, pass.high.1, height-small);
        small = λ k b r i h. (goods k b r h).0 i;
        multiple = λ k b r i h. (goods k b r h).1 i;
      }
    where
      but : GoodBut []
      but = let r = went-held b s w in (over_none s r.0 r.1 end).1

      goods : (k : ℕ) (b : Band) (r : ℕ) → Kept (columns sh) (rows sh) sh.levels k b r → Good (row_name k b r)
      goods k b r h = ⊎_elim (λ z. absurd (omega arith)) (λ g. g) (but (row_name k b r) (kept-wanted sh pass.deep.0 k b r h))

  -- ---- no row of a plane that can be saved is turned away
  module _ (can : Savable sh q P) where
    row-fits : (pl : Place) (x : RowName) (l : List RowName) → o.Left pl (x ∷ l) → Wanted x l → row_fits (saver pl 0 0 0 1) (row pl) ≡ true
    unfolding row_fits
    row-fits pl x l left w = each-every (length (row pl)) _ (λ i h. le-leb _ _ (one i (omega (arith, row-length pl x l left w, h))))
      where
        one : (i : ℕ) → i < columns_of x → nat_abs (at (row pl) i) ≤ range (filter_of sh.filter) (min pl.level (filter_of sh.filter).levels)
        one i h =
            let e = ap nat_abs (row-at pl x l left w i h) in
            let top : min pl.level (filter_of sh.filter).levels ≡ x.level =
            omega (arith, (place-in sh pl (inside pl x l left w)).most, pass.deep.1, level-is pl x l left w) in
            let same = ap (range (filter_of sh.filter)) top in
            omega (arith, e, same, can.ranged x.level x.band x.row i (keeps pl x l left w) h)

    row-divides : (pl : Place) (x : RowName) (l : List RowName) → o.Left pl (x ∷ l) → Wanted x l → row_divides (saver pl 0 0 0 1) (row pl) ≡ true
    unfolding row_divides step_of
    row-divides pl x l left w = go (eqb pl.band 0) refl
      where
        other : eqb pl.band 0 ≡ false → 0 < code x.band
        other e = elim (dec_lt 0 (code x.band)) [
          | yes h ↦ h
          | no h ↦ (let z : ◌≡◌ {A = ℕ} 1 0 =
              ap (λ t. pick t 1 0) (sym (eq-eqb pl.band 0 (omega (arith, h, code_is pl x l left w))) ∙ e) in absurd (omega arith))
        ]

        one : eqb pl.band 0 ≡ false → (i : ℕ) → i < length (row pl) → is_multiple q (at (row pl) i) ≡ true
        one e i h =
            let j : i < columns_of x = omega (arith, row-length pl x l left w, h) in
            ap (is_multiple q) (row-at pl x l left w i j)
            ∙ is-multiple q (P (start_at x + i)) pass.step.0 (can.multiple x.level x.band x.row i (keeps pl x l left w) j (other e))

        go : (t : Bool) → eqb pl.band 0 ≡ t → every (length (row pl)) (λ i. is_multiple (pick t 1 q) (at (row pl) i)) ≡ true
        go true e = each-every (length (row pl)) _ (λ i h. multiple-one 1 (at (row pl) i) refl)
        go false e = each-every (length (row pl)) _ (one e)

    free-row : (s : Saver) (r : List ℤ) → row_fits s r ≡ true → row_divides s r ≡ true → row_number s r ≡ 0
    unfolding row_number
    free-row s r e f = rw (e, f) (go (begins s))
      where
        go : (t : Bool) → ◌≡◌ {A = ℕ} (pick t 0 0) 0
        go true = refl
        go false = refl

    not-begun : (s : Saver) → (s.phase ≡ 1 → ⊥) → row_number s (row_of s p) ≡ 0
    not-begun s h = sym (number-none s (row_of s p) (sym (first-phase s h)))

    held-free : (s : Saver) (t : List ℕ) → Held s t → row_number s (row_of s p) ≡ 0
    unfolding row_fits row_divides step_of
    held-free _ _ (head k h) = not-begun (saver nowhere 0 k 0 0) (λ z. omega arith)
    held-free _ _ (group pl x l g k c t left w cs in_row h asked but e) =
        ap (row_number (saver pl g k c 1)) (row_is pl g k c 1)
        ∙ free-row (saver pl g k c 1) (row pl) (row-fits pl x l left w) (row-divides pl x l left w)
    held-free _ _ (sum pl k c h cs but) = not-begun (saver pl 0 k c 2) (λ z. omega arith)
    held-free _ _ (over pl but) = not-begun (saver pl 0 0 0 3) (λ z. omega arith)

    pub went-free : (b : List ℕ) (s : Saver) → Went p (fresh sh q) b s → row_number s (row_of s p) ≡ 0
    went-free b s w = let r = went-held b s w in held-free s r.0 r.1

-- ---- every list of calls
went-more : {p : List ℤ} {s₀ s : Saver} {b : List ℕ} (c : List ℕ) (s' : Saver) → Went p s₀ b s → Went p s c s' → Went p s₀ (b ++ c) s'
went-more {p} {s₀} {s} {b} _ _ w here = subst (λ l. Went p s₀ l s) (sym (append-nil b)) w
went-more {p} {s₀} {s} {b} _ _ w (on {b = c} {s = v} m x ph free some n) =
    subst (λ l. Went p s₀ l (moved v (row_of v p) m)) (append_assoc b c (take m (rest_of v (row_of v p)))) (on m (went-more c v w x) ph free some n)

pub take_0 : (l : List ℕ) → take 0 l ≡ []
take_0 [] = refl
take_0 (x ∷ l) = refl

pub calls-went : {p : List ℤ} {s₀ : Saver} (b : List ℕ) (s : Saver) → Calls p s₀ b s → Went p s₀ b s
calls-went _ _ none = here
calls-went {p} {s₀} _ _ (call {b} {s} before after r w v) =
    elim (dec_lt 0 (save_number s (length p))) [
      | yes h ↦ same (calls-went b s w) (v.refused h).1 (v.refused h).2
      | no h ↦ went-more (take r.written after) r.saver (calls-went b s w) (v.done (omega (arith, h))).went
    ]
  where
    same : Went p s₀ b s → r.written ≡ 0 → r.saver ≡ s → Went p s₀ (b ++ take r.written after) r.saver
    same z e f =
        subst (λ v. Went p s₀ (b ++ take r.written after) v) (sym f)
        (subst (λ l. Went p s₀ l s) (sym (append-nil b) ∙ ap (λ l. b ++ l) (sym (take_0 after) ∙ ap (λ n. take n after) (sym e))) z)

-- the bytes written are the first of the file, and when it is over all of it
pub calls-saved : (sh : Shape) (q : ℕ) → set_up_number sh q ≡ 0 → (p : List ℤ) → sh.width * sh.height ≤ length p →
    (b : List ℕ) (s : Saver) → Calls p (fresh sh q) b s → (t : List ℕ) × (b ++ t ≡ file_of sh q (at p)) × (3 ≤ s.phase → t ≡ [])
calls-saved sh q ok p long b s w = saved sh q ok p long b s (calls-went b s w)

-- and then the plane has a file: the one that is written, and no other plane's (`file-told`)
pub calls-fit : (sh : Shape) (q : ℕ) → set_up_number sh q ≡ 0 → (p : List ℤ) → sh.width * sh.height ≤ length p →
    (b : List ℕ) (s : Saver) → Calls p (fresh sh q) b s → 3 ≤ s.phase → sh.x < 65536 → sh.y < 65536 → Fits sh q (at p)
calls-fit sh q ok p long b s w = saved-fits sh q ok p long b s (calls-went b s w)

-- 7 and 22 never come of a plane that can be saved
pub calls-free : (sh : Shape) (q : ℕ) → set_up_number sh q ≡ 0 → (p : List ℤ) → sh.width * sh.height ≤ length p → Savable sh q (at p) →
    (b : List ℕ) (s : Saver) → Calls p (fresh sh q) b s → row_number s (row_of s p) ≡ 0
calls-free sh q ok p long can b s w = went-free sh q ok p long can b s (calls-went b s w)

-- a call with room for a byte writes one, unless the file is over or the row that is to be begun is turned away
pub goes-forward : (s : Saver) (p : List ℤ) (before after : List ℕ) (r : Saved) → Saves s p before after r → save_number s (length p) ≡ 0 → 0 < length before →
    s.phase < 3 → row_number s (row_of s p) ≡ 0 → 0 < r.written
goes-forward s p before after r v ok room ph free = elim (dec_lt 0 r.written) [ yes h ↦ h | no h ↦ absurd (none_left (omega (arith, h))) ]
  where
    ran : Ran s p before after r
    ran = v.done ok

    none_left : r.written ≡ 0 → ⊥
    none_left e =
        let f : r.saver ≡ s =
        nothing_written (take r.written after) r.saver ran.went (ap (λ n. length (take n after)) e ∙ ap length (take_0 after)) in
        let g : stop_of r.saver p r.written (length before) ≡ 0 =
        ap₂ (λ z n. stop_of z p n (length before)) f e ∙ sym (stop-row s p 0 (length before) room ph) ∙ free in
        omega (arith, ran.stops, g)
