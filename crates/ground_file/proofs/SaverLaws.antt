-- The saver's definitions as its code takes them, case by case. Assumes nothing.
use mathlib.Core.Path.{◌≡◌, refl, sym, ap, ap₂, subst, ◌∙◌}
use mathlib.Core.Bool.{Bool, true, false, ◌&&◌}
use mathlib.Core.List.{List, [], ◌∷◌}
use Prim.Native.Nat.{ℕ, ◌+◌, ◌-◌, ◌*◌, ◌%◌, ◌^◌, ◌≤◌, ◌<◌, min}
use native.Mathlib.Omega.{arith}
use native.Mathlib.Decide.{dec_lt}
use lib.IntN.{ℤ, pos, ◌-ℤ◌}
use lib.Signed.{mag}
use lib.Dec.{leb, ltb, eqb}
use lib.ListN.{length, take, drop, length-drop, length-take, length-append}
use lib.Seq.{paste, take-paste, drop-paste, length-paste, drop-drop}
use borrow.Author.Tests.{lt-ltb, le-ltb, lt-leb, le-leb, eq-eqb, ne_eqb, ltb-true, leb-false}
use Rattle.numbers.specs.Signal.{at, pick, both}
use Rattle.numbers.specs.Tests.{every}
use Rattle.numbers.proofs.TestLaws.{every-same, each-every}
use Rattle.areas.specs.Areas.{between}
use Rattle.wavelet.specs.Limits.{range}
use Rattle.wavelet.specs.Shape.{columns, rows}
use Rattle.wavelet.specs.ViewCall.{view_question, view_start, view_length, view_row}
use Rattle.level.proofs.AdmitLaws.{abs-between}
use Rattle.filters.specs.Filters.{filter_of}
use Rattle.reader_order.specs.declared.Place.{Place}
use Rattle.reader_order.specs.Order.{first_place, next_place, row_at}
use Rattle.ground_file.specs.declared.saver.Saver.{Saver}
use Rattle.ground_file.specs.Groups.{bytes_of, group_of}
use Rattle.ground_file.specs.File.{header_of, listed, as_number, prime}
use Rattle.text.specs.Text.{Wrote}
use Rattle.text.proofs.TextLaws.{wrote-front}
use Rattle.ground_file.specs.Values.{sign_of, kept, is_multiple}
use Rattle.ground_file.specs.Saving.{saver_at, start_of, row_of, step_of, piece_of, at_row, onward, partly, from_of, rest_of, moved, begins, row_fits, row_divides}
use Rattle.ground_file.specs.Saving.{row_number, stop_of, Inside, Went, here, on, Ran, of_saved}
use Rattle.ground_file.specs.declared.saver.Turn.{Turn}
use Rattle.std.proofs.Common.{Ok, Err}
use Rattle.refusal.specs.declared.Refusal.{Refusal}
use Rattle.refusal.specs.Numbers.{number}
use Rattle.ground_file.proofs.AnswerLaws.{number-above}

pub level-none : (k : ℕ) → k ≡ 0 → ◌≡◌ {A = ℕ} 2 (pick (eqb k 0) 2 1)
level-none k e = rw (eq-eqb k 0 e) refl

pub level-some : (k : ℕ) → (k ≡ 0 → ⊥) → ◌≡◌ {A = ℕ} 1 (pick (eqb k 0) 2 1)
level-some k e = rw (ne_eqb k 0 e) refl

pub start-in : (m n : ℕ) → m < n → m ≡ start_of m n
unfolding start_of
start-in m n h = rw (lt-ltb m n h) refl

pub start-past : (m n : ℕ) → n ≤ m → n - 1 ≡ start_of m n
unfolding start_of
start-past m n h = rw (le-ltb m n h) refl

pub start-below : (m n : ℕ) → 0 < n → start_of m n < n
unfolding start_of
start-below m n h = go (ltb m n) refl
  where
    go : (t : Bool) → ltb m n ≡ t → pick t m (n - 1) < n
    go true e = ltb-true m n e
    go false e = omega arith

pub multiple-one : (q : ℕ) (v : ℤ) → 1 ≡ q → is_multiple q v ≡ true
unfolding is_multiple
multiple-one q v e = rw (← e) (eq-eqb ((mag v + sign_of v) % 1) 0 (omega arith))

pub wrote_as : {l m : List ℕ} {r : ℕ} {o o' : List ℕ} → l ≡ m → Wrote l 0 r o o' → Wrote m 0 r o o'
wrote_as {r = r} {o = o} {o' = o'} e w = subst (λ q. Wrote q 0 r o o') e w

module _ (s : Saver) where
  pub step-one : s.place.band ≡ 0 → 1 ≡ step_of s
  unfolding step_of
  step-one e = rw (eq-eqb s.place.band 0 e) refl

  pub step-own : (s.place.band ≡ 0 → ⊥) → s.step ≡ step_of s
  unfolding step_of
  step-own e = rw (ne_eqb s.place.band 0 e) refl

  pub step-some : Inside s → 1 ≤ step_of s
  unfolding step_of
  step-some i = go (eqb s.place.band 0)
    where
      go : (t : Bool) → 1 ≤ pick t 1 s.step
      go true = omega arith
      go false = i.some

  -- ---- the piece
  module _ (row : List ℤ) where
    pub piece-head : s.phase ≡ 0 → header_of s.shape s.step ≡ piece_of s row
    unfolding piece_of
    piece-head e = rw (eq-eqb s.phase 0 e) refl

    pub piece-group : (q : ℕ) → (s.phase ≡ 0 → ⊥) → s.phase ≡ 1 → q ≡ step_of s
        → group_of (listed (min (length row - 16 * s.group) 16) (λ i. kept q (at row (16 * s.group + i)))) ≡ piece_of s row
    unfolding piece_of
    piece-group q n e f = rw (ne_eqb s.phase 0 n, eq-eqb s.phase 1 e, f) refl

    pub piece-sum : (s.phase ≡ 0 → ⊥) → (s.phase ≡ 1 → ⊥) → bytes_of 4 s.sum ≡ piece_of s row
    unfolding piece_of
    piece-sum n m = rw (ne_eqb s.phase 0 n, ne_eqb s.phase 1 m) refl

  -- ---- after the piece
  pub at-row : (p : Place) (c f : ℕ) → f ≡ pick (eqb p.level 0) 2 1 → saver_at s.shape s.step p 0 0 c f ≡ at_row s p c
  unfolding at_row
  at-row p c f e = ap (saver_at s.shape s.step p 0 0 c) e

  module _ (n c : ℕ) where
    pub group-more : 16 * (s.group + 1) < n → saver_at s.shape s.step s.place (s.group + 1) 0 c 1
        ≡ pick (ltb (16 * (s.group + 1)) n) (saver_at s.shape s.step s.place (s.group + 1) 0 c 1) (at_row s (next_place s.shape s.place) c)
    group-more h = rw (lt-ltb (16 * (s.group + 1)) n h) refl

    pub group-last : n ≤ 16 * (s.group + 1) → at_row s (next_place s.shape s.place) c
        ≡ pick (ltb (16 * (s.group + 1)) n) (saver_at s.shape s.step s.place (s.group + 1) 0 c 1) (at_row s (next_place s.shape s.place) c)
    group-last h = rw (le-ltb (16 * (s.group + 1)) n h) refl

    pub on-head : s.phase ≡ 0 → at_row s (first_place s.shape) c ≡ onward s n c
    unfolding onward
    on-head e = rw (eq-eqb s.phase 0 e) refl

    pub on-group : (s.phase ≡ 0 → ⊥) → s.phase ≡ 1
        → pick (ltb (16 * (s.group + 1)) n) (saver_at s.shape s.step s.place (s.group + 1) 0 c 1) (at_row s (next_place s.shape s.place) c)
        ≡ onward s n c
    unfolding onward
    on-group m e = rw (ne_eqb s.phase 0 m, eq-eqb s.phase 1 e) refl

    pub on-sum : (s.phase ≡ 0 → ⊥) → (s.phase ≡ 1 → ⊥) → saver_at s.shape s.step s.place 0 0 0 3 ≡ onward s n c
    unfolding onward
    on-sum m e = rw (ne_eqb s.phase 0 m, ne_eqb s.phase 1 e) refl

  -- ---- a row that is begun
  pub first-phase : (s.phase ≡ 1 → ⊥) → false ≡ begins s
  unfolding begins
  first-phase e = rw (ne_eqb s.phase 1 e) refl

  pub first_group : s.phase ≡ 1 → (s.group ≡ 0 → ⊥) → false ≡ begins s
  unfolding begins
  first_group p e = rw (eq-eqb s.phase 1 p, ne_eqb s.group 0 e) refl

  pub first_part : s.phase ≡ 1 → s.group ≡ 0 → eqb s.part 0 ≡ begins s
  unfolding begins
  first_part p g = rw (eq-eqb s.phase 1 p, eq-eqb s.group 0 g) refl

  module _ (row : List ℤ) where
    pub fits-is : (low high : ℤ) → low ≡ pos 0 -ℤ pos (range (filter_of s.shape.filter) (min s.place.level (filter_of s.shape.filter).levels))
        → high ≡ pos (range (filter_of s.shape.filter) (min s.place.level (filter_of s.shape.filter).levels))
        → every (length row) (λ i. between low high (at row i)) ≡ row_fits s row
    unfolding row_fits
    fits-is low high el eh =
        every-same (length row) _ _
        (λ i h. cc (el, eh, abs-between (range (filter_of s.shape.filter) (min s.place.level (filter_of s.shape.filter).levels)) (at row i)))

    pub divides-one : 1 ≡ step_of s → true ≡ row_divides s row
    unfolding row_divides
    divides-one e = sym (each-every (length row) (λ i. is_multiple (step_of s) (at row i)) (λ i h. multiple-one (step_of s) (at row i) e))

    pub divides-is : (q : ℕ) → q ≡ step_of s → every (length row) (λ i. is_multiple q (at row i)) ≡ row_divides s row
    unfolding row_divides
    divides-is q e = ap (λ k. every (length row) (λ i. is_multiple k (at row i))) e

    pub number-none : begins s ≡ false → 0 ≡ row_number s row
    unfolding row_number
    number-none e = rw e refl

    pub number-seven : begins s ≡ true → row_fits s row ≡ false → 7 ≡ row_number s row
    unfolding row_number
    number-seven e f = rw (e, f) refl

    pub number-no-file : begins s ≡ true → row_fits s row ≡ true → row_divides s row ≡ false → 22 ≡ row_number s row
    unfolding row_number
    number-no-file e f g = rw (e, f, g) refl

    pub number-row : begins s ≡ true → row_fits s row ≡ true → row_divides s row ≡ true → 0 ≡ row_number s row
    unfolding row_number
    number-row e f g = rw (e, f, g) refl

  module _ (p : List ℤ) (m n : ℕ) where
    pub stop-full : n ≤ m → 1 ≡ stop_of s p m n
    unfolding stop_of
    stop-full h = rw (le-leb n m h) refl

    pub stop-over : m < n → 3 ≤ s.phase → 1 ≡ stop_of s p m n
    unfolding stop_of
    stop-over h g = rw (lt-leb n m h, le-leb 3 s.phase g) refl

    pub stop-row : m < n → s.phase < 3 → row_number s (row_of s p) ≡ stop_of s p m n
    unfolding stop_of
    stop-row h g = rw (lt-leb n m h, lt-leb 3 s.phase g) refl

  -- ---- a piece, or part of it, written
  module _ (row : List ℤ) where
    pub rest-length : length (rest_of s row) ≡ length (piece_of s row) - from_of s row
    unfolding rest_of
    rest-length = length-drop (from_of s row) (piece_of s row)

    pub moved-part : (m : ℕ) → from_of s row + m < length (piece_of s row) → partly s (from_of s row + m) ≡ moved s row m
    unfolding moved
    moved-part m h = rw (lt-ltb (from_of s row + m) (length (piece_of s row)) h) refl

    pub moved-whole : (m : ℕ) → length (piece_of s row) ≤ from_of s row + m → onward s (length row) (as_number s.sum (piece_of s row) % prime) ≡ moved s row m
    unfolding moved
    moved-whole m h = rw (le-ltb (from_of s row + m) (length (piece_of s row)) h) refl

    pub piece-some : 0 < length (piece_of s row)
    unfolding piece_of header_of group_of bytes_of
    piece-some = go (eqb s.phase 0) (eqb s.phase 1)
      where
        g : List ℕ
        g = listed (min (length row - 16 * s.group) 16) (λ i. kept (step_of s) (at row (16 * s.group + i)))

        go : (t u : Bool) → 0 < length (pick t (header_of s.shape s.step) (pick u (group_of g) (bytes_of 4 s.sum)))
        go true u = omega arith
        go false true = omega arith
        go false false = omega arith

    -- n bytes of an area are the piece: m of them, from the first that is not written on, go to place a of the area o
    module _ (n from m a : ℕ) (o area₀ area : List ℕ) (w : Wrote (piece_of s row) 0 n area₀ area) (ef : from ≡ start_of s.part n)
        (em : m ≡ min (length (take n area) - from) (length o - a)) where
      abbrev count : ℕ
      count = min (length (rest_of s row)) (length o - a)

      pub long : n ≡ length (piece_of s row)
      long = omega (arith, w.place)

      start_is : from ≡ from_of s row
      start_is = ef ∙ ap (start_of s.part) long

      count-is : m ≡ count
      count-is =
          let e : length (take n area) ≡ length (piece_of s row) = ap length (wrote-front w) in
          omega (arith, em, e, rest-length, start_is)

      pub in-piece : (from < n) × (from + m ≤ n)
      in-piece =
          let e : length (take n area) ≡ length (piece_of s row) = ap length (wrote-front w) in
          let b : from < n = omega (arith, ef, start-below s.part n (omega (arith, long, piece-some))) in
          (b, omega (arith, b, em, e, long))

      pub at-is : a + m ≡ a + count
      at-is = ap (λ i. a + i) count-is

      pub area-is : (o' : List ℕ) → o' ≡ paste o a (drop from (take n area)) m → o' ≡ paste o a (rest_of s row) count
      unfolding rest_of
      area-is o' e =
          e ∙ ap (λ l. paste o a l m) (ap₂ drop start_is (wrote-front w)) ∙ ap (paste o a (drop (from_of s row) (piece_of s row))) count-is

      pub partly-is : from + m < n → partly s (from + m) ≡ moved s row count
      partly-is h =
          ap (partly s) (ap₂ ◌+◌ start_is count-is) ∙ moved-part count (omega (arith, h, start_is, count-is, long))

      pub whole_is : n ≤ from + m → (r : Saver) (c : ℕ) → c ≡ as_number s.sum (take n area) % prime → r ≡ onward s (length row) c → r ≡ moved s row count
      whole_is h r c ec er =
          er ∙ ap (onward s (length row)) (ec ∙ ap (λ l. as_number s.sum l % prime) (wrote-front w))
          ∙ moved-whole count (omega (arith, h, start_is, count-is, long))

-- ---- a saver at work
pub remains : (a : ℕ) → a % prime < prime
unfolding prime
remains a = omega arith

pub prime-some : 0 < prime
unfolding prime
prime-some = omega arith

module _ (s : Saver) (i : Inside s) where
  inside-at : (p : Place) (c : ℕ) → c < prime → Inside (at_row s p c)
  unfolding at_row
  inside-at p c h = record { some = i.some; step = i.step; filter = i.filter; levels = i.levels; group = omega arith; sum = h }

  inside_on : (n c : ℕ) → n < 2 ^ 61 → c < prime → Inside (onward s n c)
  unfolding onward
  inside_on n c small h = go (eqb s.phase 0) (eqb s.phase 1) (ltb (16 * (s.group + 1)) n) refl
    where
      go : (t u v : Bool) → ltb (16 * (s.group + 1)) n ≡ v → Inside (pick t (at_row s (first_place s.shape) c)
          (pick u
          (pick v (saver_at s.shape s.step s.place (s.group + 1) 0 c 1) (at_row s (next_place s.shape s.place) c))
          (saver_at s.shape s.step s.place 0 0 0 3)))
      go true u v e = inside-at (first_place s.shape) c h
      go false true true e = record {
        some = i.some;
        step = i.step;
        filter = i.filter;
        levels = i.levels;
        group = omega (arith, ltb-true (16 * (s.group + 1)) n e);
        sum = h;
      }
      go false true false e = inside-at (next_place s.shape s.place) c h
      go false false v e = record { some = i.some; step = i.step; filter = i.filter; levels = i.levels; group = omega arith; sum = prime-some }

  pub inside-moved : (row : List ℤ) (m : ℕ) → length row < 2 ^ 61 → Inside (moved s row m)
  unfolding moved
  inside-moved row m small = go (ltb (from_of s row + m) (length (piece_of s row)))
    where
      go : (t : Bool) → Inside (pick t (partly s (from_of s row + m)) (onward s (length row) (as_number s.sum (piece_of s row) % prime)))
      go true = record { some = i.some; step = i.step; filter = i.filter; levels = i.levels; group = i.group; sum = i.sum }
      go false = inside_on (length row) _ small (remains _)

-- a row is no longer than the plane
row-short : (s : Saver) (p : List ℤ) → length (row_of s p) ≤ length p
unfolding row_of view_row
row-short s p = go (eqb (view_question (length p) (columns s.shape) (rows s.shape) s.shape.levels s.place.level s.place.band
    (row_at s.shape s.place)) 0)
  where
    n : ℕ
    n = view_length (columns s.shape) s.place.level s.place.band

    f : ℕ
    f = view_start (columns s.shape) (rows s.shape) s.place.level s.place.band (row_at s.shape s.place)

    go : (t : Bool) → length (pick t (take n (drop f p)) []) ≤ length p
    go true = omega (arith, length-take n (drop f p), length-drop f p)
    go false = omega arith

-- a row that is turned away is so by 7 or 22
pub number-big : (s : Saver) (row : List ℤ) → 0 < row_number s row → 1 < row_number s row
unfolding row_number
number-big s row h = go (begins s) (row_fits s row) (row_divides s row) h
  where
    go : (t u v : Bool) → 0 < pick t (pick u (pick v 0 22) 7) 0 → 1 < pick t (pick u (pick v 0 22) 7) 0
    go false u v h = absurd (omega arith)
    go true false v h = omega arith
    go true true false h = omega arith
    go true true true h = absurd (omega arith)

-- nothing is written: the saver stays
pub nothing_written : {p : List ℤ} {s : Saver} (b : List ℕ) (s' : Saver) → Went p s b s' → length b ≡ 0 → s' ≡ s
nothing_written _ _ here e = refl
nothing_written {p} _ _ (on {b = b} {s = v} m x ph free some n) e =
    absurd (omega (arith, length-append b (take m (rest_of v (row_of v p))), length-take m (rest_of v (row_of v p)), some, n, e))

-- the saver is at `at` of an area, having begun as s₀ with the area before
pub record Running (p : List ℤ) (s₀ : Saver) (before : List ℕ) (s : Saver) (m : ℕ) (after : List ℕ) : Type 0 where
  pub inside : Inside s
  pub size : length after ≡ length before
  pub within : m ≤ length before
  pub past : drop m after ≡ drop m before
  pub went : Went p s₀ (take m after) s

pub running-start : (p : List ℤ) (s : Saver) (o : List ℕ) → Inside s → Running p s o s 0 o
running-start p s o i =
    record { inside = i; size = refl; within = omega arith; past = refl; went = subst (λ l. Went p s l s) (sym (front o)) here }
  where
    front : (l : List ℕ) → take 0 l ≡ []
    front [] = refl
    front (x ∷ l) = refl

module _ (p : List ℤ) (s₀ : Saver) (o : List ℕ) (s : Saver) (m : ℕ) (a : List ℕ) (r : Running p s₀ o s m a) (here : m < length a) (ph : s.phase < 3) where
  abbrev much : ℕ
  much = min (length (rest_of s (row_of s p))) (length a - m)

  rest_some : 0 < length (rest_of s (row_of s p))
  rest_some =
      omega (arith, rest-length s (row_of s p), start-below s.part (length (piece_of s (row_of s p))) (piece-some s (row_of s p)), piece-some s (row_of s p))

  step_room : (0 < much) × (m + much ≤ length a) × (much ≤ length (rest_of s (row_of s p)))
  step_room = (omega (arith, here, rest_some), omega (arith, here), omega arith)

  running-on : row_number s (row_of s p) ≡ 0 → (s' : Saver) (m' : ℕ) (a' : List ℕ) → length (row_of s p) < 2 ^ 61 → s' ≡ moved s (row_of s p) much → m' ≡ m + much
      → a' ≡ paste a m (rest_of s (row_of s p)) much → Running p s₀ o s' m' a'
  running-on free s' m' a' small es em ea =
      let k = step_room in
      let le : m ≤ length a = omega (arith, here) in
      record {
        inside = subst Inside (sym es) (inside-moved s r.inside (row_of s p) much small);
        size = ap length ea ∙ length-paste a m (rest_of s (row_of s p)) much k.1 k.2 ∙ r.size;
        within = omega (arith, em, k.1, r.size);
        past =
            ap₂ drop em ea ∙ drop-paste a m (rest_of s (row_of s p)) much le k.2 ∙ sym (drop-drop much m a) ∙ ap (drop much) r.past
            ∙ drop-drop much m o ∙ ap (λ n. drop n o) (sym em);
        went =
            subst (λ l. Went p s₀ l s') (sym (ap₂ take em ea ∙ take-paste a m (rest_of s (row_of s p)) much le k.2))
            (subst (Went p s₀ _) (sym es) (on much r.went ph free k.0 k.2));
      }

  -- of a row that is the one at the saver's place
  module _ (row : List ℤ) (er : row ≡ row_of s p) where
    row-at : row_number s (row_of s p) ≡ row_number s row
    row-at = ap (row_number s) (sym er)

    module _ (s' : Saver) (small : length p < 2 ^ 61) (es : s' ≡ moved s row (min (length (rest_of s row)) (length a - m))) where
      short : length (row_of s p) < 2 ^ 61
      short = omega (arith, small, row-short s p)

      moved-is : s' ≡ moved s (row_of s p) much
      moved-is = es ∙ ap (λ r. moved s r (min (length (rest_of s r)) (length a - m))) er

      module _ (m' : ℕ) (em : m' ≡ m + min (length (rest_of s row)) (length a - m)) where
        place_is : m' ≡ m + much
        place_is = em ∙ ap (λ r. m + min (length (rest_of s r)) (length a - m)) er

        pub less_by : length o - m' < length o - m
        less_by = omega (arith, place_is, step_room.0, here, r.size)

        pub running-by : 0 ≡ row_number s row → (a' : List ℕ) → a' ≡ paste a m (rest_of s row) (min (length (rest_of s row)) (length a - m))
            → Running p s₀ o s' m' a'
        running-by free a' ea =
            running-on (row-at ∙ sym free) s' m' a' short moved-is place_is (ea ∙ ap (λ r. paste a m (rest_of s r) (min (length (rest_of s r)) (length a - m))) er)

    -- where that is turned away
    module _ (why : Refusal) (no : number why ≡ row_number s row) where
      stops-by : number why ≡ stop_of s p m (length o)
      stops-by = no ∙ sym row-at ∙ stop-row s p m (length o) (omega (arith, here, r.size)) ph

      big : 1 < number why
      big = omega (arith, number-above why, no, number-big s row (omega (arith, number-above why, no)))

      -- having written nothing
      pub ran-refused : m ≡ 0 → Ran s₀ p o a (of_saved s₀ (Err why))
      ran-refused e =
          let same : s ≡ s₀ = nothing_written _ _ r.went (ap (λ n. length (take n a)) e ∙ none a) in
          let is : number why ≡ stop_of s₀ p 0 (length o) = stops-by ∙ ap₂ (λ v n. stop_of v p n (length o)) same e in
          record {
            size = r.size;
            room = omega arith;
            past = ap (λ n. drop n a) (sym e) ∙ r.past ∙ ap (λ n. drop n o) e;
            went = subst (λ n. Went p s₀ (take n a) s₀) e (subst (Went p s₀ (take m a)) same r.went);
            stops = omega (arith, is, big);
            answer = rw (← is, lt-ltb 1 (number why) big) refl;
          }
        where
          none : (l : List ℕ) → length (take 0 l) ≡ 0
          none [] = refl
          none (x ∷ l) = refl

      -- having written something
      pub ran-some : (m ≡ 0 → ⊥) → Ran s₀ p o a (of_saved s₀ (Ok (record { saver = s; at = m })))
      ran-some z = record {
        size = r.size;
        room = r.within;
        past = r.past;
        went = r.went;
        stops = omega (arith, stops-by, big);
        answer = rw (ne_eqb m 0 z) refl;
      }

-- no room is left, or the file is over
pub ran-over : (p : List ℤ) (s₀ : Saver) (o : List ℕ) (s : Saver) (m : ℕ) (a : List ℕ) → Running p s₀ o s m a → 1 ≡ stop_of s p m (length o)
    → Ran s₀ p o a (of_saved s₀ (Ok (record { saver = s; at = m })))
ran-over p s₀ o s m a r e = record {
  size = r.size;
  room = r.within;
  past = r.past;
  went = r.went;
  stops = omega (arith, e);
  answer = none (eqb m 0) ∙ ap (λ x. pick (both (eqb m 0) (ltb 1 x)) x 0) e;
}
  where
    none : (t : Bool) → ◌≡◌ {A = ℕ} 0 (pick (both t (ltb 1 1)) 1 0)
    none true = refl
    none false = refl
