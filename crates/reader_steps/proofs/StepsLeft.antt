-- The steps left, as a function of where the reader is, and what the machine does to them: the want is the first of them, and a row fed or drawn takes it off.
-- Assumes nothing.
use mathlib.Core.Bool.{Bool, true, false}
use mathlib.Core.Path.{◌≡◌, refl, sym, ap, ◌∙◌}
use mathlib.Core.List.{List, [], ◌∷◌, ◌++◌, append-nil, append_assoc}
use Prim.Native.Nat.{ℕ, zero, suc, ◌+◌, ◌-◌, ◌≤◌, ◌<◌}
use native.Mathlib.Omega.{arith}
use lib.Dec.{leb, ltb, eqb}
use borrow.Author.Tests.{lt-ltb, eq-eqb, ne_eqb, leb-true, leb-false}
use Rattle.numbers.specs.Signal.{pick, both}
use Rattle.lifting.specs.Line.{lo}
use Rattle.lifting.specs.Grid.{Side}
use Rattle.wavelet.specs.Bands.{Band, LL, HL, LH, HH, code, down}
use Rattle.wavelet.specs.Order.{RowName, row_name, handed_out, in_turn, first_set, set_row, set_has, rows_of, set_rows}
use Rattle.wavelet.specs.Steps.{Step, feed, draw, feed_all, set_of, sets_before, row_steps, set_steps, steps}
use Rattle.wavelet.proofs.StepLaws.{before-suc}
use Rattle.wavelet.specs.Levels.{next, side_at}
use Rattle.level.specs.Sets.{opens}
use Rattle.reader_steps.specs.Sets.{ahead, has_row, row_of, taking, first_row, makes, waiting, waits_at}
use Rattle.reader_steps.specs.Asked.{kept_at, asked, bands_from, those, look, first_code, next_band}
use Rattle.reader_steps.specs.Places.{has_cells, Spot, spot, band_at, last_of_set, next_up, past, beyond, descend, begins, enter, Ready}
use Rattle.reader_steps.proofs.Looks.{code_lt, Look, nothing, first, look_is}
use Rattle.reader_steps.proofs.OpenedSets.{sets-none, opens-yes, opened-row, row_next, makes-yes, makes-not, taking-row}
use Rattle.reader_steps.proofs.CellLaws.{cells-not, Empty, empty-row, empty-set, no-low}
use Rattle.reader_steps.proofs.ReadyLaws.{ready_up, ready-band}

pub data Each {A : Type 0} (P : A → Type 0) : List A → Type 0 where
  none : Each P []
  more : {x : A} {xs : List A} → P x → Each P xs → Each P (x ∷ xs)

-- ---- the rows of a set, by name
unfoldable pub names : ℕ → Side → ℕ → List Band → List RowName
names k H n [] = []
names k H n (b ∷ bs) = row_name k b (set_row H b n) ∷ names k H n bs

rows-names : (k : ℕ) (W H : Side) (n : ℕ) (p : Band → Bool) (bs : List Band) → Each (λ b. p b ≡ set_has W H b n) bs →
    rows_of k W H n bs ≡ names k H n (those p bs)
unfolding rows_of names those
rows-names k W H n p [] none = refl
rows-names k W H n p (b ∷ bs) (more q e) = rw (← q) (go (p b) (rows-names k W H n p bs e))
  where
    go : (t : Bool) → rows_of k W H n bs ≡ names k H n (those p bs) →
        pick t (row_name k b (set_row H b n) ∷ rows_of k W H n bs) (rows_of k W H n bs) ≡ names k H n (pick t (b ∷ those p bs) (those p bs))
    go true f = ap (λ r. row_name k b (set_row H b n) ∷ r) f
    go false f = f

-- all the rows of a set: at the last level those from LL on, else those from HL on
last-names : (k : ℕ) (W H : Side) (n : ℕ) → set_rows 0 k W H n ≡ names k H n (look true W H n 0)
unfolding set_rows handed_out look bands_from asked kept_at
last-names k W H n = rows-names k W H n (asked true W H n) (LL ∷ HL ∷ LH ∷ HH ∷ []) (more refl (more refl (more refl (more refl none))))

set-names : (l k : ℕ) (W H : Side) (n : ℕ) → set_rows (suc l) k W H n ≡ names k H n (look false W H n 1)
unfolding set_rows handed_out look bands_from asked kept_at
set-names l k W H n = rows-names k W H n (asked false W H n) (HL ∷ LH ∷ HH ∷ []) (more refl (more refl (more refl none)))

-- a set without a low row has no LL row
low-names : (W H : Side) (n : ℕ) → asked true W H n LL ≡ false → look true W H n 0 ≡ look true W H n 1
unfolding look bands_from those
low-names W H n e = rw e refl

-- the first of some in turn
turn-first : (c : ℕ) (f : ℕ → List Step) → in_turn (suc c) f ≡ f 0 ++ in_turn c (λ i. f (suc i))
unfolding in_turn
turn-first zero f = sym (append-nil (f 0))
turn-first (suc c) f = ap (λ t. t ++ f (suc c)) (turn-first c f) ∙ append_assoc (f 0) (in_turn c (λ i. f (suc i))) (f (suc c))

turn-same : (c : ℕ) (f g : ℕ → List Step) → ((i : ℕ) → f i ≡ g i) → in_turn c f ≡ in_turn c g
unfolding in_turn
turn-same zero f g e = refl
turn-same (suc c) f g e = rw (turn-same c f g e, e c) refl

-- ---- what is left, at suc l levels
module _ (f : ℕ) (W H : Side) (l : ℕ) where
  -- the rows that set n at level k + 1 still asks for, and all the steps of it
  abbrev pub rows_left : ℕ → ℕ → ℕ → List Step
  rows_left k n b = feed_all (names (suc k) (side_at k H) n (look (eqb (suc k) (suc l)) (side_at k W) (side_at k H) n b))

  abbrev set_left : ℕ → ℕ → ℕ → List Step
  set_left m k n = set_steps (ahead f) m (suc k) (side_at k W) (side_at k H) n

  -- the sets after set n that the row which waits for it needs
  abbrev more_sets : ℕ → ℕ → List Step
  more_sets k n = in_turn (set_of (ahead f) (side_at k H) (first_row f (side_at k H) n) - n) (λ i. set_left (l - k) k (suc n + i))

  -- until the row waited for is drawn: the rows that the set at this level still asks for, the sets after it that the row needs which it waits for, and so of
  -- each finer level
  unfoldable pub tail : ℕ → ℕ → ℕ → List Step
  tail zero n b = draw n ∷ []
  tail (suc k) n b = rows_left k n b ++ (more_sets k n ++ tail k (waiting f H k n) 1)

  abbrev pub tail_at : Spot → List Step
  tail_at q = tail q.level q.set q.band

  abbrev rest : ℕ → ℕ → List Step
  rest k n = more_sets k n ++ tail k (waiting f H k n) 1

  -- row r with what it needs, and c rows from row d on
  abbrev turn : ℕ → List Step
  turn r = row_steps (ahead f) H (set_steps (ahead f) l 1 W H) r ++ (draw r ∷ [])

  unfoldable pub later : ℕ → ℕ → List Step
  later zero d = []
  later (suc c) d = turn d ++ later c (suc d)

  unfoldable pub left_for : ℕ → ℕ → Spot → List Step
  left_for zero d p = []
  left_for (suc c) d p = tail_at p ++ later c (suc d)

  -- the steps left when d rows are drawn and the reader is at that place
  unfoldable pub steps_left : ℕ → Spot → List Step
  steps_left d p = left_for (H.length - d) d p

  -- ---- the rows left of a set
  rows_none : (k n b : ℕ) → look (eqb (suc k) (suc l)) (side_at k W) (side_at k H) n b ≡ [] → rows_left k n b ≡ []
  unfolding names feed_all
  rows_none k n b e = ap (λ xs. feed_all (names (suc k) (side_at k H) n xs)) e

  rows-some : (k n b : ℕ) (c : Band) → look (eqb (suc k) (suc l)) (side_at k W) (side_at k H) n b ≡ c ∷ look (eqb (suc k) (suc l)) (side_at k W) (side_at k H) n
      (code c + 1) → rows_left k n b ≡ feed (row_name (suc k) c (set_row (side_at k H) c n)) ∷ rows_left k n (code c + 1)
  unfolding names feed_all
  rows-some k n b c e = ap (λ xs. feed_all (names (suc k) (side_at k H) n xs)) e

  -- a row that completes its set leaves none of it
  pub last_none : (k n c : ℕ) → last_of_set W H (suc l) k n c ≡ true → look (eqb (suc k) (suc l)) (side_at k W) (side_at k H) n (c + 1) ≡ []
  unfolding last_of_set band_at next_band
  last_none k n c e = no_more _ (omega arith) _ e
    where
      no_more : (m : ℕ) → 4 ≤ m → (xs : List Band) → leb m (first_code xs) ≡ true → xs ≡ []
      no_more m h [] e = refl
      no_more m h (b ∷ bs) e = let p : m ≤ code b = unfold first_code in leb-true _ _ e in absurd (omega (arith, code_lt b))

  -- ---- the steps of a set
  -- at the last level they are its rows
  last-steps : (k n : ℕ) → k ≡ l → set_left 0 k n ≡ rows_left k n 0
  unfolding set_steps
  last-steps k n e = rw (eq-eqb (suc k) (suc l) (omega arith), last-names (suc k) (side_at k W) (side_at k H) n) refl

  -- else what its low row needs of the next level, and its rows
  abbrev rows_below : ℕ → ℕ → ℕ → List Step
  rows_below m k r = row_steps (ahead f) (side_at k H) (set_steps (ahead f) m (suc k) (side_at k W) (side_at k H)) r

  on-steps : (m k n : ℕ) → k + suc m ≡ l →
      set_left (suc m) k n ≡ pick (has_row H (suc k) n) (rows_below m (suc k) (row_of H (suc k) n)) [] ++ rows_left k n 1
  unfolding set_steps has_row row_of side_at
  on-steps m k n e = rw (ne_eqb (suc k) (suc l) (λ z. omega arith), set-names m (suc k) (side_at k W) (side_at k H) n) refl

  -- the steps of a set without a low row
  alone-steps : (m k n : ℕ) → k + m ≡ l → has_row H (suc k) n ≡ false → set_left m k n ≡ rows_left k n 1
  alone-steps zero k n e h =
      let z : k ≡ l = omega arith in
      last-steps k n z
      ∙ ap (λ xs. feed_all (names (suc k) (side_at k H) n xs))
      (rw (eq-eqb (suc k) (suc l) (omega arith)) (low-names (side_at k W) (side_at k H) n (no_row (side_at k W) (side_at k H) (unfold has_row in h))))
    where
      no_row : (W H : Side) → leb (first_set H lo) n ≡ false → asked true W H n LL ≡ false
      no_row W H h = unfold asked kept_at down in no-low W H n (omega (arith, leb-false (first_set H lo) n h)) LL refl
  alone-steps (suc m) k n e h = on-steps m k n e ∙ ap (λ t. pick t (rows_below m (suc k) (row_of H (suc k) n)) [] ++ rows_left k n 1) h

  no_rows : (m k r : ℕ) → Empty (side_at k W) (side_at k H) → rows_below m k r ≡ []
  no_rows m k r e = empty-row f (side_at k H) _ r (λ n. empty-set f m (suc k) (side_at k W) (side_at k H) n e)

  below-no : (m k r : ℕ) → opens (ahead f) (side_at k H) r ≡ false → rows_below m k r ≡ []
  unfolding row_steps in_turn
  below-no m k r o = rw (sets-none f (side_at k H) r o) refl

  -- a row that opens sets: the first of them, and the rest
  below-first : (m k n r : ℕ) → k + m ≡ l → opens (ahead f) (side_at k H) r ≡ true → taking H k r ≡ n →
      rows_below m k r ++ tail k n 1 ≡ set_left m k (sets_before (ahead f) (side_at k H) r) ++ rest k (sets_before (ahead f) (side_at k H) r)
  unfolding row_steps waiting
  below-first m k n r e o t =
      let left : l - k ≡ m = omega arith in
      let z : s + 0 ≡ s = omega arith in
      let c : sets_before (ahead f) S (suc r) - s ≡ suc (set_of (ahead f) S r - s) = omega (arith, before-suc (ahead f) S r, opens-yes f S r o) in
      rw (left, opened-row f S r o, t)
      (ap (λ i. in_turn i (λ i. set_left m k (s + i)) ++ tail k n 1) c
      ∙ ap (λ u. u ++ tail k n 1) (turn-first (set_of (ahead f) S r - s) (λ i. set_left m k (s + i)))
      ∙ ap (λ i. (set_left m k i ++ in_turn (set_of (ahead f) S r - s) (λ i. set_left m k (s + suc i))) ++ tail k n 1) z
      ∙ append_assoc (set_left m k s) (in_turn (set_of (ahead f) S r - s) (λ i. set_left m k (s + suc i))) (tail k n 1)
      ∙ ap (λ u. set_left m k s ++ (u ++ tail k n 1)) (turn-same (set_of (ahead f) S r - s) _ _ (λ i. ap (set_left m k) (omega arith))))
    where
      S : Side
      S = side_at k H

      s : ℕ
      s = sets_before (ahead f) (side_at k H) r

  -- where a set begins, as the search for it has it
  pub begins-is : (m k n : ℕ) → k + m ≡ l → begins f W H (suc l) (suc k) n ≡
      pick (leb (first_set (side_at k H) lo) n)
      (descend f m (suc k) (next (side_at k W)) (next (side_at k H)) n (n - first_set (side_at k H) lo)) (spot (suc k) n 1)
  unfolding begins has_row row_of side_at
  begins-is m k n e = let z : suc l - suc k ≡ m = omega arith in rw z refl

  -- where number n of level k begins, if the steps of the set are left that it begins with
  descend-tail : (m k n r : ℕ) → k + m ≡ l → taking H k r ≡ n →
      ((i : ℕ) → tail_at (begins f W H (suc l) (suc k) i) ≡ set_left m k i ++ rest k i) →
      tail_at (descend f (suc m) k (side_at k W) (side_at k H) n r) ≡ rows_below m k r ++ tail k n 1
  unfolding descend
  descend-tail m k n r e t y = go (has_cells (side_at k W) (side_at k H)) refl (opens (ahead f) (side_at k H) r) refl
    where
      S : Side
      S = side_at k H

      s : ℕ
      s = sets_before (ahead f) S r

      to : Spot
      to = pick (leb (first_set S lo) s) (descend f m (suc k) (next (side_at k W)) (next S) s (s - first_set S lo)) (spot (suc k) s 1)

      go : (c : Bool) → has_cells (side_at k W) S ≡ c → (o : Bool) → opens (ahead f) S r ≡ o →
          tail_at (pick (both c o) to (spot k n 1)) ≡ rows_below m k r ++ tail k n 1
      go false c o _ = ap (λ u. u ++ tail k n 1) (sym (no_rows m k r (cells-not (side_at k W) S c)))
      go true c false o = ap (λ u. u ++ tail k n 1) (sym (below-no m k r o))
      go true c true o = ap tail_at (sym (begins-is m k s e)) ∙ y s ∙ sym (below-first m k n r e o t)

  begin-tail : (m k n : ℕ) → k + m ≡ l → tail_at (begins f W H (suc l) (suc k) n) ≡ set_left m k n ++ rest k n
  unfolding begins descend tail
  begin-tail zero k n e = go (has_row H (suc k) n) refl
    where
      go : (t : Bool) → has_row H (suc k) n ≡ t →
          tail_at (pick t (descend f (suc l - suc k) (suc k) (side_at (suc k) W) (side_at (suc k) H) n (row_of H (suc k) n)) (spot (suc k) n 1))
          ≡ set_left 0 k n ++ rest k n
      go false h = ap (λ u. u ++ rest k n) (sym (alone-steps 0 k n e h))
      go true h = let z : suc l - suc k ≡ 0 = omega arith in rw z (ap (λ u. u ++ rest k n) (sym (last-steps k n (omega arith))))
  begin-tail (suc m) k n e = go (has_row H (suc k) n) refl (λ i. begin-tail m (suc k) i (omega arith))
    where
      go : (t : Bool) → has_row H (suc k) n ≡ t → ((i : ℕ) → tail_at (begins f W H (suc l) (suc (suc k)) i) ≡ set_left m (suc k) i ++ rest (suc k) i) →
          tail_at (pick t (descend f (suc l - suc k) (suc k) (side_at (suc k) W) (side_at (suc k) H) n (row_of H (suc k) n)) (spot (suc k) n 1))
          ≡ set_left (suc m) k n ++ rest k n
      go false h ih = ap (λ u. u ++ rest k n) (sym (alone-steps (suc m) k n e h))
      go true h ih =
          let z : suc l - suc k ≡ suc m = omega arith in
          rw z
          (descend-tail m (suc k) n (row_of H (suc k) n) (omega arith) (taking-row H (suc k) n h) ih
          ∙ sym (append_assoc (rows_below m (suc k) (row_of H (suc k) n)) (rows_left k n 1) (rest k n))
          ∙ ap (λ u. u ++ rest k n) (sym (on-steps m k n e ∙ ap (λ t. pick t (rows_below m (suc k) (row_of H (suc k) n)) [] ++ rows_left k n 1) h)))

  enter-tail : (d : ℕ) → tail_at (enter f W H (suc l) d) ≡ turn d
  unfolding enter tail side_at
  enter-tail d = descend-tail l 0 d d (omega arith) (unfold taking in refl) (λ i. begin-tail l 0 i (omega arith))

  -- ---- past a set
  -- one that does not make the row which waits leaves the next to be asked for
  rest-next : (k n : ℕ) → makes f (side_at k H) n ≡ false → set_left (l - k) k (suc n) ++ rest k (suc n) ≡ rest k n
  unfolding waiting
  rest-next k n e =
      let z : set_of (ahead f) S (first_row f S n) - n ≡ suc c = omega (arith, makes-not f S n e) in
      let u : suc n + 0 ≡ suc n = omega arith in
      rw (row_next f S n e)
      (sym (append_assoc (g (suc n)) (in_turn c (λ i. g (suc (suc n) + i))) t)
      ∙ ap (λ (w : List Step). (g (suc n) ++ w) ++ t) (turn-same c (λ i. g (suc (suc n) + i)) (λ i. g (suc n + suc i)) (λ i. ap g (omega arith)))
      ∙ ap (λ (i : ℕ). (g i ++ in_turn c (λ i. g (suc n + suc i))) ++ t) (sym u)
      ∙ ap (λ (w : List Step). w ++ t) (sym (turn-first c (λ i. g (suc n + i))))
      ∙ ap (λ (i : ℕ). in_turn i (λ i. g (suc n + i)) ++ t) (sym z))
    where
      S : Side
      S = side_at k H

      c : ℕ
      c = set_of (ahead f) (side_at k H) (first_row f (side_at k H) n) - suc n

      g : ℕ → List Step
      g = set_left (l - k) k

      t : List Step
      t = tail k (taking H k (first_row f (side_at k H) n)) 1

  past-tail : (k n : ℕ) → k ≤ l → tail_at (past f W H (suc l) k n) ≡ rest k n
  unfolding past in_turn
  past-tail k n h = go (makes f (side_at k H) n) refl
    where
      go : (t : Bool) → makes f (side_at k H) n ≡ t → tail_at (pick t (spot k (waiting f H k n) 1) (begins f W H (suc l) (suc k) (suc n))) ≡ rest k n
      go true e =
          let z : set_of (ahead f) (side_at k H) (first_row f (side_at k H) n) - n ≡ 0 = omega (arith, makes-yes f (side_at k H) n e) in
          rw z refl
      go false e = begin-tail (l - k) k (suc n) (omega arith) ∙ rest-next k n e

  beyond-tail : (k n c : ℕ) → k ≤ l → tail (suc k) n (c + 1) ≡ tail_at (beyond f W H (suc l) k n c)
  unfolding beyond tail
  beyond-tail k n c h = go (last_of_set W H (suc l) k n c) refl
    where
      go : (t : Bool) → last_of_set W H (suc l) k n c ≡ t →
          rows_left k n (c + 1) ++ rest k n ≡ tail_at (pick t (past f W H (suc l) k n) (spot (suc k) n (c + 1)))
      go true e = ap (λ t. t ++ rest k n) (rows_none k n (c + 1) (last_none k n c e)) ∙ sym (past-tail k n h)
      go false e = unfold tail in refl

  -- ---- the want is the first
  -- what the machine says is next, and what is left then: a height row, or a band row
  pub data Ahead (d lev : ℕ) (t : List Step) : Spot → Type 0 where
    height : t ≡ draw d ∷ [] → Ahead d lev t (spot 0 0 4)
    row : (k n : ℕ) (c : Band) → k < lev → Ready f W H (suc l) d (spot (suc k) n (code c)) →
        asked (eqb (suc k) (suc l)) (side_at k W) (side_at k H) n c ≡ true →
        t ≡ feed (row_name (suc k) c (set_row (side_at k H) c n)) ∷ tail_at (beyond f W H (suc l) k n (code c)) → Ahead d lev t (spot (suc k) n (code c))

  pub ahead-is : (d lev n b : ℕ) → lev ≤ suc l → Ready f W H (suc l) d (spot lev n b) → Ahead d lev (tail lev n b) (next_up f W H (suc l) lev n b)
  unfolding next_up band_at next_band look first_code tail in_turn
  ahead-is d zero n b h s = height (ap (λ i. draw i ∷ []) (top-is n s))
    where
      top-is : (n : ℕ) → Ready f W H (suc l) d (spot 0 n b) → n ≡ d
      top-is n s = unfold waits_at in s.top
  ahead-is d (suc k) n b h s =
      go (those p (bands_from b)) refl (look_is p b)
      (λ z. ahead-is d k (waiting f H k n) 1 (omega arith) (ready_up f W H l d k n b (omega arith) s z))
    where
      p : Band → Bool
      p = asked (eqb (suc k) (suc l)) (side_at k W) (side_at k H) n

      finer : (q : Spot) → tail (suc k) n b ≡ tail k (waiting f H k n) 1 → Ahead d k (tail k (waiting f H k n) 1) q → Ahead d (suc k) (tail (suc k) n b) q
      finer _ e (height y) = height (e ∙ y)
      finer _ e (row j i c h r ask y) = row j i c (omega arith) r ask (e ∙ y)

      lazy : those p (bands_from b) ≡ [] → tail (suc k) n b ≡ tail k (waiting f H k n) 1
      lazy e =
          let m = s.asks k refl (ap first_code e) in
          let z : set_of (ahead f) (side_at k H) (first_row f (side_at k H) n) - n ≡ 0 = omega (arith, makes-yes f (side_at k H) n m) in
          ap (λ t. t ++ rest k n) (rows_none k n b e) ∙ rw z refl

      go : (xs : List Band) → those p (bands_from b) ≡ xs → Look p xs →
          (first_code (those p (bands_from b)) ≡ 4 → Ahead d k (tail k (waiting f H k n) 1) (next_up f W H (suc l) k (waiting f H k n) 1)) →
          Ahead d (suc k) (tail (suc k) n b) (pick (ltb (first_code xs) 4) (spot (suc k) n (first_code xs)) (next_up f W H (suc l) k (waiting f H k n) 1))
      go _ e nothing ih = finer _ (lazy e) (ih (ap first_code e))
      go _ e (first c a) ih = rw (lt-ltb (code c) 4 (code_lt c))
          (row k n c (omega arith) (at-band c a) a
          (ap (λ t. t ++ rest k n) (rows-some k n b c e)
          ∙ ap (λ t. feed (row_name (suc k) c (set_row (side_at k H) c n)) ∷ t) (beyond-tail k n (code c) (omega arith))))
        where
          at-band : (c : Band) → p c ≡ true → Ready f W H (suc l) d (spot (suc k) n (code c))
          at-band c a = ready-band f W H l d k n b c s a

  -- ---- so the steps left go on from row to row
  -- a row fed, or drawn, takes off the first
  module _ (d c : ℕ) (rest : H.length - d ≡ suc c) where
    pub left-now : (p : Spot) → steps_left d p ≡ tail_at p ++ later c (suc d)
    unfolding steps_left left_for
    left-now p = ap (λ q. left_for q d p) rest

    pub left-enter : steps_left d (enter f W H (suc l) d) ≡ later (suc c) d
    unfolding later
    left-enter = left-now (enter f W H (suc l) d) ∙ ap (λ t. t ++ later c (suc d)) (enter-tail d)

  left_end : (d : ℕ) (p : Spot) → H.length ≤ d → steps_left d p ≡ []
  unfolding steps_left left_for
  left_end d p h = let e : H.length - d ≡ 0 = omega arith in ap (λ q. left_for q d p) e

  left-later : (d c : ℕ) → H.length - d ≡ c → steps_left d (enter f W H (suc l) d) ≡ later c d
  left-later d zero e = left_end d _ (omega arith) ∙ unfold later in refl
  left-later d (suc c) e = left-enter d c e

  pub left-row : (d : ℕ) (q : Spot) (k n : ℕ) (c : Band) → d < H.length →
      tail_at q ≡ feed (row_name (suc k) c (set_row (side_at k H) c n)) ∷ tail_at (beyond f W H (suc l) k n (code c)) →
      steps_left d q ≡ feed (row_name (suc k) c (set_row (side_at k H) c n)) ∷ steps_left d (beyond f W H (suc l) k n (code c))
  left-row d q k n c h e =
      let rest : H.length - d ≡ suc (H.length - d - 1) = omega arith in
      left-now d _ rest q
      ∙ ap (λ t. t ++ later (H.length - d - 1) (suc d)) e
      ∙ ap (λ t. feed (row_name (suc k) c (set_row (side_at k H) c n)) ∷ t)
      (sym (left-now d _ rest (beyond f W H (suc l) k n (code c))))

  pub left-height : (d : ℕ) (q : Spot) → d < H.length → tail_at q ≡ draw d ∷ [] → steps_left d q ≡ draw d ∷ steps_left (suc d) (enter f W H (suc l) (suc d))
  left-height d q h e =
      let rest : H.length - d ≡ suc (H.length - d - 1) = omega arith in
      left-now d _ rest q ∙ ap (λ t. t ++ later (H.length - d - 1) (suc d)) e
      ∙ ap (λ t. draw d ∷ t) (sym (left-later (suc d) (H.length - d - 1) (omega arith)))

  pub left-done : (d : ℕ) (q : Spot) → H.length ≤ d → steps_left d q ≡ []
  left-done d q h = left_end d q h

  -- ---- at first all steps are left
  turns-later : (c d : ℕ) → in_turn d turn ++ later c d ≡ in_turn (d + c) turn
  unfolding in_turn later
  turns-later zero d = let e : d ≡ d + 0 = omega arith in append-nil _ ∙ ap (λ n. in_turn n turn) e
  turns-later (suc c) d = let e : suc d + c ≡ d + suc c = omega arith in sym (append_assoc (in_turn d turn) _ _) ∙ turns-later c (suc d)
      ∙ ap (λ n. in_turn n turn) e

  later-steps : later H.length 0 ≡ steps (ahead f) W H (suc l)
  unfolding steps in_turn
  later-steps = let e : 0 + H.length ≡ H.length = omega arith in let y : suc l - 1 ≡ l = omega arith in
      turns-later H.length 0 ∙ ap (λ n. in_turn n turn) e
      ∙ ap (λ q. in_turn H.length (λ r. row_steps (ahead f) H (set_steps (ahead f) q 1 W H) r ++ (draw r ∷ []))) (sym y)

  pub left-first : steps_left 0 (enter f W H (suc l) 0) ≡ steps (ahead f) W H (suc l)
  left-first = let y : H.length - 0 ≡ H.length = omega arith in left-later 0 H.length y ∙ later-steps
