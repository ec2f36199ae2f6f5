-- Which rows wait, as the writer's numbers say it, in the words of the order: `pend`; and which the steps of the closing that are not done will make: `later`.
-- Assumes nothing.
use mathlib.Core.Bool.{Bool, true, false}
use mathlib.Core.Path.{◌≡◌, refl, sym, ap, ap₂, ◌∙◌}
use mathlib.Core.List.{List, [], ◌∷◌, ◌++◌, append_assoc}
use Prim.Native.Nat.{ℕ, zero, suc, ◌+◌, ◌-◌, ◌*◌, ◌/◌, ◌%◌, ◌≤◌, ◌<◌}
use native.Mathlib.Nat.{mul-suc}
use native.Mathlib.Decide.{dec_lt}
use native.Mathlib.Omega.{arith}
use lib.Dec.{leb}
use Rattle.numbers.specs.Signal.{pick}
use Rattle.lifting.specs.Grid.{Side, side}
use Rattle.wavelet.specs.Bands.{Band}
use Rattle.wavelet.specs.Order.{RowName, row_name, handed_out, in_turn, first_set, last_set, set_row, set_has, rows_of, set_rows, made_by, unmade, closing}
use Rattle.wavelet.specs.Levels.{next}
use Rattle.wavelet.proofs.OrderLaws.{made-early, last-set, unmade-is, turn-zero, turn_suc, turn-same, turn-none, turn-add, set-empty}
use Rattle.level.specs.Level.{prev, completes}
use Rattle.progress.specs.Counts.{deeper, made, low_rows, most, band_at, skip}
use Rattle.progress.proofs.CountLaws.{made-open, made-closed}

-- the last i bands of a set
unfoldable pub lasts : ℕ → List Band
lasts zero = []
lasts (suc i) = band_at i ∷ lasts i

pub lasts-most : (l : ℕ) → lasts (most l) ≡ handed_out l
unfolding lasts band_at most handed_out
lasts-most zero = refl
lasts-most (suc l) = refl

-- ---- of a set, what is left from the first band on that has a row in it
module _ (k : ℕ) (W H : Side) (n : ℕ) where
  pub rows-yes : (b : Band) (bs : List Band) → set_has W H b n ≡ true → rows_of k W H n (b ∷ bs) ≡ row_name k b (set_row H b n) ∷ rows_of k W H n bs
  unfolding rows_of
  rows-yes b bs e = rw e refl

  pub rows-no : (b : Band) (bs : List Band) → set_has W H b n ≡ false → rows_of k W H n (b ∷ bs) ≡ rows_of k W H n bs
  unfolding rows_of
  rows-no b bs e = rw e refl

  pub skip-rows : (i : ℕ) → rows_of k W H n (lasts (skip W H n i)) ≡ rows_of k W H n (lasts i)
  unfolding skip
  skip-rows zero = refl
  skip-rows (suc i) = go (set_has W H (band_at i) n) refl (skip-rows i)
    where
      go : (t : Bool) → set_has W H (band_at i) n ≡ t → rows_of k W H n (lasts (skip W H n i)) ≡ rows_of k W H n (lasts i) →
          rows_of k W H n (lasts (pick t (suc i) (skip W H n i))) ≡ rows_of k W H n (lasts (suc i))
      go true e h = refl
      go false e h = h ∙ sym (unfold lasts in rows-no (band_at i) (lasts i) e)

pub skip-has : (W H : Side) (n i j : ℕ) → skip W H n i ≡ suc j → set_has W H (band_at j) n ≡ true
unfolding skip
skip-has W H n zero j e = absurd (omega arith)
skip-has W H n (suc i) j e = go (set_has W H (band_at i) n) refl (skip-has W H n i j) e
  where
    go : (t : Bool) → set_has W H (band_at i) n ≡ t → (skip W H n i ≡ suc j → set_has W H (band_at j) n ≡ true) → pick t (suc i) (skip W H n i) ≡ suc j →
        set_has W H (band_at j) n ≡ true
    go true h ih z = let q : i ≡ j = omega arith in ap (λ a. set_has W H (band_at a) n) (sym q) ∙ h
    go false h ih z = ih z

pub skip-le : (W H : Side) (n i : ℕ) → skip W H n i ≤ i
unfolding skip
skip-le W H n zero = omega arith
skip-le W H n (suc i) = go (set_has W H (band_at i) n) (skip-le W H n i)
  where
    go : (t : Bool) → skip W H n i ≤ i → pick t (suc i) (skip W H n i) ≤ suc i
    go true h = omega arith
    go false h = omega arith

-- what the LL row of set n makes at the l levels below: nothing, where the set has none
unfoldable pub onwards : (a l k : ℕ) (W : Side) (s n : ℕ) → List RowName
onwards a l k W s n = pick (leb (s % 2) n) (made_by a l (suc k) (next W) ((s + 1) / 2) (n - s % 2)) []

-- ---- rows to be drawn: c steps of the closing done, i bands left of the set of level v, m rows received, the first at coordinate s
unfoldable pub pend : (a L k : ℕ) (W : Side) (s c v i m : ℕ) → List RowName
pend a zero k W s c v i m = []
pend a (suc l) k W s c zero i m = []
pend a (suc l) k W s c (suc zero) i m = rows_of k W (side s m) (prev (made a c s m)) (lasts i) ++ onwards a l k W s (prev (made a c s m))
pend a (suc l) k W s c (suc (suc v)) i m = pend a l (suc k) (next W) ((s + 1) / 2) (c - a) (suc v) i (low_rows s (made a c s m))

-- and those that the steps not yet done will make, of the rows H: of a level its sets from set n on, each with what its LL row makes
unfoldable pub left_of : (a l k : ℕ) (W H : Side) (n : ℕ) → List RowName
left_of a l k W H n = in_turn (last_set H + 1 - n) (λ i. set_rows l k W H (n + i) ++ onwards a l k W H.start (n + i))

unfoldable pub later : (a L k : ℕ) (W H : Side) (c : ℕ) → List RowName
later a zero k W H c = []
later a (suc l) k W H c = left_of a l k W H (made a c H.start H.length) ++ later a l (suc k) (next W) (next H) (c - a)

pub pend-none : (a L k : ℕ) (W : Side) (s c i m : ℕ) → pend a L k W s c 0 i m ≡ []
unfolding pend
pend-none a zero k W s c i m = refl
pend-none a (suc l) k W s c i m = refl

pub pend-under : (a l k : ℕ) (W : Side) (s c v i m : ℕ) →
    pend a (suc l) k W s c (deeper v) i m ≡ pend a l (suc k) (next W) ((s + 1) / 2) (c - a) v i (low_rows s (made a c s m))
unfolding pend deeper
pend-under a l k W s c zero i m = sym (pend-none a l _ _ _ _ i _)
pend-under a l k W s c (suc v) i m = refl

-- ---- the sets that are left of a level
module _ (a l k : ℕ) (W H : Side) where
  -- the first of them, then the others
  pub left-first : (n : ℕ) → n ≤ last_set H → left_of a l k W H n ≡ (set_rows l k W H n ++ onwards a l k W H.start n) ++ left_of a l k W H (suc n)
  unfolding left_of
  left-first n h =
      let f : ℕ → List RowName = λ i. set_rows l k W H (n + i) ++ onwards a l k W H.start (n + i) in
      let e : last_set H + 1 - n ≡ 1 + (last_set H + 1 - suc n) = omega arith in
      ap (λ i. in_turn i f) e
      ∙ turn-add 1 (last_set H + 1 - suc n) f
      ∙ ap₂ ◌++◌ (turn_suc 0 f ∙ ap (λ t. t ++ f 0) (turn-zero f) ∙ ap (λ i. set_rows l k W H i ++ onwards a l k W H.start i) (omega arith))
      (turn-same (last_set H + 1 - suc n) _ _ (λ i p. ap (λ j. set_rows l k W H j ++ onwards a l k W H.start j) (omega arith)))

  pub left-none : (n : ℕ) → last_set H < n → left_of a l k W H n ≡ []
  unfolding left_of
  left-none n h = let e : last_set H + 1 - n ≡ 0 = omega arith in rw e (turn-zero _)

  -- a level without rows has none with rows
  pub left-empty : (n : ℕ) → 1 ≤ a → H.length ≡ 0 → left_of a l k W H n ≡ []
  unfolding left_of onwards
  left-empty n one e =
      turn-same (last_set H + 1 - n) _ (λ _. []) (λ i p. ap₂ ◌++◌ (set-empty l k W H e (n + i)) (go (leb (H.start % 2) (n + i)) i p))
      ∙ turn-none (last_set H + 1 - n)
    where
      go : (t : Bool) (i : ℕ) → i < last_set H + 1 - n → pick t (made_by a l (suc k) (next W) ((H.start + 1) / 2) (n + i - H.start % 2)) [] ≡ []
      go true i p = made-early a l (suc k) (next W) ((H.start + 1) / 2) _ (omega (arith, last-set H))
      go false i p = refl

  -- all of them are made after a steps
  pub left-closed : (c : ℕ) → 1 ≤ a → a ≤ c → left_of a l k W H (made a c H.start H.length) ≡ []
  left-closed c one h =
      elim (dec_lt 0 H.length) [
        | yes p ↦ left-none _ (omega (arith, made-closed a c H.start H.length one h, last-set H))
        | no p ↦ left-empty _ one (omega arith)
      ]

-- ---- what is left of all levels
pub later-closed : (a l k : ℕ) (W H : Side) (c : ℕ) → 1 ≤ a → a ≤ c → later a (suc l) k W H c ≡ later a l (suc k) (next W) (next H) (c - a)
unfolding later
later-closed a l k W H c one h = ap (λ t. t ++ later a l (suc k) (next W) (next H) (c - a)) (left-closed a l k W H c one h)

pub later-all : (a L k : ℕ) (W H : Side) → 1 ≤ a → later a L k W H (a * L) ≡ []
later-all a zero k W H one = unfold later in refl
later-all a (suc l) k W H one =
    let e : a * suc l - a ≡ a * l = omega (arith, mul-suc a l) in
    later-closed a l k W H (a * suc l) one (omega (arith, mul-suc a l))
    ∙ ap (later a l (suc k) (next W) (next H)) e
    ∙ later-all a l (suc k) (next W) (next H) one

pub later-none : (a L k : ℕ) (W H : Side) → 1 ≤ a → later a L k W H 0 ≡ closing a L k W H
unfolding later left_of closing onwards first_set next
later-none a zero k W H one = refl
later-none a (suc l) k W H one =
    let n : made a 0 H.start H.length ≡ unmade a H = omega (arith, made-open a H.start H.length one, unmade-is a H, last-set H) in
    let z : 0 - a ≡ 0 = omega arith in
    rw (n, z) (ap (λ t. in_turn (last_set H + 1 - unmade a H)
    (λ i. set_rows l k W H (unmade a H + i) ++ pick (leb (H.start % 2) (unmade a H + i)) (made_by a l (suc k) (next W) ((H.start + 1) / 2)
    (unmade a H + i - H.start % 2)) []) ++ t) (later-none a l (suc k) (next W) (next H) one))

-- a step that makes a set, and one that does not
module _ (a l k : ℕ) (W H : Side) (c : ℕ) (h : c < a) where
  same-below : suc c - a ≡ c - a
  same-below = omega arith

  pub later-step : (n : ℕ) → n ≤ last_set H → made a c H.start H.length ≡ n → made a (suc c) H.start H.length ≡ suc n →
      (set_rows l k W H n ++ onwards a l k W H.start n) ++ later a (suc l) k W H (suc c) ≡ later a (suc l) k W H c
  unfolding later
  later-step n p e d =
      rw (e, d, same-below)
      (sym (append_assoc (set_rows l k W H n ++ onwards a l k W H.start n) (left_of a l k W H (suc n)) _)
      ∙ ap (λ t. t ++ later a l (suc k) (next W) (next H) (c - a)) (sym (left-first a l k W H n p)))

  pub later-still : made a (suc c) H.start H.length ≡ made a c H.start H.length → later a (suc l) k W H (suc c) ≡ later a (suc l) k W H c
  unfolding later
  later-still e = rw (e, same-below) refl

  pub later-empty : 1 ≤ a → H.length ≡ 0 → later a (suc l) k W H (suc c) ≡ later a (suc l) k W H c
  unfolding later
  later-empty one e = rw (
    left-empty a l k W H (made a (suc c) H.start H.length) one e,
    left-empty a l k W H (made a c H.start H.length) one e,
    same-below,
  ) refl

-- ---- what a row makes: nothing, or a set and what its LL row makes
module _ (a l k : ℕ) (W : Side) (s m : ℕ) where
  pub made-still : completes a s m ≡ false → made_by a (suc l) k W s m ≡ []
  unfolding made_by completes
  made-still e = simp e

  pub made-set : completes a s m ≡ true → made_by a (suc l) k W s m ≡
      set_rows l k W (side s (m + 1)) ((s % 2 + m) / 2 - a) ++ onwards a l k W s ((s % 2 + m) / 2 - a)
  unfolding made_by completes onwards
  made-set e = simp e
