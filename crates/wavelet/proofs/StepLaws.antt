-- The reader's steps have every band row that the plane of a map keeps exactly once, and no other (`steps-once`), and every height row once, in order
-- (`steps-heights`).
-- By weights: whatever the names weigh, the steps weigh what the writer's order weighs. Assumes nothing.
use mathlib.Core.Bool.{Bool, true, false}
use mathlib.Core.Path.{◌≡◌, refl, sym, ap, ap₂, ◌∙◌}
use mathlib.Core.List.{List, [], ◌∷◌, ◌++◌, append-nil}
use Prim.Native.Nat.{ℕ, zero, suc, ◌+◌, ◌-◌, ◌/◌, ◌%◌, min, ◌≤◌, ◌<◌}
use native.Mathlib.Decide.{dec_lt}
use native.Mathlib.Omega.{arith}
use lib.Dec.{leb}
use Rattle.numbers.specs.Signal.{pick}
use Rattle.lifting.specs.Line.{lo}
use Rattle.lifting.specs.Grid.{Side}
use Rattle.wavelet.specs.Order.{RowName, in_turn, times, first_set, last_set, set_rows, made_by, made}
use Rattle.wavelet.specs.Steps.{Step, feed, draw, feed_all, band_rows_of, height_rows_of, set_to, set_of, sets_before, row_steps, set_steps, steps}
use Rattle.wavelet.proofs.OrderLaws.{turn-zero, turn_suc, last-set, low-sets, turn-from, turn-add, closing-empty}
use Rattle.wavelet.proofs.OrderOnce.{ordered, ordered-none, ordered-weighs, made-once}
use Rattle.wavelet.specs.Levels.{next}
use Rattle.wavelet.specs.ViewCall.{band_row_exists}
use Rattle.wavelet.proofs.SideLaws.{next-length}
use Rattle.wavelet.proofs.Weights.{weigh, weigh-append, weigh-both, times-weigh}

-- ---- the rows of a level set off its sets, one after the other
-- a row at q needs no fewer sets than the one before it, and half a row more for each
pub to-first : (a : ℕ) → set_to a 0 ≡ 0
unfolding set_to
to-first a = refl

pub to-later : (a q : ℕ) → set_to a (suc q) ≡ q / 2 + a
unfolding set_to
to-later a q = refl

pub to-rises : (a q : ℕ) → set_to a q ≤ set_to a (suc q)
unfolding set_to
to-rises a zero = omega arith
to-rises a (suc q) = omega arith

-- the 5/3's
pub to_one : (q : ℕ) → set_to 1 q ≡ (q + 1) / 2
unfolding set_to
to_one zero = refl
to_one (suc q) = omega arith

pub set-of : (a : ℕ) (H : Side) (r : ℕ) → set_of a H r ≡ min (set_to a (H.start % 2 + r)) (last_set H)
unfolding set_of
set-of a H r = refl

pub set-one : (H : Side) (r : ℕ) → set_of 1 H r ≡ min ((H.start % 2 + r + 1) / 2) (last_set H)
unfolding set_of
set-one H r = rw (to_one (H.start % 2 + r)) refl

pub set_there : (a : ℕ) (H : Side) (r : ℕ) → set_of a H r ≤ last_set H
set_there a H r = omega (arith, set-of a H r)

pub set-rises : (a : ℕ) (H : Side) (r : ℕ) → set_of a H r ≤ set_of a H (suc r)
set-rises a H r =
    let e : H.start % 2 + suc r ≡ suc (H.start % 2 + r) = omega arith in
    let f : set_to a (H.start % 2 + suc r) ≡ set_to a (suc (H.start % 2 + r)) = ap (set_to a) e in
    omega (arith, set-of a H r, set-of a H (suc r), f, to-rises a (H.start % 2 + r))

pub before-zero : (a : ℕ) (H : Side) → sets_before a H 0 ≡ 0
unfolding sets_before
before-zero a H = refl

pub before-suc : (a : ℕ) (H : Side) (r : ℕ) → sets_before a H (suc r) ≡ set_of a H r + 1
unfolding sets_before
before-suc a H r = refl

-- a row needs its set, and no fewer sets than the row before it
pub before-rises : (a : ℕ) (H : Side) (r : ℕ) → sets_before a H r ≤ sets_before a H (suc r)
before-rises a H zero = omega (arith, before-zero a H)
before-rises a H (suc r) = omega (arith, before-suc a H r, before-suc a H (suc r), set-rises a H r)

-- the last row is made by the last set
pub set_last : (a : ℕ) (H : Side) (r : ℕ) → 1 ≤ a → r + 1 ≡ H.length → set_of a H r ≡ last_set H
set_last a H r p e = go (H.start % 2 + r) refl
  where
    go : (q : ℕ) → H.start % 2 + r ≡ q → set_of a H r ≡ last_set H
    go zero z = omega (arith, set-of a H r, last-set H)
    go (suc q) z =
        let f : set_to a (H.start % 2 + r) ≡ q / 2 + a = ap (set_to a) z ∙ to-later a q in
        omega (arith, set-of a H r, last-set H, f)

-- the rows of a level need all of its sets
pub before-all : (a : ℕ) (H : Side) → 1 ≤ a → 0 < H.length → sets_before a H H.length ≡ last_set H + 1
before-all a H o p = go H.length p refl
  where
    go : (n : ℕ) → 0 < n → n ≡ H.length → sets_before a H n ≡ last_set H + 1
    go zero q e = absurd (omega arith)
    go (suc n) q e = omega (arith, before-suc a H n, set_last a H n o (omega arith))

module _ (a : ℕ) (H : Side) (f : ℕ → List Step) where
  pub opened : (r : ℕ) → in_turn r (row_steps a H f) ≡ in_turn (sets_before a H r) f
  unfolding row_steps
  opened zero = rw (before-zero a H) (turn-zero _ ∙ sym (turn-zero f))
  opened (suc r) =
      let e : sets_before a H r + (sets_before a H (suc r) - sets_before a H r) ≡ sets_before a H (suc r) = omega (arith, before-rises a H r) in
      turn_suc r (row_steps a H f)
      ∙ ap (λ t. t ++ row_steps a H f r) (opened r)
      ∙ sym (turn-add (sets_before a H r) (sets_before a H (suc r) - sets_before a H r) f)
      ∙ ap (λ i. in_turn i f) e

-- ---- the band rows among the steps
rows_append : (s t : List Step) → band_rows_of (s ++ t) ≡ band_rows_of s ++ band_rows_of t
unfolding band_rows_of
rows_append [] t = refl
rows_append (feed x ∷ s) t = ap (λ r. x ∷ r) (rows_append s t)
rows_append (draw n ∷ s) t = rows_append s t

rows-fed : (xs : List RowName) → band_rows_of (feed_all xs) ≡ xs
unfolding band_rows_of feed_all
rows-fed [] = refl
rows-fed (x ∷ xs) = ap (λ r. x ∷ r) (rows-fed xs)

rows-turn : (n : ℕ) (f : ℕ → List Step) → band_rows_of (in_turn n f) ≡ in_turn n (λ i. band_rows_of (f i))
unfolding in_turn band_rows_of
rows-turn zero f = refl
rows-turn (suc n) f = rows_append (in_turn n f) (f n) ∙ ap (λ r. r ++ band_rows_of (f n)) (rows-turn n f)

-- the steps of a set, before it feeds its own rows: what its LL row needs
abbrev needed : ℕ → ℕ → ℕ → Side → Side → ℕ → List Step
needed a l k W H n = pick (leb (first_set H lo) n) (row_steps a (next H) (set_steps a l (suc k) (next W) (next H)) (n - first_set H lo)) []

rows_last : (a k : ℕ) (W H : Side) (n : ℕ) → band_rows_of (set_steps a 0 k W H n) ≡ set_rows 0 k W H n
unfolding set_steps
rows_last a k W H n = rows-fed (set_rows 0 k W H n)

rows_on : (a l k : ℕ) (W H : Side) (n : ℕ) → band_rows_of (set_steps a (suc l) k W H n) ≡ band_rows_of (needed a l k W H n) ++ set_rows (suc l) k W H n
unfolding set_steps
rows_on a l k W H n =
    rows_append (needed a l k W H n) _
    ∙ ap (λ r. band_rows_of (needed a l k W H n) ++ r) (rows-fed (set_rows (suc l) k W H n))

-- what the LL rows of a level need is what the sets of the next level need
needed-all : (a l k : ℕ) (W H : Side) → 0 < H.length → in_turn (last_set H + 1) (needed a l k W H) ≡ in_turn (sets_before a (next H) (next H).length)
    (set_steps a l (suc k) (next W) (next H))
needed-all a l k W H p =
    turn-from (first_set H lo) (last_set H + 1) (row_steps a (next H) (set_steps a l (suc k) (next W) (next H)))
    ∙ ap (λ i. in_turn i (row_steps a (next H) (set_steps a l (suc k) (next W) (next H)))) (low-sets H p ∙ sym (next-length H))
    ∙ opened a (next H) (set_steps a l (suc k) (next W) (next H)) (next H).length

module _ (a : ℕ) (o : 1 ≤ a) (v : RowName → ℕ) where
  weigh-same : (n : ℕ) (g h : ℕ → List RowName) → ((i : ℕ) → g i ≡ h i) → weigh v (in_turn n g) ≡ weigh v (in_turn n h)
  unfolding in_turn
  weigh-same zero g h e = refl
  weigh-same (suc n) g h e = simp (weigh-append v) (ap₂ ◌+◌ (weigh-same n g h e) (ap (weigh v) (e n)))

  -- what the sets of a level set off weighs what the order has of the level and of those below it
  abbrev LevelWeighs : ℕ → ℕ → Side → Side → Type 0
  LevelWeighs l k W H = weigh v (in_turn (sets_before a H H.length) (λ n. band_rows_of (set_steps a l k W H n))) ≡ weigh v (ordered a (suc l) k W H)

  level-none : (l k : ℕ) (W H : Side) → H.length ≡ 0 → LevelWeighs l k W H
  level-none l k W H e =
      let f : ℕ → List RowName = λ n. band_rows_of (set_steps a l k W H n) in
      let g = made_by a (suc l) k W H.start in
      ap (weigh v)
      (ap (λ i. in_turn i f) (ap (sets_before a H) e ∙ before-zero a H)
      ∙ turn-zero f
      ∙ sym (ap₂ ◌++◌ (ap (λ i. in_turn i g) e ∙ turn-zero g) (closing-empty a (suc l) k W H o e)))

  level-last : (k : ℕ) (W H : Side) → 0 < H.length → LevelWeighs 0 k W H
  level-last k W H p =
      let N = last_set H + 1 in
      ap (λ i. weigh v (in_turn i (λ n. band_rows_of (set_steps a 0 k W H n)))) (before-all a H o p)
      ∙ weigh-same N _ (set_rows 0 k W H) (rows_last a k W H)
      ∙ sym (ordered-weighs v a 0 k W H o
      ∙ ap (λ t. weigh v (in_turn N (set_rows 0 k W H)) + weigh v t) (ordered-none a (suc k) (next W) (next H))
      ∙ unfold weigh in omega arith)

  level-on : (l k : ℕ) (W H : Side) → 0 < H.length → LevelWeighs l (suc k) (next W) (next H) → LevelWeighs (suc l) k W H
  level-on l k W H p below =
      let N = last_set H + 1 in
      ap (λ i. weigh v (in_turn i (λ n. band_rows_of (set_steps a (suc l) k W H n)))) (before-all a H o p)
      ∙ weigh-same N _ (λ n. band_rows_of (needed a l k W H n) ++ set_rows (suc l) k W H n) (rows_on a l k W H)
      ∙ weigh-both v N (λ n. band_rows_of (needed a l k W H n)) (set_rows (suc l) k W H)
      ∙ ap (λ i. i + weigh v (in_turn N (set_rows (suc l) k W H)))
      (ap (weigh v) (sym (rows-turn N _) ∙ ap band_rows_of (needed-all a l k W H p) ∙ rows-turn _ _) ∙ below)
      ∙ omega arith
      ∙ sym (ordered-weighs v a (suc l) k W H o)

  level-weighs : (l k : ℕ) (W H : Side) → LevelWeighs l k W H
  level-weighs zero k W H = elim (dec_lt 0 H.length) [ yes p ↦ level-last k W H p | no p ↦ level-none 0 k W H (omega arith) ]
  level-weighs (suc l) k W H =
      let below = level-weighs l (suc k) (next W) (next H) in
      elim (dec_lt 0 H.length) [ yes p ↦ level-on l k W H p below | no p ↦ level-none (suc l) k W H (omega arith) ]

  -- a row drawn weighs nothing
  row-weighs : (f : ℕ → List Step) (n : ℕ) → weigh v (in_turn n (λ r. band_rows_of (f r ++ (draw r ∷ [])))) ≡ weigh v (in_turn n (λ r. band_rows_of (f r)))
  unfolding band_rows_of
  row-weighs f n = weigh-same n _ _ (λ r. rows_append (f r) (draw r ∷ []) ∙ append-nil _)

  steps-weigh : (W H : Side) (l : ℕ) → weigh v (band_rows_of (steps a W H (suc l))) ≡ weigh v (made a W H.start (suc l) H.length true)
  unfolding steps made
  steps-weigh W H l =
      let e : suc l - 1 ≡ l = omega arith in
      rw e (ap (weigh v) (rows-turn H.length _)
      ∙ row-weighs (row_steps a H (set_steps a l 1 W H)) H.length
      ∙ ap (weigh v) (sym (rows-turn H.length _) ∙ ap band_rows_of (opened a H (set_steps a l 1 W H) H.length) ∙ rows-turn _ _)
      ∙ level-weighs l 1 W H)

-- ---- each band row of the plane once, and no other
pub steps-once : (a : ℕ) → 1 ≤ a → (W H : Side) (L : ℕ) → 0 < L → (x : RowName)
    → times x (band_rows_of (steps a W H L)) ≡ pick (band_row_exists W H L x.level x.band x.row) 1 0
steps-once a o W H zero q x = absurd (omega arith)
steps-once a o W H (suc l) q x = times-weigh x _ ∙ steps-weigh a o _ W H l ∙ sym (times-weigh x _) ∙ made-once a o W H (suc l) x

-- ---- each height row once, in order
heights-append : (s t : List Step) → height_rows_of (s ++ t) ≡ height_rows_of s ++ height_rows_of t
unfolding height_rows_of
heights-append [] t = refl
heights-append (feed x ∷ s) t = heights-append s t
heights-append (draw n ∷ s) t = ap (λ r. n ∷ r) (heights-append s t)

heights-fed : (xs : List RowName) → height_rows_of (feed_all xs) ≡ []
unfolding height_rows_of feed_all
heights-fed [] = refl
heights-fed (x ∷ xs) = heights-fed xs

heights-none : (n : ℕ) (f : ℕ → List Step) → ((i : ℕ) → height_rows_of (f i) ≡ []) → height_rows_of (in_turn n f) ≡ []
unfolding in_turn height_rows_of
heights-none zero f e = refl
heights-none (suc n) f e = heights-append (in_turn n f) (f n) ∙ ap₂ ◌++◌ (heights-none n f e) (e n)

row-heights : (a : ℕ) (H : Side) (f : ℕ → List Step) → ((n : ℕ) → height_rows_of (f n) ≡ []) → (r : ℕ) → height_rows_of (row_steps a H f r) ≡ []
unfolding row_steps
row-heights a H f e r = heights-none _ _ (λ i. e (sets_before a H r + i))

set-heights : (a l k : ℕ) (W H : Side) (n : ℕ) → height_rows_of (set_steps a l k W H n) ≡ []
unfolding set_steps
set-heights a zero k W H n = heights-fed (set_rows 0 k W H n)
set-heights a (suc l) k W H n =
    heights-append (needed a l k W H n) _
    ∙ ap₂ ◌++◌
    (go (leb (first_set H lo) n) _ (row-heights a (next H) _ (set-heights a l (suc k) (next W) (next H)) (n - first_set H lo)))
    (heights-fed (set_rows (suc l) k W H n))
  where
    go : (t : Bool) (s : List Step) → height_rows_of s ≡ [] → height_rows_of (pick t s []) ≡ []
    go true s e = e
    go false s e = unfold height_rows_of in refl

turn-heights : (n : ℕ) (f : ℕ → List Step) → ((r : ℕ) → height_rows_of (f r) ≡ r ∷ []) → height_rows_of (in_turn n f) ≡ in_turn n (λ r. r ∷ [])
unfolding in_turn height_rows_of
turn-heights zero f e = refl
turn-heights (suc n) f e = heights-append (in_turn n f) (f n) ∙ ap₂ ◌++◌ (turn-heights n f e) (e n)

pub steps-heights : (a : ℕ) (W H : Side) (L : ℕ) → height_rows_of (steps a W H L) ≡ in_turn H.length (λ r. r ∷ [])
unfolding steps height_rows_of
steps-heights a W H L =
    turn-heights H.length _
    (λ r. heights-append (row_steps a H (set_steps a (L - 1) 1 W H) r) (draw r ∷ [])
    ∙ ap (λ t. t ++ (r ∷ [])) (row-heights a H (set_steps a (L - 1) 1 W H) (set-heights a (L - 1) 1 W H) r))
