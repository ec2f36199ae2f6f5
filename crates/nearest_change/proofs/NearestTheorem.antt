-- The first trial that works makes the nearest change. There always is one, with a difference of at most 4, and no second one. Assumes nothing.
use mathlib.Core.Path.{◌≡◌, refl, sym, ap, ap₂, ◌∙◌, subst}
use mathlib.Core.Logic.{◌⊎◌, inl, inr, ⊎_elim}
use mathlib.Core.Bool.{Bool, true, false}
use mathlib.Core.List.{List}
use Prim.Native.Nat.{ℕ, ◌+◌, ◌-◌, ◌*◌, ◌/◌, ◌%◌, ◌≤◌, ◌<◌}
use native.Mathlib.Decide.{dec_lt, ℕ_discrete}
use native.Mathlib.Omega.{arith}
use lib.ListN.{get_or}
use lib.Dec.{eqb, ltb}
use borrow.Author.Tests.{eq-eqb, ne_eqb, lt-ltb, le-ltb}
use Rattle.numbers.specs.Signal.{pick}
use Rattle.lifting.specs.Line.{lo}
use Rattle.lifting.specs.Grid.{side, count}
use Rattle.nearest_change.specs.NearestChange.{Ground, Alters, difference, cut, first, Before, IsNearest}
use Rattle.nearest_change.specs.Trials.{places_of, IsWindow, cell_in, trial_by, trial_cut, trial_row, trial_column, tried, made_by, IsFirst}
use Rattle.nearest_change.specs.declared.Change.{Change}
use Rattle.nearest_change.proofs.WindowLaws.{Heights}
use Rattle.nearest_change.proofs.TrialLaws.{Here, Valid, tried-alters, alters-tried, old-is}
use Rattle.nearest_change.proofs.NearLaws.{Near, alters-near, four-enough}

pub change-eq : {r r' c c' h h' : ℕ} → r ≡ r' → c ≡ c' → h ≡ h'
    → ◌≡◌ {A = Change} (record { row = r; column = c; height = h }) (record { row = r'; column = c'; height = h' })
change-eq p q s = λ i. record { row = p i; column = q i; height = s i }

-- ---- the numbers of the trials
-- a difference less one, a raise or a cut, a row and a column, in one number
abbrev numbered : ℕ → ℕ → ℕ → ℕ → ℕ
numbered a b i k = 50 * a + 25 * b + 5 * i + k

parts : (a b i k : ℕ) → a < 4 → b < 2 → i < 5 → k < 5
    → (numbered a b i k < 200) × (numbered a b i k / 50 ≡ a) × (numbered a b i k / 25 % 2 ≡ b) × (trial_row (numbered a b i k) ≡ i)
    × (trial_column (numbered a b i k) ≡ k)
parts a b i k p q r s = (omega arith, omega arith, omega arith, omega arith, omega arith)

whole : (t : ℕ) → (t ≡ numbered (t / 50) (t / 25 % 2) (trial_row t) (trial_column t)) × (t / 25 % 2 < 2) × (trial_row t < 5) × (trial_column t < 5)
whole t = (omega arith, omega arith, omega arith, omega arith)

-- a cut is the second half of a difference's trials
abbrev bit : Bool → ℕ
bit b = pick b 1 0

abbrev sign : ℕ → ℕ
sign t = bit (trial_cut t)

half : (m : ℕ) → m < 2 → bit (eqb m 1) ≡ m
half m h = elim (ℕ_discrete m 1) [ yes e ↦ simp (eq-eqb m 1 e) (sym e) | no d ↦ simp (ne_eqb m 1 d) (omega arith) ]

sign-is : (t : ℕ) → sign t ≡ t / 25 % 2
sign-is t = half (t / 25 % 2) (whole t).1

-- the smaller number comes first
smaller : (a b i k a' b' i' k' : ℕ) → (b < 2) × (i < 5) × (k < 5) → (b' < 2) × (i' < 5) × (k' < 5) → numbered a b i k < numbered a' b' i' k'
    → first (a + 1) (a' + 1) (first b b' (first i i' (k < k')))
smaller a b i k a' b' i' k' f f' h =
    elim (dec_lt a a') [
      | yes l ↦ inl (omega arith)
      | no l ↦
          inr (
            omega arith,
            elim (dec_lt b b') [
              | yes m ↦ inl m
              | no m ↦ inr (omega arith, elim (dec_lt i i') [ yes n ↦ inl n | no n ↦ inr (omega arith, omega arith) ])
            ],
          )
    ]

-- what is decided by numbers is decided by their equals
first_by : {m m' n n' : ℕ} {A B : Type 0} → m ≡ m' → n ≡ n' → (A → B) → first m n A → first m' n' B
first_by p q f = ⊎_elim (λ h. inl (omega arith)) (λ e. inr (omega arith, f e.1))

ordered : (s t : ℕ) → s < t
    → first (trial_by s) (trial_by t) (first (sign s) (sign t) (first (trial_row s) (trial_row t) (trial_column s < trial_column t)))
ordered s t h =
    let a = whole s in
    let b = whole t in
    first_by refl refl (first_by (sym (sign-is s)) (sym (sign-is t)) (λ x. x))
    (smaller _ _ _ _ _ _ _ _ (a.1, a.2, a.3) (b.1, b.2, b.3) (less a.0 b.0 h))
  where
    less : {m m' n n' : ℕ} → m ≡ m' → n ≡ n' → m < n → m' < n'
    less p q l = omega arith

-- ---- the height that a trial makes, and the trial that makes a height
no-yes : false ≡ true → ⊥
no-yes z = let k : ◌≡◌ {A = ℕ} 0 1 = ap bit z in omega arith

-- u stands in the window, v on the ground
made-difference : (u v n : ℕ) (b : Bool) → u ≡ v → (b ≡ true → n ≤ v) → (pick b (u - n) (u + n) - v) + (v - pick b (u - n) (u + n)) ≡ n
made-difference u v n true e f = let k = f refl in omega arith
made-difference u v n false e f = omega arith

made-cut : (u v n : ℕ) (b : Bool) → 1 ≤ n → u ≡ v → (b ≡ true → n ≤ v) → bit (ltb (pick b (u - n) (u + n)) v) ≡ bit b
made-cut u v n true o e f = let k = f refl in simp (lt-ltb (u - n) v (omega arith))
made-cut u v n false o e f = simp (le-ltb (u + n) v (omega arith))

-- and back: new is the height
back : (u v new n : ℕ) (b : Bool) → u ≡ v → n ≡ (new - v) + (v - new) - 1 → 1 ≤ (new - v) + (v - new) → bit b ≡ bit (ltb new v)
    → (pick b (u - (n + 1)) (u + (n + 1)) ≡ new) × (b ≡ true → n + 1 ≤ v)
back u v new n true e a l s =
    elim (dec_lt new v) [
      | yes h ↦ (omega arith, λ _. omega arith)
      | no h ↦ let k : ◌≡◌ {A = ℕ} 1 0 = s ∙ ap bit (le-ltb new v (omega arith)) in absurd (omega arith)
    ]
back u v new n false e a l s =
    elim (dec_lt new v) [
      | yes h ↦ let k : ◌≡◌ {A = ℕ} 0 1 = s ∙ ap bit (lt-ltb new v h) in absurd (omega arith)
      | no h ↦ (omega arith, λ z. absurd (no-yes z))
    ]

-- a greater difference comes later
farther : (g : Ground) (d e : Change) → difference g d < difference g e → Before g d e
unfolding Before
farther g d e h = inl h

pub twice : (n k : ℕ) → k < count lo (side 0 n) → 2 * k < n
unfolding count
twice n k h = omega arith

cut-two : (g : Ground) (d : Change) → cut g d < 2
unfolding cut
cut-two g d = either (ltb d.height (g d.row d.column))
  where
    either : (b : Bool) → pick b 1 0 < 2
    either true = omega arith
    either false = omega arith

module _ (W H : ℕ) (g : Ground) (heights : Heights W H g) (r c : ℕ) (p : r < count lo (side 0 H)) (q : c < count lo (side 0 W)) (w : List ℕ)
    (is : IsWindow g (places_of H r) (places_of W c) w) where
  abbrev IsValid : ℕ → Type 0
  IsValid t = Valid W H g heights r c p q w is t

  abbrev works : ℕ → Bool
  works = tried w (cell_in w H W r c)

  abbrev made : ℕ → Change
  made = made_by w r c

  stands : (t : ℕ) → IsValid t → get_or w (5 * trial_column t + trial_row t) 0 ≡ g (2 * r + trial_row t - 2) (2 * c + trial_column t - 2)
  stands t v = old-is W H g heights r c p q w is (trial_row t) (trial_column t) v.rows-in v.columns-in

  difference-made : (t : ℕ) → IsValid t → difference g (made t) ≡ trial_by t
  unfolding difference made_by
  difference-made t v = made-difference _ _ (trial_by t) (trial_cut t) (stands t v) v.enough

  cut-made : (t : ℕ) → IsValid t → cut g (made t) ≡ sign t
  unfolding cut made_by
  cut-made t v = made-cut _ _ (trial_by t) (trial_cut t) (omega arith) (stands t v) v.enough

  -- of two valid trials the one with the smaller number comes first
  made-before : (s t : ℕ) → IsValid s → IsValid t → s < t → Before g (made s) (made t)
  unfolding Before made_by
  made-before s t v u h =
      first_by (sym (difference-made s v)) (sym (difference-made t u))
      (first_by (sym (cut-made s v)) (sym (cut-made t u)) (places v.rows-in.from u.rows-in.from v.columns-in.from u.columns-in.from))
      (ordered s t h)
    where
      places : {i i' k k' : ℕ} → 2 ≤ 2 * r + i → 2 ≤ 2 * r + i' → 2 ≤ 2 * c + k → 2 ≤ 2 * c + k' → first i i' (k < k')
          → first (2 * r + i - 2) (2 * r + i' - 2) (2 * c + k - 2 < 2 * c + k' - 2)
      places a b d e = ⊎_elim (λ l. inl (omega arith)) (λ l. inr (let m = l.0 in omega arith, let m = l.1 in omega arith))

  -- ---- the trial of a change
  module _ (d : Change) (l : Alters W H g r c d) (few : difference g d ≤ 4) where
    near : Near r c g d
    near = alters-near W H r c g p q d l

    abbrev i : ℕ
    i = d.row + 2 - 2 * r

    abbrev k : ℕ
    k = d.column + 2 - 2 * c

    abbrev number : ℕ
    number = numbered (difference g d - 1) (cut g d) i k

    split : (number < 200) × (number / 50 ≡ difference g d - 1) × (number / 25 % 2 ≡ cut g d) × (trial_row number ≡ i) × (trial_column number ≡ k)
    split =
        let n = near in
        parts (difference g d - 1) (cut g d) i k (omega (arith, n.new)) (cut-two g d) (omega (arith, n.row-to, n.row_from))
        (omega (arith, n.column-to, n.column-from))

    row-of : 2 * r + trial_row number - 2 ≡ d.row
    row-of = let e = split.3 in let a = near.row_from in omega arith

    column-of : 2 * c + trial_column number - 2 ≡ d.column
    column-of = let e = split.4 in let a = near.column-from in omega arith

    row_here : Here H r (trial_row number)
    row_here =
        let e = split.3 in let a = near.row_from in let b = near.row-to in let h = l.row_in in
        record { few = omega arith; from = omega arith; to = omega arith }

    column-here : Here W c (trial_column number)
    column-here =
        let e = split.4 in let a = near.column-from in let b = near.column-to in let h = l.column-in in
        record { few = omega arith; from = omega arith; to = omega arith }

    there : get_or w (5 * trial_column number + trial_row number) 0 ≡ g d.row d.column
    there = old-is W H g heights r c p q w is (trial_row number) (trial_column number) row_here column-here ∙ ap₂ g row-of column-of

    height-of : (pick (trial_cut number) (get_or w (5 * trial_column number + trial_row number) 0 - (trial_by number))
        (get_or w (5 * trial_column number + trial_row number) 0 + (trial_by number)) ≡ d.height)
        × (trial_cut number ≡ true → trial_by number ≤ g d.row d.column)
    unfolding difference cut
    height-of = back _ (g d.row d.column) d.height (number / 50) (trial_cut number) there split.1 near.new (sign-is number ∙ split.2)

    made-is : made number ≡ d
    unfolding made_by
    made-is = change-eq row-of column-of height-of.0

    number-valid : IsValid number
    number-valid =
        record {
          rows-in = row_here;
          columns-in = column-here;
          enough = λ e. rw (ap₂ g row-of column-of) (height-of.1 e);
        }

    number-works : works number ≡ true
    number-works = alters-tried W H g heights r c p q w is number number-valid (subst (Alters W H g r c) (sym made-is) l)

  -- ---- the first trial that works
  module _ (t : ℕ) (f : IsFirst works t) where
    -- there is one among the 200
    pub found : t < 200
    found =
        let e = four-enough W H r c g p q (heights (2 * r) (2 * c) (twice H r p) (twice W c q)) in
        elim (dec_lt t 200) [
          | yes h ↦ h
          | no h ↦
              let n = (split e.0 e.1 e.2).0 in
              absurd (no-yes (sym (f.none (number e.0 e.1 e.2) (omega arith)) ∙ number-works e.0 e.1 e.2))
        ]

    -- its place is one of the map's
    pub first-valid : IsValid t
    first-valid = (tried-alters W H g heights r c p q w is t (f.works found)).0

    later : (d : Change) (l : Alters W H g r c d) → difference g d ≤ 4 → (d ≡ made t) ⊎ Before g (made t) d
    later d l few =
        let n = number d l few in
        elim (dec_lt t n) [
          | yes h ↦ inr (subst (Before g (made t)) (made-is d l few) (made-before t n first-valid (number-valid d l few) h))
          | no h ↦
              elim (ℕ_discrete n t) [
                | yes e ↦ inl (sym (made-is d l few) ∙ ap made e)
                | no e ↦ absurd (no-yes (sym (f.none n (omega arith)) ∙ number-works d l few))
              ]
        ]

    pub first-nearest : IsNearest W H g r c (made t)
    first-nearest =
        record {
          alters = (tried-alters W H g heights r c p q w is t (f.works found)).1;
          others = λ d l.
              elim (dec_lt 4 (difference g d)) [
                | yes h ↦ inr (greater d h)
                | no h ↦ later d l (omega arith)
              ];
        }
      where
        greater : (d : Change) → 4 < difference g d → Before g (made t) d
        greater d h = let e = difference-made t first-valid in let s = found in farther g (made t) d (omega arith)
