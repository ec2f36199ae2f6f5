-- The writer's order in grid coordinates is the order that the calls cite, for each filter and origin. Assumes nothing.
use mathlib.Core.Path.{◌≡◌, refl, sym, ap, ap₂, ◌∙◌}
use mathlib.Core.Bool.{Bool, true, false}
use mathlib.Core.List.{List, [], ◌∷◌, ◌++◌, append-nil}
use Prim.Native.Nat.{ℕ, zero, suc, ◌+◌, ◌-◌, ◌*◌, ◌/◌, ◌%◌, ◌≤◌, ◌<◌}
use native.Mathlib.Decide.{dec_lt, ℕ_discrete}
use native.Mathlib.Omega.{arith}
use lib.Dec.{ltb, leb, eqb}
use borrow.Author.Tests.{lt-ltb, le-ltb, eq-eqb, ne_eqb, le-leb, lt-leb}
use Rattle.numbers.specs.Signal.{pick, both}
use Rattle.lifting.specs.Line.{Half, lo, hi}
use Rattle.lifting.specs.Grid.{Side, side, count}
use Rattle.wavelet.specs.Bands.{Band, LL, HL, LH, HH, across, down}
use Rattle.wavelet.specs.Levels.{next}
use Rattle.wavelet.specs.Order.{RowName, row_name, handed_out, in_turn, first_set, last_set, set_row, set_has, rows_of, set_rows, unmade}
use Rattle.wavelet.specs.Order as order
use Rattle.wavelet.proofs.OrderLaws.{makes, made-early, made-odd, made-even, last-set, unmade-is, turn_suc, turn-same, turn-from, turn-none}
use Rattle.wavelet.proofs.OrderLaws.{closing-empty}
use Rattle.wavelet.proofs.SideLaws.{next_start}
use Rattle.filters.specs.Filters.{filter_of}
use Rattle.standard.specs.Line.{Interval, interval, over, half_of}
use Rattle.standard.specs.Transform.{size}
use Rattle.standard.specs.WriterOrder.{between, has, band_rows, waiting, set_made, late_of, row_for, made_by, closing, made}
use Rattle.standard.proofs.LevelTheorems.{size_is, next-over}

-- ---- tests that say the same
same-leb : (a b c d : ℕ) → (a ≤ b → c ≤ d) → (c ≤ d → a ≤ b) → leb a b ≡ leb c d
same-leb a b c d f g =
    elim (dec_lt b a) [
      | yes l ↦ lt-leb a b l ∙ sym (lt-leb c d (elim (dec_lt d c) [ yes m ↦ m | no m ↦ absurd (let e = g (omega arith) in omega arith) ]))
      | no l ↦ le-leb a b (omega arith) ∙ sym (le-leb c d (f (omega arith)))
    ]

same-ltb : (a b c d : ℕ) → (a < b → c < d) → (c < d → a < b) → ltb a b ≡ ltb c d
same-ltb a b c d f g =
    elim (dec_lt a b) [
      | yes l ↦ lt-ltb a b l ∙ sym (lt-ltb c d (f l))
      | no l ↦ le-ltb a b (omega arith) ∙ sym (le-ltb c d (elim (dec_lt c d) [ yes m ↦ absurd (let e = g m in omega arith) | no m ↦ omega arith ]))
    ]

outside : (i0 i1 n : ℕ) → i1 ≤ i0 → both (leb i0 n) (ltb n i1) ≡ false
outside i0 i1 n e =
    elim (dec_lt n i0) [
      | yes l ↦ simp (lt-leb i0 n l)
      | no l ↦ simp (le-leb i0 n (omega arith), le-ltb n i1 (omega arith))
    ]

-- ---- the rows of a set: set n of a level counted from 0 is set H.start / 2 + n of the grid
module _ (H : Side) (n : ℕ) where
  abbrev s : ℕ
  s = H.start

  abbrev N : ℕ
  N = H.length

  abbrev set : ℕ
  set = s / 2 + n

  number_is : (h : Half) → n - first_set H h ≡ set - (half_of h (over H)).i0
  unfolding first_set half_of
  number_is lo = omega arith
  number_is hi = omega arith

  row_is : (h : Half) → both (leb (first_set H h) n) (ltb (n - first_set H h) (count h H)) ≡ has (half_of h (over H)) set
  unfolding has half_of first_set count
  row_is lo =
      elim (dec_lt n (s % 2)) [
        | yes l ↦ simp (lt-leb (s % 2) n l, lt-leb ((s + 1) / 2) (s / 2 + n) (omega arith))
        | no l ↦
            ap₂ both (same-leb (s % 2) n ((s + 1) / 2) (s / 2 + n) (λ h. omega arith) (λ h. omega arith))
            (same-ltb (n - s % 2) ((N + 1 - s % 2) / 2) (s / 2 + n) ((s + N + 1) / 2) (λ h. omega arith) (λ h. omega arith))
      ]
  row_is hi =
      ap₂ both (same-leb 0 n (s / 2) (s / 2 + n) (λ h. omega arith) (λ h. omega arith))
      (same-ltb (n - 0) ((N + s % 2) / 2) (s / 2 + n) ((s + N) / 2) (λ h. omega arith) (λ h. omega arith))

  rows_are : (k : ℕ) (W : Side) (bs : List Band) → rows_of k W H n bs ≡ band_rows k (over W) (over H) set bs
  unfolding rows_of set_has set_row band_rows
  rows_are k W [] = refl
  rows_are k W (b ∷ bs) = rw (row_is (down b), number_is (down b), ← size_is (across b) W, rows_are k W bs) refl

  pub set_is : (l k : ℕ) (W : Side) → set_rows l k W H n ≡ waiting l k (over W) (over H) set
  unfolding set_rows waiting handed_out
  set_is zero k W = rows_are k W (LL ∷ HL ∷ LH ∷ HH ∷ [])
  set_is (suc l) k W = rows_are k W (HL ∷ LH ∷ HH ∷ [])

-- of lists one after the other all but one are empty
turn_one : {A : Type 0} (n : ℕ) (f : ℕ → List A) (i : ℕ) → i < n → ((j : ℕ) → (j ≡ i → ⊥) → f j ≡ []) → in_turn n f ≡ f i
turn_one zero f i p e = absurd (omega arith)
turn_one (suc n) f i p e =
    turn_suc n f
    ∙ elim (ℕ_discrete n i) [
      | yes q ↦ ap₂ ◌++◌ (turn-same n f (λ _. []) (λ j r. e j (λ z. omega arith)) ∙ turn-none n) (ap f q)
      | no q ↦ ap₂ ◌++◌ (turn_one n f i (omega (arith, q)) e) (e n q) ∙ append-nil (f i)
    ]

-- ---- what a row makes
module _ (a : ℕ) where
  -- in grid coordinates: nothing at odd ones, nothing before the first set is complete, else its set
  module _ (l k : ℕ) (W : Interval) (v0 v : ℕ) where
    abbrev offered : ℕ → List RowName
    offered n = set_made l k W (interval v0 (v + 1)) n (made_by (2 * a) l (suc k) (half_of lo W) ((v0 + 1) / 2))

    not-its : (n : ℕ) → (v ≡ row_for (2 * a) n → ⊥) → pick (eqb v (row_for (2 * a) n)) (offered n) [] ≡ []
    not-its n d = simp (ne_eqb v (row_for (2 * a) n) d)

    by-none : ((n : ℕ) → v0 / 2 ≤ n → v ≡ row_for (2 * a) n → ⊥) → made_by (2 * a) (suc l) k W v0 v ≡ []
    unfolding made_by between
    by-none d = turn-same _ _ (λ _. []) (λ i _. not-its (v0 / 2 + i) (d (v0 / 2 + i) (omega arith))) ∙ turn-none _

    by-odd : v % 2 ≡ 1 → made_by (2 * a) (suc l) k W v0 v ≡ []
    unfolding row_for
    by-odd h = by-none (λ n b e. omega arith)

    by-early : v < 2 * (v0 / 2) + 2 * a → made_by (2 * a) (suc l) k W v0 v ≡ []
    unfolding row_for
    by-early h = by-none (λ n b e. omega arith)

    by-set : (n : ℕ) → v ≡ 2 * n + 2 * a → v0 / 2 ≤ n → made_by (2 * a) (suc l) k W v0 v ≡ offered n
    unfolding made_by between row_for
    by-set n h b =
        let e : v0 / 2 + (n - v0 / 2) ≡ n = omega arith in
        turn_one _ _ (n - v0 / 2) (omega arith) (λ i d. not-its (v0 / 2 + i) (λ z. d (omega arith)))
        ∙ ap (λ (m : ℕ). pick (eqb v (row_for (2 * a) m)) (offered m) []) e
        ∙ simp (eq-eqb v (2 * n + 2 * a) h)

  -- a set with what its LL row makes, given what the rows of the next level make
  module _ (l : ℕ) (same : (k : ℕ) (W : Side) (s r : ℕ) → order.made_by a l k W s r ≡ made_by (2 * a) l k (over W) s (s + r)) where
    makes-is : (k : ℕ) (W H : Side) (n : ℕ) →
        makes a l k W H n ≡ set_made l k (over W) (over H) (H.start / 2 + n) (made_by (2 * a) l (suc k) (half_of lo (over W)) ((H.start + 1) / 2))
    unfolding set_made first_set
    makes-is k W H n =
        ap₂ ◌++◌ (set_is H n l k W)
        (elim (dec_lt n (H.start % 2)) [
          | yes b ↦ simp (lt-leb (H.start % 2) n b, lt-leb H.start (2 * (H.start / 2 + n)) (omega arith))
          | no b ↦
              simp (le-leb (H.start % 2) n (omega arith), le-leb H.start (2 * (H.start / 2 + n)) (omega arith))
              (same (suc k) (next W) (next H).start (n - H.start % 2)
              ∙ ap₂ (λ (I : Interval) (v0 : ℕ). made_by (2 * a) l (suc k) I v0 ((next H).start + (n - H.start % 2))) (next-over W) (next_start H)
              ∙ ap (made_by (2 * a) l (suc k) (half_of lo (over W)) ((H.start + 1) / 2)) (row-of (omega arith)))
        ])
      where
        row-of : H.start % 2 ≤ n → (next H).start + (n - H.start % 2) ≡ H.start / 2 + n
        row-of b = let e = next_start H in omega arith

  by-is : (L k : ℕ) (W : Side) (s r : ℕ) → order.made_by a L k W s r ≡ made_by (2 * a) L k (over W) s (s + r)
  by-is zero k W s r = unfold order.made_by made_by in refl
  by-is (suc l) k W s r =
      elim (ℕ_discrete ((s % 2 + r) % 2) 1) [
        | yes o ↦ made-odd a (suc l) k W s r o ∙ sym (by-odd l k (over W) s (s + r) (omega arith))
        | no o ↦
            elim (dec_lt (s % 2 + r) (2 * a)) [
              | yes g ↦ made-early a (suc l) k W s r g ∙ sym (by-early l k (over W) s (s + r) (omega arith))
              | no g ↦
                  let n = (s % 2 + r) / 2 - a in
                  let e : s + (r + 1) ≡ s + r + 1 = omega arith in
                  made-even a l k W s r n (omega arith)
                  ∙ makes-is l (by-is l) k W (side s (r + 1)) n
                  ∙ ap (λ (i : ℕ). set_made l k (over W) (interval s i) (s / 2 + n) (made_by (2 * a) l (suc k) (half_of lo (over W)) ((s + 1) / 2))) e
                  ∙ sym (by-set l k (over W) s (s + r) (s / 2 + n) (omega arith) (omega arith))
            ]
      ]

  -- ---- the finish
  module _ (one : 1 ≤ a) where
    sets : (H : Side) → 0 < H.length → (H.start + H.length + 1) / 2 - H.start / 2 ≡ last_set H + 1
    sets H b = let e = last-set H in omega arith

    -- a set is left where its row did not come
    left_is : (H : Side) → 0 < H.length → (i : ℕ) → leb (H.start + H.length) (row_for (2 * a) (H.start / 2 + i)) ≡ leb (unmade a H) i
    unfolding row_for
    left_is H b i =
        let e = last-set H in
        let d = unmade-is a H in
        same-leb (H.start + H.length) (2 * (H.start / 2 + i) + 2 * a) (unmade a H) i (λ h. omega arith) (λ h. omega arith)

    level-closes : (l k : ℕ) (W H : Side) → 0 < H.length →
        in_turn (last_set H + 1 - unmade a H) (λ i. makes a l k W H (unmade a H + i))
        ≡ between (H.start / 2) ((H.start + H.length + 1) / 2)
        (λ n. pick (leb (H.start + H.length) (row_for (2 * a) n))
        (set_made l k (over W) (over H) n (made_by (2 * a) l (suc k) (half_of lo (over W)) ((H.start + 1) / 2))) [])
    unfolding between
    level-closes l k W H b =
        sym (turn-from (unmade a H) (last_set H + 1) (λ i. makes a l k W H (unmade a H + i)))
        ∙ ap (λ (n : ℕ). in_turn n (λ i. pick (leb (unmade a H) i) (makes a l k W H (unmade a H + (i - unmade a H))) [])) (sym (sets H b))
        ∙ turn-same _ _ _ (λ i _. each i)
      where
        each : (i : ℕ) → pick (leb (unmade a H) i) (makes a l k W H (unmade a H + (i - unmade a H))) []
            ≡ pick (leb (H.start + H.length) (row_for (2 * a) (H.start / 2 + i)))
            (set_made l k (over W) (over H) (H.start / 2 + i) (made_by (2 * a) l (suc k) (half_of lo (over W)) ((H.start + 1) / 2))) []
        each i =
            rw (left_is H b i)
            (elim (dec_lt i (unmade a H)) [
              | yes c ↦ simp (lt-leb (unmade a H) i c)
              | no c ↦
                  let e : unmade a H + (i - unmade a H) ≡ i = omega arith in
                  rw (e, le-leb (unmade a H) i (omega arith)) (makes-is l (by-is l) k W H i)
            ])

    -- a level without rows closes with nothing
    none-there : (h : Half) (H : Interval) → H.i1 ≡ H.i0 → (n : ℕ) → has (half_of h H) n ≡ false
    unfolding has half_of
    none-there lo H e n = outside ((H.i0 + 1) / 2) ((H.i1 + 1) / 2) n (omega arith)
    none-there hi H e n = outside (H.i0 / 2) (H.i1 / 2) n (omega arith)

    no_rows : (k : ℕ) (W H : Interval) → H.i1 ≡ H.i0 → (n : ℕ) (bs : List Band) → band_rows k W H n bs ≡ []
    unfolding band_rows
    no_rows k W H e n [] = refl
    no_rows k W H e n (b ∷ bs) = rw (none-there (down b) H e n, no_rows k W H e n bs) (go (ltb 0 (size (half_of (across b) W))))
      where
        go : (t : Bool) → pick (both t false) (row_name k b (n - (half_of (down b) H).i0) ∷ []) [] ≡ []
        go true = refl
        go false = refl

    none-waiting : (l k : ℕ) (W H : Interval) → H.i1 ≡ H.i0 → (n : ℕ) → waiting l k W H n ≡ []
    unfolding waiting
    none-waiting zero k W H e n = no_rows k W H e n _
    none-waiting (suc l) k W H e n = no_rows k W H e n _

    closes-empty : (L k : ℕ) (W H : Interval) → H.i1 ≡ H.i0 → closing (2 * a) L k W H ≡ []
    unfolding closing between
    closes-empty zero k W H e = refl
    closes-empty (suc l) k W H e =
        ap₂ ◌++◌ (turn-same _ _ (λ _. []) each ∙ turn-none _) (closes-empty l (suc k) (half_of lo W) (half_of lo H) (halved e))
      where
        halved : H.i1 ≡ H.i0 → (half_of lo H).i1 ≡ (half_of lo H).i0
        halved d = unfold half_of in omega arith

        below : ℕ → List RowName
        below = made_by (2 * a) l (suc k) (half_of lo W) (half_of lo H).i0

        empty : (n : ℕ) → 2 * n < H.i0 → set_made l k W H n below ≡ []
        empty n b = unfold set_made in rw (none-waiting l k W H e n, lt-leb H.i0 (2 * n) b) refl

        each : (i : ℕ) → i < (H.i1 + 1) / 2 - H.i0 / 2
            → pick (leb H.i1 (row_for (2 * a) (H.i0 / 2 + i))) (set_made l k W H (H.i0 / 2 + i) below) [] ≡ []
        each i b = rw (empty (H.i0 / 2 + i) (omega arith)) (go (leb H.i1 (row_for (2 * a) (H.i0 / 2 + i))))
          where
            go : (t : Bool) → ◌≡◌ {A = List RowName} (pick t [] []) []
            go true = refl
            go false = refl

    closing-is : (L k : ℕ) (W H : Side) → order.closing a L k W H ≡ closing (2 * a) L k (over W) (over H)
    unfolding order.closing closing
    closing-is zero k W H = refl
    closing-is (suc l) k W H =
        elim (dec_lt 0 H.length) [
          | yes b ↦
              ap₂ ◌++◌ (level-closes l k W H b ∙ again)
              (closing-is l (suc k) (next W) (next H) ∙ ap₂ (λ (I J : Interval). closing (2 * a) l (suc k) I J) (next-over W) (next-over H))
          | no b ↦ closing-empty a (suc l) k W H one (omega arith) ∙ sym (closes-empty (suc l) k (over W) (over H) (omega arith))
        ]
      where
        again : between (H.start / 2) ((H.start + H.length + 1) / 2)
            (λ n. pick (leb (H.start + H.length) (row_for (2 * a) n))
            (set_made l k (over W) (over H) n (made_by (2 * a) l (suc k) (half_of lo (over W)) ((H.start + 1) / 2))) [])
            ≡ between (H.start / 2) ((H.start + H.length + 1) / 2)
            (λ n. pick (leb (H.start + H.length) (row_for (2 * a) n))
            (set_made l k (over W) (over H) n (made_by (2 * a) l (suc k) (half_of lo (over W)) (half_of lo (over H)).i0)) [])
        again = unfold half_of in refl

    -- ---- the whole list
    pub made-is : (W : Side) (s L rows : ℕ) (finished : Bool) → order.made a W s L rows finished ≡ made (2 * a) (over W) s L rows finished
    unfolding order.made made between
    made-is W s L rows finished =
        let e : rows ≡ s + rows - s = omega arith in
        ap₂ (λ (t u : List RowName). t ++ pick finished u [])
        (turn-same rows (order.made_by a L 1 W s) (λ i. made_by (2 * a) L 1 (over W) s (s + i)) (λ i _. by-is L 1 W s i)
        ∙ ap (λ (n : ℕ). in_turn n (λ i. made_by (2 * a) L 1 (over W) s (s + i))) e)
        (closing-is L 1 W (side s rows))

-- "row 2n+2", "row 2n+4": the row that a set waits for is the filter's look-ahead of sets later
late_is : (f : ℕ) → late_of f ≡ 2 * (filter_of f).ahead
unfolding late_of filter_of
late_is zero = refl
late_is (suc f) = refl

pub ahead-some : (f : ℕ) → 1 ≤ (filter_of f).ahead
unfolding filter_of
ahead-some zero = omega arith
ahead-some (suc f) = omega arith

pub writer-order : (f : ℕ) (W : Side) (s L rows : ℕ) (finished : Bool) →
    order.made (filter_of f).ahead W s L rows finished ≡ made (late_of f) (over W) s L rows finished
writer-order f W s L rows finished =
    made-is (filter_of f).ahead (ahead-some f) W s L rows finished
    ∙ ap (λ (late : ℕ). made late (over W) s L rows finished) (sym (late_is f))
