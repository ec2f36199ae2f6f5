-- The laws of the order, for any look-ahead a from 1 on: what each row makes, by its coordinate; the sets of a level one after the other; the rows of a map
-- and its finish together. None asks that a level has rows.
-- Assumes nothing.
use mathlib.Core.Bool.{Bool, true, false}
use mathlib.Core.Path.{◌≡◌, refl, sym, ap, ap₂, ◌∙◌}
use mathlib.Core.List.{List, [], ◌∷◌, ◌++◌, append-nil, append_assoc}
use Prim.Native.Nat.{ℕ, zero, suc, ◌+◌, ◌-◌, ◌*◌, ◌/◌, ◌%◌, ◌≤◌, ◌<◌}
use native.Mathlib.Decide.{dec_lt, ℕ_discrete}
use native.Mathlib.Omega.{arith}
use lib.Dec.{leb, ltb}
use borrow.Author.Tests.{lt-ltb, le-ltb, le-leb, lt-leb, eq-eqb, ne_eqb}
use Rattle.numbers.specs.Signal.{pick, both}
use Rattle.lifting.specs.Line.{Half, lo, hi}
use Rattle.lifting.specs.Grid.{Side, side, count}
use Rattle.wavelet.specs.Bands.{Band, across, down}
use Rattle.wavelet.specs.Order.{RowName, row_name, handed_out, in_turn, first_set, last_set, set_row, set_has, rows_of, set_rows, made_by, unmade}
use Rattle.wavelet.specs.Order.{closing}
use Rattle.wavelet.specs.Levels.{next}
use Rattle.wavelet.proofs.SideLaws.{count-lo, count_none, next-length}

-- what the LL row of set n makes below, where the set has one; and the set with it
abbrev pub passed : ℕ → ℕ → ℕ → Side → Side → ℕ → List RowName
passed a l k W H n = pick (leb (first_set H lo) n) (made_by a l (suc k) (next W) (next H).start (n - first_set H lo)) []

abbrev pub makes : ℕ → ℕ → ℕ → Side → Side → ℕ → List RowName
makes a l k W H n = set_rows l k W H n ++ passed a l k W H n

-- ---- what a row makes: nothing before coordinate 2a past the last even one, and at the odd ones
pub made-early : (a L k : ℕ) (W : Side) (s r : ℕ) → s % 2 + r < 2 * a → made_by a L k W s r ≡ []
unfolding made_by
made-early a zero k W s r h = refl
made-early a (suc l) k W s r h =
    elim (ℕ_discrete ((s % 2 + r) % 2) 0) [
      | yes e ↦ simp (eq-eqb ((s % 2 + r) % 2) 0 e, lt-leb (2 * a) (s % 2 + r) h)
      | no e ↦ simp (ne_eqb ((s % 2 + r) % 2) 0 e)
    ]

pub made-odd : (a L k : ℕ) (W : Side) (s r : ℕ) → (s % 2 + r) % 2 ≡ 1 → made_by a L k W s r ≡ []
unfolding made_by
made-odd a zero k W s r h = refl
made-odd a (suc l) k W s r h = simp (ne_eqb ((s % 2 + r) % 2) 0 (omega arith))

-- set n at coordinate 2n + 2a
pub made-even : (a l k : ℕ) (W : Side) (s r n : ℕ) → s % 2 + r ≡ 2 * n + 2 * a → made_by a (suc l) k W s r ≡ makes a l k W (side s (r + 1)) n
unfolding made_by first_set next
made-even a l k W s r n h =
    let e : (s % 2 + r) / 2 - a ≡ n = omega arith in
    simp (eq-eqb ((s % 2 + r) % 2) 0 (omega arith), le-leb (2 * a) (s % 2 + r) (omega arith), e)

-- ---- the sets
pub last-set : (H : Side) → last_set H ≡ (H.start % 2 + (H.length - 1)) / 2
unfolding last_set
last-set H = refl

pub unmade-is : (a : ℕ) (H : Side) → unmade a H ≡ last_set H + 1 - a
unfolding unmade
unmade-is a H = refl

pub first-low : (H : Side) → first_set H lo ≡ H.start % 2
unfolding first_set
first-low H = refl

pub first-high : (H : Side) → first_set H hi ≡ 0
unfolding first_set
first-high H = refl

-- the low rows are in the sets from the first that has one to the last
pub low-sets : (H : Side) → 0 < H.length → last_set H + 1 - first_set H lo ≡ count lo H
low-sets H h = omega (arith, last-set H, first-low H, count-lo H)

-- ---- a band has its row of set n as soon as the row at coordinate 2n + 2 is there
module _ (s m m' n : ℕ) (p : 2 * n + 2 < s % 2 + m) (q : 2 * n + 2 < s % 2 + m') where
  row-early : (h : Half) → first_set (side s m) h ≡ first_set (side s m') h
  unfolding first_set
  row-early lo = refl
  row-early hi = refl

  there : (h : Half) (N : ℕ) → 2 * n + 2 < s % 2 + N → n - first_set (side s N) h < count h (side s N)
  unfolding first_set count
  there lo N b = omega arith
  there hi N b = omega arith

  pub has-early : (W : Side) (b : Band) → set_has W (side s m) b n ≡ set_has W (side s m') b n
  unfolding set_has set_row
  has-early W b =
      simp (
        lt-ltb (n - first_set (side s m) (down b)) (count (down b) (side s m)) (there (down b) m p),
        lt-ltb (n - first_set (side s m') (down b)) (count (down b) (side s m')) (there (down b) m' q),
      )
      (ap (λ i. both (ltb 0 (count (across b) W)) (both (leb i n) true)) (row-early (down b)))

  rows-early : (k : ℕ) (W : Side) (bs : List Band) → rows_of k W (side s m) n bs ≡ rows_of k W (side s m') n bs
  unfolding rows_of set_row
  rows-early k W [] = refl
  rows-early k W (b ∷ bs) = rw (has-early W b, row-early (down b), rows-early k W bs) refl

  pub set-early : (l k : ℕ) (W : Side) → set_rows l k W (side s m) n ≡ set_rows l k W (side s m') n
  unfolding set_rows
  set-early l k W = rows-early k W (handed_out l)

-- ---- lists one after the other
module _ {A : Type 0} where
  pub turn-zero : (f : ℕ → List A) → in_turn 0 f ≡ []
  unfolding in_turn
  turn-zero f = refl

  pub turn_suc : (n : ℕ) (f : ℕ → List A) → in_turn (suc n) f ≡ in_turn n f ++ f n
  unfolding in_turn
  turn_suc n f = refl

  pub turn-same : (n : ℕ) (f g : ℕ → List A) → ((i : ℕ) → i < n → f i ≡ g i) → in_turn n f ≡ in_turn n g
  unfolding in_turn
  turn-same zero f g e = refl
  turn-same (suc n) f g e = ap₂ ◌++◌ (turn-same n f g (λ i p. e i (omega arith))) (e n (omega arith))

  pub turn-none : (n : ℕ) → ◌≡◌ {A = List A} (in_turn n (λ _. [])) []
  unfolding in_turn
  turn-none zero = refl
  turn-none (suc n) = ap (λ l. l ++ []) (turn-none n)

  -- the first m of n are the first of them
  pub turn-prefix : (n m : ℕ) (f : ℕ → List A) → m ≤ n → (r : List A) × (in_turn m f ++ r ≡ in_turn n f)
  unfolding in_turn
  turn-prefix zero m f h = let e : m ≡ 0 = omega arith in ([], rw e refl)
  turn-prefix (suc n) m f h =
      elim (dec_lt m (suc n)) [
        | yes p ↦
            let q = turn-prefix n m f (omega arith) in
            (q.0 ++ f n, sym (append_assoc (in_turn m f) q.0 (f n)) ∙ ap (λ l. l ++ f n) q.1)
        | no p ↦ let e : m ≡ suc n = omega arith in ([], append-nil _ ∙ ap (λ i. in_turn i f) e)
      ]

  -- each p places later, with nothing before
  pub turn-from : (p n : ℕ) (f : ℕ → List A) → in_turn n (λ i. pick (leb p i) (f (i - p)) []) ≡ in_turn (n - p) f
  turn-from p zero f = let e : 0 - p ≡ 0 = omega arith in rw e (turn-zero _ ∙ sym (turn-zero f))
  turn-from p (suc n) f =
      turn_suc n (λ i. pick (leb p i) (f (i - p)) [])
      ∙ ap (λ t. t ++ pick (leb p n) (f (n - p)) []) (turn-from p n f)
      ∙ elim (dec_lt n p) [
        | yes b ↦
            let e : suc n - p ≡ n - p = omega arith in
            rw (lt-leb p n b, e) (append-nil _)
        | no b ↦
            let e : suc n - p ≡ suc (n - p) = omega arith in
            rw (le-leb p n (omega arith), e) (sym (turn_suc (n - p) f))
      ]

  pub turn-add : (n m : ℕ) (f : ℕ → List A) → in_turn (n + m) f ≡ in_turn n f ++ in_turn m (λ i. f (n + i))
  turn-add n zero f = let e : n + 0 ≡ n = omega arith in rw e (sym (ap (λ t. in_turn n f ++ t) (turn-zero _) ∙ append-nil _))
  turn-add n (suc m) f =
      let e : n + suc m ≡ suc (n + m) = omega arith in
      rw e
      (turn_suc (n + m) f
      ∙ ap (λ t. t ++ f (n + m)) (turn-add n m f)
      ∙ append_assoc (in_turn n f) _ (f (n + m))
      ∙ ap (λ t. in_turn n f ++ t) (sym (turn_suc m (λ i. f (n + i)))))

-- ---- of a level's rows each sets off a set, the last sets are made at the finish
module _ (a l k : ℕ) (W : Side) (one : 1 ≤ a) where
  module _ (s : ℕ) where
    -- set n with what its LL row makes, as the row at coordinate 2n + 2a sets it off
    abbrev off : ℕ → List RowName
    off n = makes a l k W (side s (2 * n + 2 * a + 1 - s % 2)) n

    -- how many sets m rows make
    abbrev before : ℕ → ℕ
    before m = unmade a (side s m)

    before-is : (m : ℕ) → before m ≡ (s % 2 + (m - 1)) / 2 + 1 - a
    before-is m = unmade-is a (side s m) ∙ ap (λ i. i + 1 - a) (last-set (side s m))

    one-more : (m : ℕ) → in_turn (before m) off ++ made_by a (suc l) k W s m ≡ in_turn (before (suc m)) off
    one-more m =
        elim (ℕ_discrete ((s % 2 + m) % 2) 1) [
          | yes o ↦
              let e : before m ≡ before (suc m) = omega (arith, before-is m, before-is (suc m)) in
              rw (made-odd a (suc l) k W s m o, e) (append-nil _)
          | no o ↦
              elim (dec_lt (s % 2 + m) (2 * a)) [
                | yes g ↦
                    let e : before m ≡ before (suc m) = omega (arith, before-is m, before-is (suc m)) in
                    rw (made-early a (suc l) k W s m g, e) (append-nil _)
                | no g ↦
                    let n = (s % 2 + m) / 2 - a in
                    let b : before m ≡ n = omega (arith, before-is m) in
                    let c : before (suc m) ≡ suc n = omega (arith, before-is (suc m)) in
                    let d : m + 1 ≡ 2 * n + 2 * a + 1 - s % 2 = omega arith in
                    rw (made-even a l k W s m n (omega arith), b, c, d) (sym (turn_suc n off))
              ]
        ]

    rows-made : (m : ℕ) → in_turn m (made_by a (suc l) k W s) ≡ in_turn (before m) off
    rows-made zero =
        let e : before 0 ≡ 0 = omega (arith, before-is 0) in
        rw e (turn-zero (made_by a (suc l) k W s) ∙ sym (turn-zero off))
    rows-made (suc m) =
        turn_suc m (made_by a (suc l) k W s)
        ∙ ap (λ t. t ++ made_by a (suc l) k W s m) (rows-made m)
        ∙ one-more m

  off-early : (H : Side) (i : ℕ) → i < unmade a H → off H.start i ≡ makes a l k W H i
  unfolding first_set next
  off-early H i b =
      ap (λ t. t ++ passed a l k W H i)
      (set-early H.start (2 * i + 2 * a + 1 - H.start % 2) H.length i (omega arith) (omega (arith, unmade-is a H, last-set H)) l k W)

  -- with the finish, all of its sets
  pub map-made : (H : Side) → in_turn H.length (made_by a (suc l) k W H.start) ++ closing a (suc l) k W H ≡ in_turn (last_set H + 1) (makes a l k W H)
      ++ closing a l (suc k) (next W) (next H)
  unfolding closing
  map-made H =
      let n = unmade a H in
      let left = last_set H + 1 - n in
      let rest = closing a l (suc k) (next W) (next H) in
      let all : n + left ≡ last_set H + 1 = omega (arith, unmade-is a H) in
      sym (append_assoc (in_turn H.length (made_by a (suc l) k W H.start)) (in_turn left (λ i. makes a l k W H (n + i))) rest)
      ∙ ap (λ t. t ++ rest)
      (ap (λ t. t ++ in_turn left (λ i. makes a l k W H (n + i)))
      (rows-made H.start H.length ∙ turn-same n (off H.start) (makes a l k W H) (off-early H))
      ∙ sym (turn-add n left (makes a l k W H))
      ∙ ap (λ i. in_turn i (makes a l k W H)) all)

  -- and their LL rows are the rows of the next level: an empty level has one set, without rows
  pub passed-all : (H : Side) → in_turn (last_set H + 1) (passed a l k W H) ≡ in_turn (next H).length (made_by a l (suc k) (next W) (next H).start)
  passed-all H =
      turn-from (first_set H lo) (last_set H + 1) f
      ∙ elim (dec_lt 0 H.length) [
        | yes b ↦ ap (λ i. in_turn i f) (low-sets H b ∙ sym (next-length H))
        | no b ↦
            let z : (next H).length ≡ 0 = omega (arith, next-length H, count-lo H) in
            rw z
            (elim (ℕ_discrete (H.start % 2) 0) [
              | yes e ↦
                  ap (λ i. in_turn i f) (omega (arith, last-set H, first-low H))
                  ∙ turn_suc 0 f
                  ∙ ap (λ t. in_turn 0 f ++ t) (made-early a l (suc k) (next W) (next H).start 0 (omega arith))
                  ∙ append-nil _
              | no e ↦ ap (λ i. in_turn i f) (omega (arith, last-set H, first-low H))
            ])
      ]
    where
      f : ℕ → List RowName
      f = made_by a l (suc k) (next W) (next H).start

-- ---- a level without rows: its sets have none, and its finish makes nothing
pub rows_empty : (k : ℕ) (W H : Side) → H.length ≡ 0 → (n : ℕ) (bs : List Band) → rows_of k W H n bs ≡ []
unfolding rows_of set_has
rows_empty k W H e n [] = refl
rows_empty k W H e n (b ∷ bs) =
    simp (le-ltb (set_row H b n) (count (down b) H) (omega (arith, count_none H e (down b))))
    (go (ltb 0 (count (across b) W)) (leb (first_set H (down b)) n) ∙ rows_empty k W H e n bs)
  where
    go : (s t : Bool) → pick (both s (both t false)) (row_name k b (set_row H b n) ∷ rows_of k W H n bs) (rows_of k W H n bs) ≡ rows_of k W H n bs
    go true true = refl
    go true false = refl
    go false t = refl

pub set-empty : (l k : ℕ) (W H : Side) → H.length ≡ 0 → (n : ℕ) → set_rows l k W H n ≡ []
unfolding set_rows
set-empty l k W H e n = rows_empty k W H e n (handed_out l)

pub closing-empty : (a L k : ℕ) (W H : Side) → 1 ≤ a → H.length ≡ 0 → closing a L k W H ≡ []
unfolding closing
closing-empty a zero k W H one e = refl
closing-empty a (suc l) k W H one e =
    let z : (next H).length ≡ 0 = next-length H ∙ count_none H e lo in
    let n : last_set H + 1 - unmade a H ≡ 1 = omega (arith, last-set H, unmade-is a H) in
    rw (closing-empty a l (suc k) (next W) (next H) one z, n)
    (append-nil _ ∙ turn_suc 0 _ ∙ ap₂ ◌++◌ (turn-zero _) (ap₂ ◌++◌ (set-empty l k W H e _) (go (leb (first_set H lo) (unmade a H + 0)))))
  where
    first : unmade a H + 0 - first_set H lo ≡ 0
    first = omega (arith, last-set H, unmade-is a H)

    go : (t : Bool) → pick t (made_by a l (suc k) (next W) (next H).start (unmade a H + 0 - first_set H lo)) [] ≡ []
    go true = made-early a l (suc k) (next W) (next H).start _ (omega (arith, first))
    go false = refl
