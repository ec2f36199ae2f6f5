-- The order lists every band row that the plane of a map keeps exactly once, and nothing else, whatever the look-ahead: `made-once`.
-- By weights: whatever the names weigh, the order weighs what the levels, one after the other, weigh; then each name is weighed. Assumes nothing.
use mathlib.Core.Bool.{Bool, true, false}
use mathlib.Core.Path.{◌≡◌, refl, sym, ap, ap₂, ◌∙◌}
use mathlib.Core.List.{List, [], ◌∷◌, ◌++◌, append-nil}
use Prim.Native.Nat.{ℕ, zero, suc, ◌+◌, ◌-◌, ◌≤◌, ◌<◌}
use native.Mathlib.Decide.{dec_lt}
use native.Mathlib.Omega.{arith}
use lib.Dec.{ltb, eqb, leb-suc-suc, eqb-suc-suc}
use borrow.Author.Tests.{lt-ltb, le-ltb, le-leb, lt-leb, eq-eqb, ne_eqb}
use Rattle.numbers.specs.Signal.{pick, both}
use Rattle.lifting.specs.Line.{Half, lo, hi}
use Rattle.lifting.specs.Grid.{Side, count}
use Rattle.wavelet.specs.Bands.{Band, LL, HL, LH, HH, code, across, down}
use Rattle.wavelet.specs.Questions.{within}
use Rattle.wavelet.specs.ViewCall.{kept_at, band_row_exists}
use Rattle.wavelet.specs.Order.{RowName, row_name, handed_out, in_turn, same_name, times, first_set, last_set, set_row, set_has, rows_of, set_rows, made_by, closing}
use Rattle.wavelet.specs.Order.{made}
use Rattle.wavelet.proofs.OrderLaws.{turn-none, makes, passed, last-set, first-low, first-high, map-made, passed-all}
use Rattle.wavelet.specs.Levels.{next, side_at}
use Rattle.wavelet.specs.View.{band_rows, band_columns}
use Rattle.wavelet.proofs.SideLaws.{count-lo, count-hi, size-inner}
use Rattle.wavelet.proofs.Weights.{weigh, weigh-append, weigh-both, weigh-none, weigh-one, hit, times-weigh}

-- ---- the same names, level by level
-- what the order has of a level and of those below it
abbrev pub ordered : ℕ → ℕ → ℕ → Side → Side → List RowName
ordered a l k W H = in_turn H.length (made_by a l k W H.start) ++ closing a l k W H

pub ordered-none : (a k : ℕ) (W H : Side) → ordered a 0 k W H ≡ []
unfolding made_by closing
ordered-none a k W H = append-nil _ ∙ turn-none H.length

-- it weighs what the sets of the level weigh, and what those below it weigh
pub ordered-weighs : (f : RowName → ℕ) (a l k : ℕ) (W H : Side) → 1 ≤ a →
    weigh f (ordered a (suc l) k W H) ≡ weigh f (in_turn (last_set H + 1) (set_rows l k W H)) + weigh f (ordered a l (suc k) (next W) (next H))
ordered-weighs f a l k W H one =
    let N = last_set H + 1 in
    let rest = closing a l (suc k) (next W) (next H) in
    let below = in_turn (next H).length (made_by a l (suc k) (next W) (next H).start) in
    ap (weigh f) (map-made a l k W one H)
    ∙ weigh-append f (in_turn N (makes a l k W H)) rest
    ∙ ap (λ i. i + weigh f rest)
    (weigh-both f N (set_rows l k W H) (passed a l k W H) ∙ ap (λ t. weigh f (in_turn N (set_rows l k W H)) + weigh f t) (passed-all a l k W one H))
    ∙ omega (arith, weigh-append f below rest)

unfoldable by_levels : ℕ → ℕ → Side → Side → List RowName
by_levels zero k W H = []
by_levels (suc l) k W H = in_turn (last_set H + 1) (set_rows l k W H) ++ by_levels l (suc k) (next W) (next H)

whole-map : (f : RowName → ℕ) (a L k : ℕ) (W H : Side) → 1 ≤ a → weigh f (ordered a L k W H) ≡ weigh f (by_levels L k W H)
unfolding by_levels
whole-map f a zero k W H one = ap (weigh f) (ordered-none a k W H)
whole-map f a (suc l) k W H one =
    ordered-weighs f a l k W H one
    ∙ ap (λ i. weigh f (in_turn (last_set H + 1) (set_rows l k W H)) + i) (whole-map f a l (suc k) (next W) (next H) one)
    ∙ sym (weigh-append f (in_turn (last_set H + 1) (set_rows l k W H)) _)

-- ---- one name
other-level : (x y : RowName) → (x.level ≡ y.level → ⊥) → same_name x y ≡ false
unfolding same_name
other-level x y h = simp (ne_eqb x.level y.level h)

same-level : (k n m : ℕ) (b c : Band) → same_name (row_name k b n) (row_name k c m) ≡ both (eqb (code b) (code c)) (eqb n m)
unfolding same_name
same-level k n m b c = simp (eq-eqb k k refl)

-- names of no weight
rows_none : (f : RowName → ℕ) (k : ℕ) (W H : Side) (i : ℕ) → ((b : Band) (n : ℕ) → f (row_name k b n) ≡ 0) → (bs : List Band) → weigh f (rows_of k W H i bs) ≡ 0
unfolding rows_of weigh
rows_none f k W H i e [] = refl
rows_none f k W H i e (b ∷ bs) = go (set_has W H b i) (rows_none f k W H i e bs)
  where
    go : (t : Bool) → weigh f (rows_of k W H i bs) ≡ 0 → weigh f (pick t (row_name k b (set_row H b i) ∷ rows_of k W H i bs) (rows_of k W H i bs)) ≡ 0
    go true h = omega (arith, e b (set_row H b i))
    go false h = h

-- is band b handed out of a level with l levels below it?
unfoldable out : ℕ → Band → Bool
out zero b = true
out (suc l) LL = false
out (suc l) HL = true
out (suc l) LH = true
out (suc l) HH = true

idle : (s t : Bool) → ◌≡◌ {A = ℕ} (pick s (pick (both false t) 1 0) 0) 0
idle true t = refl
idle false t = refl

nested : (s t : Bool) → ◌≡◌ {A = ℕ} (pick s (pick t 1 0) 0) (pick (both s t) 1 0)
nested true t = refl
nested false t = refl

never : (s : Bool) → both s false ≡ false
never true = refl
never false = refl

-- is row n of band b in set i?
abbrev in_set : Side → Side → ℕ → Band → ℕ → Bool
in_set W H i b n = both (set_has W H b i) (eqb n (set_row H b i))

module _ (k : ℕ) (W H : Side) (i : ℕ) where
  -- how often it stands among the set's rows of these bands
  among : Band → ℕ → List Band → ℕ
  among b n [] = 0
  among b n (c ∷ bs) = pick (set_has W H c i) (pick (both (eqb (code b) (code c)) (eqb n (set_row H c i))) 1 0) 0 + among b n bs

  rows-times : (b : Band) (n : ℕ) (bs : List Band) → weigh (hit (row_name k b n)) (rows_of k W H i bs) ≡ among b n bs
  unfolding rows_of weigh among
  rows-times b n [] = refl
  rows-times b n (c ∷ bs) = go (set_has W H c i) (rows-times b n bs)
    where
      go : (t : Bool) → weigh (hit (row_name k b n)) (rows_of k W H i bs) ≡ among b n bs →
          weigh (hit (row_name k b n)) (pick t (row_name k c (set_row H c i) ∷ rows_of k W H i bs) (rows_of k W H i bs)) ≡ pick t
          (pick (both (eqb (code b) (code c)) (eqb n (set_row H c i))) 1 0) 0 + among b n bs
      go true h = ap₂ (λ s j. pick s 1 0 + j) (same-level k n (set_row H c i) b c) h
      go false h = omega arith

  set-times : (l : ℕ) (b : Band) (n : ℕ) → weigh (hit (row_name k b n)) (set_rows l k W H i) ≡ pick (both (out l b) (in_set W H i b n)) 1 0
  unfolding set_rows
  set-times l b n = rows-times b n (handed_out l) ∙ go l b
    where
      other : (c : Band) → ◌≡◌ {A = ℕ} (pick (set_has W H c i) (pick (both false (eqb n (set_row H c i))) 1 0) 0) 0
      other c = idle (set_has W H c i) (eqb n (set_row H c i))

      own : (c : Band) → ◌≡◌ {A = ℕ} (pick (set_has W H c i) (pick (eqb n (set_row H c i)) 1 0) 0) (pick (in_set W H i c n) 1 0)
      own c = nested (set_has W H c i) (eqb n (set_row H c i))

      go : (l : ℕ) (b : Band) → among b n (handed_out l) ≡ pick (both (out l b) (in_set W H i b n)) 1 0
      go zero LL = unfold among handed_out out code in omega (arith, own LL, other HL, other LH, other HH)
      go zero HL = unfold among handed_out out code in omega (arith, other LL, own HL, other LH, other HH)
      go zero LH = unfold among handed_out out code in omega (arith, other LL, other HL, own LH, other HH)
      go zero HH = unfold among handed_out out code in omega (arith, other LL, other HL, other LH, own HH)
      go (suc l) LL = unfold among handed_out out code in omega (arith, other HL, other LH, other HH)
      go (suc l) HL = unfold among handed_out out code in omega (arith, own HL, other LH, other HH)
      go (suc l) LH = unfold among handed_out out code in omega (arith, other HL, own LH, other HH)
      go (suc l) HH = unfold among handed_out out code in omega (arith, other HL, other LH, own HH)

-- ---- a row of a band is in one set: set first_set + n has row n
-- has the band a row n?
abbrev has_row : Side → Side → Band → ℕ → Bool
has_row W H b n = both (ltb 0 (count (across b) W)) (ltb n (count (down b) H))

module _ (W H : Side) (b : Band) (n : ℕ) where
  abbrev own-set : ℕ
  own-set = first_set H (down b) + n

  in-own : in_set W H own-set b n ≡ has_row W H b n
  unfolding set_has set_row
  in-own =
      let e : first_set H (down b) + n - first_set H (down b) ≡ n = omega arith in
      simp (le-leb (first_set H (down b)) (first_set H (down b) + n) (omega arith), e, eq-eqb n n refl)
      (go (ltb 0 (count (across b) W)) (ltb n (count (down b) H)))
    where
      go : (s t : Bool) → both (both s t) true ≡ both s t
      go true true = refl
      go true false = refl
      go false t = refl

  not_in : (i : ℕ) → (i ≡ own-set → ⊥) → in_set W H i b n ≡ false
  unfolding set_has set_row
  not_in i d =
      elim (dec_lt i (first_set H (down b))) [
        | yes p ↦ simp (lt-leb (first_set H (down b)) i p) (none (ltb 0 (count (across b) W)) _)
        | no p ↦ simp (ne_eqb n (i - first_set H (down b)) (λ e. d (omega arith))) (never (set_has W H b i))
      ]
    where
      none : (s t : Bool) → both (both s false) t ≡ false
      none true t = refl
      none false t = refl

  -- and where the level does not have that set, the band does not have the row
  past : last_set H < own-set → has_row W H b n ≡ false
  past h = ap (both (ltb 0 (count (across b) W))) (le-ltb n (count (down b) H) (go (down b) h)) ∙ never (ltb 0 (count (across b) W))
    where
      go : (y : Half) → last_set H < first_set H y + n → count y H ≤ n
      go lo p = omega (arith, last-set H, first-low H, count-lo H)
      go hi p = omega (arith, last-set H, first-high H, count-hi H)

level-times : (l k : ℕ) (W H : Side) (b : Band) (n : ℕ) → weigh (hit (row_name k b n)) (in_turn (last_set H + 1) (set_rows l k W H)) ≡ pick
    (both (out l b) (has_row W H b n)) 1 0
level-times l k W H b n =
    elim (dec_lt (first_set H (down b) + n) (last_set H + 1)) [
      | yes p ↦
          weigh-one (hit (row_name k b n)) (last_set H + 1) (set_rows l k W H) (first_set H (down b) + n) p another
          ∙ set-times k W H (first_set H (down b) + n) l b n
          ∙ ap (λ t. pick (both (out l b) t) 1 0) (in-own W H b n)
      | no p ↦
          weigh-none (hit (row_name k b n)) (last_set H + 1) (set_rows l k W H) (λ i q. another i (λ z. p (omega arith)))
          ∙ sym (ap (λ t. pick (both (out l b) t) 1 0) (past W H b n (omega (arith, p))) ∙ go (out l b))
    ]
  where
    go : (t : Bool) → ◌≡◌ {A = ℕ} (pick (both t false) 1 0) 0
    go true = refl
    go false = refl

    another : (i : ℕ) → (i ≡ first_set H (down b) + n → ⊥) → weigh (hit (row_name k b n)) (set_rows l k W H i) ≡ 0
    another i e = set-times k W H i l b n ∙ ap (λ t. pick (both (out l b) t) 1 0) (not_in W H b n i e) ∙ go (out l b)

level-other : (x : RowName) (l k : ℕ) (W H : Side) → (x.level ≡ k → ⊥) → weigh (hit x) (in_turn (last_set H + 1) (set_rows l k W H)) ≡ 0
unfolding set_rows
level-other x l k W H e =
    weigh-none (hit x) (last_set H + 1) _
    (λ i p. rows_none (hit x) k W H i (λ b n. ap (λ t. pick t 1 0) (other-level x (row_name k b n) e)) (handed_out l))

levels-before : (x : RowName) (L k : ℕ) (W H : Side) → x.level < k → weigh (hit x) (by_levels L k W H) ≡ 0
unfolding by_levels weigh
levels-before x zero k W H h = refl
levels-before x (suc l) k W H h =
    weigh-append (hit x) (in_turn (last_set H + 1) (set_rows l k W H)) _
    ∙ omega (arith, level-other x l k W H (λ e. omega arith), levels-before x l (suc k) (next W) (next H) (omega arith))

-- does the plane of L levels of W × H keep row n of band b of its level 1 + j?
unfoldable kept : ℕ → ℕ → Side → Side → Band → ℕ → Bool
kept zero j W H b n = false
kept (suc l) zero W H b n = both (out l b) (has_row W H b n)
kept (suc l) (suc j) W H b n = kept l j (next W) (next H) b n

levels-times : (L k : ℕ) (W H : Side) (j : ℕ) (b : Band) (n : ℕ) → weigh (hit (row_name (k + j) b n)) (by_levels L k W H) ≡ pick (kept L j W H b n) 1 0
unfolding by_levels kept weigh
levels-times zero k W H j b n = refl
levels-times (suc l) k W H zero b n =
    let e : k + 0 ≡ k = omega arith in
    rw (e, weigh-append)
    (omega (arith, level-times l k W H b n, levels-before (row_name k b n) l (suc k) (next W) (next H) (omega arith)))
levels-times (suc l) k W H (suc j) b n =
    let e : k + suc j ≡ suc k + j = omega arith in
    rw (e, weigh-append)
    (omega (arith, level-other (row_name (suc k + j) b n) l k W H (λ e. omega arith), levels-times l (suc k) (next W) (next H) j b n))

-- that is the view's own test
exists-none : (W H : Side) (j : ℕ) (b : Band) (n : ℕ) → band_row_exists W H 0 (suc j) b n ≡ false
unfolding band_row_exists within
exists-none W H j b n = simp (lt-ltb 0 (suc j) (omega arith), le-ltb j 0 (omega arith))

exists-first : (l : ℕ) (W H : Side) (b : Band) (n : ℕ) → band_row_exists W H (suc l) 1 b n ≡ both (kept_at (suc l) 1 b) (has_row W H b n)
unfolding band_row_exists within band_columns band_rows side_at
exists-first l W H b n = simp (lt-ltb 0 (suc l) (omega arith))

kept-first : (l : ℕ) (b : Band) → kept_at (suc l) 1 b ≡ out l b
unfolding kept_at out
kept-first zero LL = refl
kept-first (suc l) LL = ne_eqb 1 (suc (suc l)) (λ e. omega arith)
kept-first zero HL = refl
kept-first zero LH = refl
kept-first zero HH = refl
kept-first (suc l) HL = refl
kept-first (suc l) LH = refl
kept-first (suc l) HH = refl

kept-deeper : (l j : ℕ) (b : Band) → kept_at (suc l) (suc (suc j)) b ≡ kept_at l (suc j) b
unfolding kept_at
kept-deeper l j LL = eqb-suc-suc (suc j) l
kept-deeper l j HL = refl
kept-deeper l j LH = refl
kept-deeper l j HH = refl

exists-deeper : (l j : ℕ) (W H : Side) (b : Band) (n : ℕ) → band_row_exists W H (suc l) (suc (suc j)) b n ≡ band_row_exists (next W) (next H) l (suc j) b n
unfolding band_row_exists within band_columns band_rows
exists-deeper l j W H b n =
    let e : suc (suc j) - 1 ≡ suc j = omega arith in
    let f : suc j - 1 ≡ j = omega arith in
    simp (lt-ltb 0 (suc (suc j)) (omega arith), lt-ltb 0 (suc j) (omega arith), leb-suc-suc (suc j) l, kept-deeper l j b, e, f, size-inner j W, size-inner j H)

kept-is : (L j : ℕ) (W H : Side) (b : Band) (n : ℕ) → kept L j W H b n ≡ band_row_exists W H L (suc j) b n
unfolding kept
kept-is zero j W H b n = sym (exists-none W H j b n)
kept-is (suc l) zero W H b n = sym (exists-first l W H b n ∙ ap (λ t. both t (has_row W H b n)) (kept-first l b))
kept-is (suc l) (suc j) W H b n = kept-is l j (next W) (next H) b n ∙ sym (exists-deeper l j W H b n)

exists-zero : (W H : Side) (L : ℕ) (b : Band) (n : ℕ) → band_row_exists W H L 0 b n ≡ false
unfolding band_row_exists within
exists-zero W H L b n = refl

-- ---- the theorem
pub made-once : (a : ℕ) → 1 ≤ a → (W H : Side) (L : ℕ) (x : RowName)
    → times x (made a W H.start L H.length true) ≡ pick (band_row_exists W H L x.level x.band x.row) 1 0
unfolding made
made-once a one W H L x = times-weigh x _ ∙ whole-map (hit x) a L 1 W H one ∙ go x.level x.band x.row
  where
    go : (v : ℕ) (b : Band) (n : ℕ) → weigh (hit (row_name v b n)) (by_levels L 1 W H) ≡ pick (band_row_exists W H L v b n) 1 0
    go zero b n = levels-before (row_name 0 b n) L 1 W H (omega arith) ∙ sym (ap (λ t. pick t 1 0) (exists-zero W H L b n))
    go (suc j) b n =
        ap (λ v. weigh (hit (row_name v b n)) (by_levels L 1 W H)) (omega arith)
        ∙ levels-times L 1 W H j b n
        ∙ ap (λ t. pick t 1 0) (kept-is L j W H b n)
