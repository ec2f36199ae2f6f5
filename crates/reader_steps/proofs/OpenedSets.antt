-- Where each level is while a height row is waited for, whatever the look-ahead. Assumes nothing.
use mathlib.Core.Bool.{true, false}
use mathlib.Core.Path.{◌≡◌, refl, sym, ap, ◌∙◌}
use Prim.Native.Nat.{ℕ, zero, suc, ◌+◌, ◌-◌, ◌*◌, ◌/◌, ◌%◌, min, ◌≤◌, ◌<◌}
use native.Mathlib.Decide.{ℕ_discrete}
use native.Mathlib.Omega.{arith}
use lib.Dec.{eqb}
use Rattle.numbers.specs.Signal.{pick}
use borrow.Author.Tests.{ltb-true, ltb-false, eq-eqb, ne_eqb, leb-true, leb-false, le-leb}
use Rattle.lifting.specs.Line.{lo}
use Rattle.lifting.specs.Grid.{Side, count}
use Rattle.wavelet.specs.Levels.{next, side_at}
use Rattle.wavelet.specs.Order.{first_set, last_set}
use Rattle.wavelet.specs.Steps.{set_to, set_of, sets_before}
use Rattle.wavelet.proofs.StepLaws.{to-first, to-later, set-of, set_there, set-rises, set_last, before-zero, before-suc, before-rises}
use Rattle.filters.proofs.Filters.{filter-laws}
use Rattle.level.specs.Sets.{opens}
use Rattle.reader_steps.specs.Sets.{ahead, has_row, row_of, taking, needed, row_to, first_row, makes, waiting, waits_at}

-- a filter looks ahead
pub looks : (f : ℕ) → 1 ≤ ahead f
looks f = (filter-laws f).ahead-some

-- ---- the sides, by numbers
pub last-is : (S : Side) → last_set S ≡ (S.start % 2 + (S.length - 1)) / 2
unfolding last_set
last-is S = refl

pub first-low : (S : Side) → first_set S lo ≡ S.start % 2
unfolding first_set
first-low S = refl

pub low-is : (S : Side) → count lo S ≡ (S.length + 1 - S.start % 2) / 2
unfolding count
low-is S = refl

pub side-long : (k : ℕ) (S : Side) → (side_at (suc k) S).length ≡ count lo (side_at k S)
unfolding side_at next
side-long k S = refl

-- ---- the sets of rows
pub set-mono : (f : ℕ) (S : Side) (r q : ℕ) → r ≤ q → set_of (ahead f) S r ≤ set_of (ahead f) S q
set-mono f S r zero h = let e : r ≡ 0 = omega arith in rw e (omega arith)
set-mono f S r (suc q) h = elim (ℕ_discrete r (suc q)) [
  | yes e ↦ rw e (omega arith)
  | no e ↦ omega (arith, set-mono f S r q (omega (arith, e)), set-rises (ahead f) S q)
]

to_at : (f q t : ℕ) → q ≡ suc t → set_to (ahead f) q ≡ t / 2 + ahead f
to_at f q t e = ap (set_to (ahead f)) e ∙ to-later (ahead f) t

-- the first row that needs set n or a later one: no row before it needs set n,
fewer : (f : ℕ) (S : Side) (r q : ℕ) → r ≤ q → sets_before (ahead f) S r ≤ sets_before (ahead f) S q
fewer f S r zero h = let e : r ≡ 0 = omega arith in rw e (omega arith)
fewer f S r (suc q) h = elim (ℕ_discrete r (suc q)) [
  | yes e ↦ rw e (omega arith)
  | no e ↦ omega (arith, fewer f S r q (omega (arith, e)), before-rises (ahead f) S q)
]

row_is : (f : ℕ) (S : Side) (n : ℕ) → first_row f S (suc n) ≡ min (row_to f S (suc n)) (S.length - 1)
unfolding first_row
row_is f S n = refl

to-before : (f : ℕ) (S : Side) (n r : ℕ) → row_to f S (suc n) ≡ r → sets_before (ahead f) S r ≤ suc n
to-before f S n zero e = omega (arith, before-zero (ahead f) S)
to-before f S n (suc r) e = at (suc n - ahead f) refl
  where
    at : (t : ℕ) → suc n - ahead f ≡ t → sets_before (ahead f) S (suc r) ≤ suc n
    at zero z =
        let u : set_to (ahead f) (S.start % 2 + r) ≡ 0 = ap (set_to (ahead f)) (omega arith) ∙ to-first (ahead f) in
        omega (arith, before-suc (ahead f) S r, set-of (ahead f) S r, u)
    at (suc t) z =
        let u = to_at f (S.start % 2 + r) (2 * t + 1) (omega arith) in
        omega (arith, before-suc (ahead f) S r, set-of (ahead f) S r, u)

pub row-before : (f : ℕ) (S : Side) (n : ℕ) → sets_before (ahead f) S (first_row f S n) ≤ n
row-before f S zero = unfold first_row in omega (arith, before-zero (ahead f) S)
row-before f S (suc n) =
    let a = fewer f S (first_row f S (suc n)) (row_to f S (suc n)) (omega (arith, row_is f S n)) in
    omega (arith, a, to-before f S n (row_to f S (suc n)) refl)

-- and it does, if the level has such a set; then it is a row of the level
within : (f : ℕ) (S : Side) (n : ℕ) → suc n ≤ last_set S → first_row f S (suc n) ≡ row_to f S (suc n)
within f S n h = omega (arith, row_is f S n, looks f, last-is S)

pub row-makes : (f : ℕ) (S : Side) (n : ℕ) → n ≤ last_set S → n ≤ set_of (ahead f) S (first_row f S n)
row-makes f S zero h = omega arith
row-makes f S (suc n) h =
    let u = to_at f (S.start % 2 + row_to f S (suc n)) (2 * (suc n - ahead f)) (omega arith) in
    rw (within f S n h) (omega (arith, set-of (ahead f) S (row_to f S (suc n)), u))

pub row-there : (f : ℕ) (S : Side) (n : ℕ) → 0 < S.length → first_row f S n < S.length
row-there f S zero p = unfold first_row in p
row-there f S (suc n) p = omega (arith, row_is f S n)

pub row_in : (f : ℕ) (S : Side) (n : ℕ) → first_row f S n ≤ S.length
row_in f S zero = unfold first_row in omega arith
row_in f S (suc n) = omega (arith, row_is f S n)

-- no other row is so
to-only : (f : ℕ) (S : Side) (n r : ℕ) → sets_before (ahead f) S r ≤ suc n → suc n ≤ set_of (ahead f) S r → row_to f S (suc n) ≡ r
to-only f S n zero b m = at (S.start % 2) refl
  where
    at : (p : ℕ) → S.start % 2 ≡ p → row_to f S (suc n) ≡ 0
    at zero e =
        let u : set_to (ahead f) (S.start % 2 + 0) ≡ 0 = ap (set_to (ahead f)) (omega arith) ∙ to-first (ahead f) in
        absurd (omega (arith, set-of (ahead f) S 0, u))
    at (suc p) e = omega (arith, set-of (ahead f) S 0, to_at f (S.start % 2 + 0) p (omega arith))
to-only f S n (suc r) b m = at (S.start % 2 + r) refl
  where
    at : (q : ℕ) → S.start % 2 + r ≡ q → row_to f S (suc n) ≡ suc r
    at zero e =
        let u = to_at f (S.start % 2 + suc r) 0 (omega arith) in
        omega (arith, set-of (ahead f) S (suc r), u)
    at (suc q) e =
        let u = to_at f (S.start % 2 + suc r) (suc q) (omega arith) in
        let g = to_at f (S.start % 2 + r) q e in
        omega (arith, before-suc (ahead f) S r, set-of (ahead f) S r, set-of (ahead f) S (suc r), u, g)

pub row-only : (f : ℕ) (S : Side) (n r : ℕ) → sets_before (ahead f) S r ≤ n → n ≤ set_of (ahead f) S r → first_row f S n ≡ r
row-only f S zero zero b m = unfold first_row in refl
row-only f S zero (suc r) b m = absurd (omega (arith, before-suc (ahead f) S r))
row-only f S (suc n) r b m = within f S n (omega (arith, set_there (ahead f) S r)) ∙ to-only f S n r b m

-- a set that makes no row leaves the next set to make it
pub makes-yes : (f : ℕ) (S : Side) (n : ℕ) → makes f S n ≡ true → set_of (ahead f) S (first_row f S n) ≤ n
unfolding makes
makes-yes f S n e = leb-true _ _ e

pub makes-not : (f : ℕ) (S : Side) (n : ℕ) → makes f S n ≡ false → n < set_of (ahead f) S (first_row f S n)
unfolding makes
makes-not f S n e = omega (arith, leb-false (set_of (ahead f) S (first_row f S n)) n e)

pub row_next : (f : ℕ) (S : Side) (n : ℕ) → makes f S n ≡ false → first_row f S (suc n) ≡ first_row f S n
row_next f S n e = row-only f S (suc n) (first_row f S n) (omega (arith, row-before f S n)) (makes-not f S n e)

pub makes-last : (f : ℕ) (S : Side) (n : ℕ) → n ≡ last_set S → makes f S n ≡ true
unfolding makes
makes-last f S n e = le-leb (set_of (ahead f) S (first_row f S n)) n (omega (arith, set_there (ahead f) S (first_row f S n)))

-- a first set without a low row makes a row only where it is the last
pub odd-first : (f : ℕ) (S : Side) (n : ℕ) → n < S.start % 2 → makes f S n ≡ true → last_set S ≡ 0
unfolding makes first_row
odd-first f S zero p e =
    let a = leb-true (set_of (ahead f) S 0) 0 e in
    omega (arith, a, looks f, set-of (ahead f) S 0, to_at f (S.start % 2 + 0) 0 (omega arith))
odd-first f S (suc n) p e = absurd (omega arith)

-- ---- the sets that a row needs and no row before it
pub opens-yes : (f : ℕ) (S : Side) (r : ℕ) → opens (ahead f) S r ≡ true → sets_before (ahead f) S r ≤ set_of (ahead f) S r
unfolding opens
opens-yes f S r e = omega (arith, ltb-true (sets_before (ahead f) S r) (sets_before (ahead f) S (suc r)) e, before-suc (ahead f) S r)

pub sets-none : (f : ℕ) (S : Side) (r : ℕ) → opens (ahead f) S r ≡ false → sets_before (ahead f) S (suc r) - sets_before (ahead f) S r ≡ 0
unfolding opens
sets-none f S r e = let p = ltb-false (sets_before (ahead f) S r) (sets_before (ahead f) S (suc r)) e in omega arith

pub opened-row : (f : ℕ) (S : Side) (r : ℕ) → opens (ahead f) S r ≡ true → first_row f S (sets_before (ahead f) S r) ≡ r
opened-row f S r e = row-only f S (sets_before (ahead f) S r) r (omega arith) (opens-yes f S r e)

-- ---- rows that are so many apart
far : (f : ℕ) (S : Side) (r : ℕ) → set_of (ahead f) S (r + (2 * ahead f - 1)) ≤ sets_before (ahead f) S r + (2 * ahead f - 1)
far f S zero = at (S.start % 2 + (0 + (2 * ahead f - 1))) refl
  where
    at : (q : ℕ) → S.start % 2 + (0 + (2 * ahead f - 1)) ≡ q → set_of (ahead f) S (0 + (2 * ahead f - 1)) ≤ sets_before (ahead f) S 0 + (2 * ahead f - 1)
    at zero e = absurd (omega (arith, looks f))
    at (suc q) e =
        let u = to_at f (S.start % 2 + (0 + (2 * ahead f - 1))) q e in
        omega (arith, looks f, before-zero (ahead f) S, set-of (ahead f) S (0 + (2 * ahead f - 1)), u)
far f S (suc r) = at (S.start % 2 + r) refl
  where
    u : set_to (ahead f) (S.start % 2 + (suc r + (2 * ahead f - 1))) ≡ (S.start % 2 + (r + (2 * ahead f - 1))) / 2 + ahead f
    u = to_at f (S.start % 2 + (suc r + (2 * ahead f - 1))) (S.start % 2 + (r + (2 * ahead f - 1))) (omega arith)

    at : (q : ℕ) → S.start % 2 + r ≡ q → set_of (ahead f) S (suc r + (2 * ahead f - 1)) ≤ sets_before (ahead f) S (suc r) + (2 * ahead f - 1)
    at zero e = omega (arith, looks f, before-suc (ahead f) S r, set-of (ahead f) S (suc r + (2 * ahead f - 1)), u)
    at (suc q) e =
        let v = to_at f (S.start % 2 + r) q e in
        omega (arith, looks f, before-suc (ahead f) S r, set-of (ahead f) S r, set-of (ahead f) S (suc r + (2 * ahead f - 1)), u, v)

-- ---- numbers and the rows that they take
pub row-taking : (H : Side) (k r : ℕ) → row_of H k (taking H k r) ≡ r
unfolding row_of taking
row-taking H zero r = refl
row-taking H (suc k) r = omega arith

pub taking-row : (H : Side) (k n : ℕ) → has_row H k n ≡ true → taking H k (row_of H k n) ≡ n
unfolding row_of taking has_row
taking-row H zero n h = refl
taking-row H (suc k) n h = let p = leb-true (first_set (side_at k H) lo) n h in omega arith

pub taking-has : (H : Side) (k r : ℕ) → has_row H k (taking H k r) ≡ true
unfolding taking has_row
taking-has H zero r = refl
taking-has H (suc k) r = le-leb (first_set (side_at k H) lo) (r + first_set (side_at k H) lo) (omega arith)

row_up : (H : Side) (k m n : ℕ) → m ≤ n → row_of H k m ≤ row_of H k n
unfolding row_of
row_up H zero m n h = h
row_up H (suc k) m n h = omega arith

row_near : (H : Side) (k m n c : ℕ) → n ≤ m + c → row_of H k n ≤ row_of H k m + c
unfolding row_of
row_near H zero m n c h = h
row_near H (suc k) m n c h = omega arith

-- ---- the chains
module _ (f : ℕ) (H : Side) where
  pub needed_here : (k n : ℕ) → needed f H k n k ≡ n
  unfolding needed
  needed_here zero n = refl
  needed_here (suc k) n = rw (eq-eqb (suc k) (suc k) refl) refl

  pub needed-next : (k n j : ℕ) → k ≤ j → needed f H k n (suc j) ≡ set_of (ahead f) (side_at j H) (row_of H j (needed f H k n j))
  unfolding needed
  needed-next k n j h = rw (ne_eqb k (suc j) (λ z. omega arith)) refl

  pub needed-from : (k n : ℕ) → needed f H k n (suc k) ≡ set_of (ahead f) (side_at k H) (row_of H k n)
  needed-from k n = needed-next k n k (omega arith) ∙ ap (λ i. set_of (ahead f) (side_at k H) (row_of H k i)) (needed_here k n)

  -- from the next level on
  pub needed-on : (k n m : ℕ) → needed f H k n (suc k) ≡ m → (j : ℕ) → suc k ≤ j → needed f H k n j ≡ needed f H (suc k) m j
  needed-on k n m e zero h = absurd (omega arith)
  needed-on k n m e (suc j) h = elim (ℕ_discrete j k) [
    | yes z ↦ rw z (e ∙ sym (needed_here (suc k) m))
    | no z ↦
        needed-next k n j (omega arith)
        ∙ ap (λ i. set_of (ahead f) (side_at j H) (row_of H j i)) (needed-on k n m e j (omega (arith, z)))
        ∙ sym (needed-next (suc k) m j (omega (arith, z)))
  ]

  pub waits-here : (k n : ℕ) → waits_at f H k n k ≡ n
  unfolding waits_at
  waits-here zero n = refl
  waits-here (suc k) n = rw (eq-eqb (suc k) (suc k) refl) refl

  pub waits-finer : (k n j : ℕ) → j ≤ k → waits_at f H (suc k) n j ≡ waits_at f H k (waiting f H k n) j
  unfolding waits_at
  waits-finer k n j h = rw (ne_eqb j (suc k) (λ z. omega arith)) refl

  -- ---- numbers that there are
  abbrev pub There : ℕ → ℕ → Type 0
  There zero n = n < H.length
  There (suc k) n = (0 < (side_at k H).length) × (n ≤ last_set (side_at k H))

  pub taking-there : (k r : ℕ) → r < (side_at k H).length → There k (taking H k r)
  unfolding taking
  taking-there zero r h = unfold side_at in h
  taking-there (suc k) r h =
      let S = side_at k H in
      (omega (arith, h, side-long k H, low-is S), omega (arith, h, side-long k H, low-is S, last-is S, first-low S))

  pub waiting-there : (k n : ℕ) → There (suc k) n → There k (waiting f H k n)
  unfolding waiting
  waiting-there k n t = taking-there k (first_row f (side_at k H) n) (row-there f (side_at k H) n t.0)

  pub waiting-row : (k n : ℕ) → row_of H k (waiting f H k n) ≡ first_row f (side_at k H) n
  unfolding waiting
  waiting-row k n = row-taking H k (first_row f (side_at k H) n)

  -- a number that row d waits for is one of the last that row d needs
  pub in-back : (d k n : ℕ) → There k n → waits_at f H k n 0 ≡ d → (n ≤ needed f H 0 d k) × (needed f H 0 d k ≤ n + (2 * ahead f - 1))
  unfolding needed waits_at
  in-back d zero n t e = (omega arith, omega arith)
  in-back d (suc k) n t e = go (in-back d k (waiting f H k n) (waiting-there k n t) (sym (waits-finer k n 0 (omega arith)) ∙ e))
    where
      S : Side
      S = side_at k H

      m : ℕ
      m = needed f H 0 d k

      r : ℕ
      r = first_row f S n

      go : (waiting f H k n ≤ m) × (m ≤ waiting f H k n + (2 * ahead f - 1)) →
          (n ≤ pick (eqb 0 (suc k)) d (set_of (ahead f) S (row_of H k m))) × (pick (eqb 0 (suc k)) d (set_of (ahead f) S (row_of H k m)) ≤ n + (2 * ahead f - 1))
      go ih =
          let low = row_up H k (waiting f H k n) m ih.0 in
          let high = row_near H k (waiting f H k n) m (2 * ahead f - 1) ih.1 in
          let is = waiting-row k n in
          let a = set-mono f S r (row_of H k m) (omega arith) in
          let b = set-mono f S (row_of H k m) (r + (2 * ahead f - 1)) (omega arith) in
          rw (ne_eqb 0 (suc k) (λ z. omega arith)) (omega (arith, a, row-makes f S n t.1), omega (arith, b, far f S r, row-before f S n))

-- ---- while the last row of a map is waited for, every level is at its last set
last-from : (f : ℕ) (H : Side) (k : ℕ) → 0 < (side_at k H).length → row_of H k (needed f H 0 (H.length - 1) k) ≡ (side_at k H).length - 1 →
    needed f H 0 (H.length - 1) (suc k) ≡ last_set (side_at k H)
last-from f H k p e =
    needed-next f H 0 (H.length - 1) k (omega arith)
    ∙ ap (set_of (ahead f) (side_at k H)) e ∙ set_last (ahead f) (side_at k H) ((side_at k H).length - 1) (looks f) (omega arith)

last_row : (f : ℕ) (H : Side) (k : ℕ) → 0 < (side_at k H).length → row_of H k (needed f H 0 (H.length - 1) k) ≡ (side_at k H).length - 1
last_row f H zero p = unfold row_of needed side_at in refl
last_row f H (suc k) p =
    let S = side_at k H in
    let long = side-long k H in
    let q : 0 < S.length = omega (arith, p, long, low-is S) in
    below (last-from f H k q (last_row f H k q))
  where
    below : needed f H 0 (H.length - 1) (suc k) ≡ last_set (side_at k H) → row_of H (suc k) (needed f H 0 (H.length - 1) (suc k)) ≡ (side_at (suc k) H).length - 1
    below n = unfold row_of in
        omega (arith, n, p, side-long k H, low-is (side_at k H), last-is (side_at k H), first-low (side_at k H))

pub last-needed : (f : ℕ) (H : Side) (k : ℕ) → 0 < (side_at k H).length → needed f H 0 (H.length - 1) (suc k) ≡ last_set (side_at k H)
last-needed f H k p = last-from f H k p (last_row f H k p)
