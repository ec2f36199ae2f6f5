-- A row in halves lifted back, its high half read from another row: a turn of each of the two loops, and what both come to. Assumes nothing.
use mathlib.Core.Path.{◌≡◌, refl, sym, ap, ◌∙◌, fun_ext}
use mathlib.Core.List.{List}
use Prim.Native.Nat.{ℕ, ◌+◌, ◌-◌, ◌%◌, ◌≤◌, ◌<◌}
use native.Mathlib.Decide.{dec_lt}
use native.Mathlib.Omega.{arith}
use lib.IntN.{ℤ, pos}
use lib.ListN.{length, set, length-set, get_or-eq_default}
use borrow.Author.Tests.{lt-ltb, le-ltb}
use borrow.Rule.Slice.PartMut.{mid_of, put_mid}
use Rattle.numbers.specs.Signal.{at, windowed, spliced}
use Rattle.numbers.specs.Word.{wrap32}
use Rattle.numbers.proofs.Sweep.{Swept, store, finish}
use Rattle.numbers.proofs.Parts.{window-in, splice-in, splice-past, length-mid, at_mid, at-put}
use Rattle.lifting.specs.Line.{lo, hi, unupdated, unpredicted}
use Rattle.lifting.specs.Grid.{Side, count}
use Rattle.lifting.specs.Halves.{fronted}
use Rattle.lifting.specs.GridHalves.{unlifted_in_place, highs_laid}
use Rattle.lifting.specs.Passes.{near, highs_changed, lows_changed, lows_of}
use Rattle.lifting.proofs.GridLaws.{ahead, counts, front-in, front-past}
use Rattle.lifting.proofs.PassLaws.{highs-low, highs-high, highs-past, lows-low, lows-past, unlifted-is, HighsAt, LowsAt, high-next, low-next}

past_end : (l : List ℤ) (j : ℕ) → length l ≤ j → at l j ≡ pos 0
past_end l j h = get_or-eq_default l (pos 0) h

module _ (low : ℕ) (y z : ℕ → ℤ) (j : ℕ) where
  pub of_low : j < low → lows_of low y z j ≡ z j
  unfolding lows_of
  of_low b = simp (lt-ltb j low b)

  pub of-high : low ≤ j → lows_of low y z j ≡ y j
  unfolding lows_of
  of-high b = simp (le-ltb j low b)

pub laid-is : (S : Side) (y z : ℕ → ℤ) → highs_laid S y z ≡ lows_of (count lo S) y z
unfolding highs_laid lows_of
laid-is S y z = refl

-- ---- the low numbers z of the other row, by the high numbers of the row l
module _ (f : ℤ → ℤ → ℤ → ℤ) (o low : ℕ) (l : List ℤ) (z : ℕ → ℤ) where
  abbrev pub lows_back : ℕ → ℤ
  lows_back = lows_of low z (lows_changed f o low (length l) (lows_of low (at l) z))

  low-turn : (n a b : ℕ) (m : List ℤ) → low < length l → n < low → a ≡ low + near (length l - low) (n + o - 1) → b ≡ low + near (length l - low) (n + o)
      → Swept (length l) lows_back z n m → Swept (length l) lows_back z (n + 1) (set m n (f (at m n) (at l a) (at l b)))
  low-turn n a b m g h ea eb sw =
      let N = length l in
      let u = lows_of low (at l) z in
      store _ sw (omega arith)
      (cc (
        of_low low z (lows_changed f o low N u) n h,
        lows-low f o low N u n h,
        of_low low (at l) z n h,
        ea,
        eb,
        sw.rest n (omega arith),
        of-high low (at l)
            z (low + near (N - low) (n + o - 1)) (omega arith),
        of-high low (at l) z (low + near (N - low) (n + o)) (omega arith),
      ))

  low-past : (j : ℕ) → low ≤ j → lows_back j ≡ z j
  low-past j b = of-high low z _ j b

-- the first is stored before the loop: m is the other row, m₀ the same after it
low_first : (f : ℤ → ℤ → ℤ → ℤ) (o low b : ℕ) (l m m₀ : List ℤ) → 0 < low → low < length l → o ≤ 1 → length l ≡ length m
    → b ≡ low + near (length l - low) o → m₀ ≡ set m 0 (f (at m 0) (at l low) (at l b)) → Swept (length l) (lows_back f o low l (at m)) (at m) 1 m₀
low_first f o low b l m m₀ g room few size e is =
    let sw : Swept (length l) (lows_back f o low l (at m)) (at m) 0 m = record { size = sym size; done = λ j b. absurd (omega arith); rest = λ j b. refl } in
    rw is (low-turn f o low l (at m) 0 low b m room g (omega arith) (omega arith) sw)

pub record LowsBy (f : ℤ → ℤ → ℤ → ℤ) (l m₀ : List ℤ) (low o high end n : ℕ) (m : List ℤ) : Type 0 where
  pub places : LowsAt (length l) low o high end n
  pub size : length m ≡ length l
  pub swept : (z : ℕ → ℤ) → Swept (length l) (lows_back f o low l z) z 1 m₀ → Swept (length l) (lows_back f o low l z) z n m

module _ {f : ℤ → ℤ → ℤ → ℤ} {l m₀ : List ℤ} {low o high end n : ℕ} {m : List ℤ} (h : LowsBy f l m₀ low o high end n m) where
  pub low_again : (m' : List ℤ) → n < end → m' ≡ set m n (f (at m n) (at l (low + n + o - 1)) (at l (low + n + o))) → LowsBy f l m₀ low o high end (n + 1) m'
  low_again m' b is =
      record {
        places = low-next h.places b;
        size = ap length is ∙ length-set m n _ ∙ h.size;
        swept = λ z s. rw is (low-turn f o low l z n (low + n + o - 1) (low + n + o) m h.places.both (omega arith) (omega arith) (omega arith)
            (h.swept z s));
      }

  last-low : (m' : List ℤ) → end ≤ n → n < low → m' ≡ set m n (f (at m n) (at l (low + high - 1)) (at l (low + high - 1))) → (z : ℕ → ℤ)
      → Swept (length l) (lows_back f o low l z) z 1 m₀ → at m' ≡ lows_back f o low l z
  last-low m' b k is z s =
      rw is
      (finish (low-turn f o low l z n (low + high - 1) (low + high - 1) m h.places.both k (omega arith) (omega arith) (h.swept z s))
      (λ j le. low-past f o low l z j (omega arith)))

  -- x is the other row as it was lent, low + r the second neighbour of its first number
  module _ (x : List ℤ) (r : ℕ) (size : length l ≡ length x) (e : r ≡ near (length l - low) o)
      (is : m₀ ≡ set x 0 (f (at x 0) (at l low) (at l (low + r)))) where
    low-begun : Swept (length l) (lows_back f o low l (at x)) (at x) 1 m₀
    low-begun = low_first f o low (low + r) l x m₀ h.places.some h.places.both h.places.few size (ap (λ (k : ℕ). low + k) e) is

    pub low-last : (m' : List ℤ) → end ≤ n → n < low → m' ≡ set m n (f (at m n) (at l (low + high - 1)) (at l (low + high - 1)))
        → at m' ≡ lows_back f o low l (at x)
    low-last m' b k put = last-low m' b k put (at x) low-begun

    pub low-done : low ≤ n → at m ≡ lows_back f o low l (at x)
    low-done k = finish (h.swept (at x) low-begun) (λ j le. low-past f o low l (at x) j (omega arith))

-- ---- the high numbers of the row l, by the low numbers z of the other row
module _ (f : ℤ → ℤ → ℤ → ℤ) (o low : ℕ) (l : List ℤ) (z : ℕ → ℤ) where
  abbrev pub highs_back : ℕ → ℤ
  highs_back = highs_changed f o low (length l) (lows_of low (at l) z)

  high-low : (j : ℕ) → j < low → highs_back j ≡ z j
  high-low j b = highs-low f o low (length l) _ j b ∙ of_low low (at l) z j b

  high-turn : (n a b : ℕ) (m : List ℤ) → 0 < low → low + n < length l → a ≡ near low (n + o - 1) → b ≡ near low (n + o)
      → Swept (length l) highs_back z (low + n) m → Swept (length l) highs_back z (low + (n + 1)) (set m (low + n) (f (at l (low + n)) (at m a) (at m b)))
  high-turn n a b m g h ea eb sw =
      let N = length l in
      let u = lows_of low (at l) z in
      let k : low + n + 1 ≡ low + (n + 1) = omega arith in
      let c = near low (n + o - 1) in
      let d = near low (n + o) in
      rw (← k)
      (store _ sw h
      (cc (
        ea,
        eb,
        highs-high f o low N u n h,
        of-high low (at l) z (low + n) (omega arith),
        of_low low (at l) z c (omega arith),
        of_low low (at l) z d
            (omega arith),
        sw.done a (omega arith),
        sw.done b (omega arith),
        high-low c (omega arith),
        high-low d (omega arith),
      )))

  -- past the row both are 0
  high-past : (m : List ℤ) (j : ℕ) → z ≡ at m → length l ≡ length m → low ≤ length l → length l ≤ j → highs_back j ≡ z j
  high-past m j ez size g b =
      highs-past f o low (length l) _ j g b
      ∙ of-high low (at l) z j (omega arith)
      ∙ past_end l j b
      ∙ sym (ap (λ (y : ℕ → ℤ). y j) ez ∙ past_end m j (omega arith))

high-first : (f : ℤ → ℤ → ℤ → ℤ) (o low b : ℕ) (l m m₀ : List ℤ) → 0 < low → low < length l → o ≤ 1 → length l ≡ length m → b ≡ near low o
    → m₀ ≡ set m low (f (at l low) (at m 0) (at m b)) → Swept (length l) (highs_back f o low l (at m)) (at m) (low + 1) m₀
high-first f o low b l m m₀ g room few size e is =
    let k : low + 0 ≡ low = omega arith in
    let sw : Swept (length l) (highs_back f o low l (at m)) (at m) (low + 0) m =
    record { size = sym size; done = λ j b. sym (high-low f o low l (at m) j (omega arith)); rest = λ j b. refl } in
    rw is (rw k at (high-turn f o low l (at m) 0 0 b m g (omega arith) (omega arith) (omega arith) sw))

pub record HighsBy (f : ℤ → ℤ → ℤ → ℤ) (l m₀ : List ℤ) (low o end n : ℕ) (m : List ℤ) : Type 0 where
  pub places : HighsAt (length l) low o end n
  pub size : length m ≡ length l
  pub swept : (z : ℕ → ℤ) → Swept (length l) (highs_back f o low l z) z (low + 1) m₀ → Swept (length l) (highs_back f o low l z) z (low + n) m

module _ {f : ℤ → ℤ → ℤ → ℤ} {l m₀ : List ℤ} {low o end n : ℕ} {m : List ℤ} (h : HighsBy f l m₀ low o end n m) where
  pub high-again : (m' : List ℤ) → n < end → m' ≡ set m (low + n) (f (at l (low + n)) (at m (n + o - 1)) (at m (n + o))) → HighsBy f l m₀ low o end (n + 1) m'
  high-again m' b is =
      record {
        places = high-next h.places b;
        size = ap length is ∙ length-set m (low + n) _ ∙ h.size;
        swept = λ z s. rw is (high-turn f o low l z n (n + o - 1) (n + o) m h.places.some (omega arith) (omega arith) (omega arith) (h.swept z s));
      }

  -- x is the other row as it was lent, r the second neighbour of the first high number
  module _ (x : List ℤ) (r : ℕ) (size : length l ≡ length x) (e : r ≡ near low o) (is : m₀ ≡ set x low (f (at l low) (at x 0) (at x r))) where
    high-begun : Swept (length l) (highs_back f o low l (at x)) (at x) (low + 1) m₀
    high-begun = high-first f o low r l x m₀ h.places.some h.places.both h.places.few size e is

    pub high-last : (m' : List ℤ) → end ≤ n → low + n < length l → m' ≡ set m (low + n) (f (at l (low + n)) (at m (low - 1)) (at m (low - 1)))
        → at m' ≡ highs_back f o low l (at x)
    high-last m' b k put =
        rw put
        (finish (high-turn f o low l (at x) n (low - 1) (low - 1) m h.places.some k (omega arith) (omega arith) (h.swept (at x) high-begun))
        (λ j le. high-past f o low l (at x) x j refl size (omega arith) (omega arith)))

    pub high-done : length l ≤ low + n → at m ≡ highs_back f o low l (at x)
    high-done k = finish (h.swept (at x) high-begun) (λ j le. high-past f o low l (at x) x j refl size (omega arith) (omega arith))

-- ---- both: o what the first leaves, and q what the second does
pub back-are : (S : Side) (low : ℕ) (y z o q : ℕ → ℤ) → 1 < S.length → low ≡ count lo S
    → o ≡ lows_of low z (lows_changed (unupdated wrap32) (S.start % 2) low S.length (lows_of low y z))
    → q ≡ highs_changed (unpredicted wrap32) (1 - S.start % 2) low S.length (lows_of low y o) → q ≡ unlifted_in_place S (highs_laid S y z)
back-are S low y z o q more lows e is =
    let N = S.length in
    let u = lows_of low y z in
    let L = lows_changed (unupdated wrap32) (ahead S hi) low N u in
    let same : lows_of low y o ≡ L =
    fun_ext λ j.
    elim (dec_lt j low) [
      | yes b ↦ of_low low y o j b ∙ ap (λ (v : ℕ → ℤ). v j) e ∙ of_low low z L j b
      | no b ↦ of-high low y o j (omega arith) ∙ sym (lows-past (unupdated wrap32) (ahead S hi) low N u j (omega arith) ∙ of-high low y z j (omega arith))
    ] in
    is ∙ cc (same, lows, unlifted-is S u more, laid-is S y z)

-- ---- at the front of an area
front-is : (N : ℕ) (u z : ℕ → ℤ) → fronted N u z ≡ spliced 0 N u z
front-is N u z =
    fun_ext λ j.
    elim (dec_lt j N) [
      | yes b ↦ let k : j - 0 ≡ j = omega arith in front-in N u z j b ∙ sym (splice-in 0 N u z j (omega arith) (omega arith) ∙ ap u k)
      | no b ↦ front-past N u z j (omega arith) ∙ sym (splice-past 0 N u z j (omega arith))
    ]

-- the low half of a part that is lent is the area's
pub lent-low : (S : Side) (y z : ℕ → ℤ) → highs_laid S y (windowed 0 S.length z) ≡ highs_laid S y z
lent-low S y z =
    let both = counts S in
    laid-is S y (windowed 0 S.length z)
    ∙ (fun_ext λ j.
    elim (dec_lt j (count lo S)) [
      | yes b ↦
          let k : 0 + j ≡ j = omega arith in
          of_low (count lo S) y (windowed 0 S.length z) j b ∙ window-in 0 S.length z j (omega arith) ∙ ap z k ∙ sym (of_low (count lo S) y z j b)
      | no b ↦ of-high (count lo S) y (windowed 0 S.length z) j (omega arith) ∙ sym (of-high (count lo S) y z j (omega arith))
    ])
    ∙ sym (laid-is S y z)

-- a part of a line's numbers at the front of an area, lent, and come back as o
pub unlifted-front : (S : Side) (k : ℕ) (l to o : List ℤ) → k ≡ S.length → S.length ≤ length to → length o ≡ length (mid_of 0 k to)
    → at o ≡ unlifted_in_place S (highs_laid S (at l) (at (mid_of 0 k to)))
    → at (put_mid 0 k to o) ≡ fronted S.length (unlifted_in_place S (highs_laid S (at l) (at to))) (at to)
unlifted-front S k l to o e room size is =
    let N = S.length in
    let mid = length-mid 0 k to (omega arith) in
    at-put 0 k to o (omega arith) (omega arith)
    ∙ ap (λ (m : ℕ). spliced 0 m (at o) (at to)) e
    ∙ ap (λ (v : ℕ → ℤ). spliced 0 N v (at to))
    (is
    ∙ ap (λ (v : ℕ → ℤ). unlifted_in_place S (highs_laid S (at l) v)) (at_mid 0 k to ∙ ap (λ (m : ℕ). windowed 0 m (at to)) e)
    ∙ ap (unlifted_in_place S) (lent-low S (at l) (at to)))
    ∙ sym (front-is N _ (at to))
