-- The laws of the private passes: what each leaves at a place, a turn of its loop over any step f, and what the passes come to together. Assumes nothing.
use mathlib.Core.Path.{◌≡◌, refl, sym, ap, ◌∙◌, subst}
use mathlib.Core.List.{List}
use Prim.Native.Nat.{ℕ, ◌+◌, ◌-◌, ◌*◌, ◌%◌, ◌^◌, ◌≤◌, ◌<◌, max}
use native.Mathlib.Omega.{arith}
use lib.IntN.{ℤ}
use lib.ListN.{length, set, length-set}
use borrow.Author.Tests.{lt-ltb, le-ltb}
use mir.Syntax.{w64}
use mir.Val.{Fits}
use Rattle.numbers.specs.Signal.{at}
use Rattle.numbers.specs.Word.{wrap32}
use Rattle.numbers.proofs.Sweep.{Swept, start, store, left, finish}
use Rattle.lifting.specs.Line.{lo, hi, predicted, updated, unpredicted, unupdated}
use Rattle.lifting.specs.Grid.{Side, count, joined, line_forward, line_halves_back}
use Rattle.lifting.specs.GridHalves.{halves_of, lifted_in_place, unlifted_in_place}
use Rattle.lifting.specs.Passes.{near, beside_lows, beside_highs, highs_changed, lows_changed}
use Rattle.lifting.proofs.GridLaws.{ahead, counts, some, beside-lows, beside-highs, joined-place, high-near, low_near, even-near, odd-near, halves_are}

-- a loop of t turns, which ends a turn before e
pub turn-left : (e t n : ℕ) → t ≡ e - 1 → n < t → n + 1 < e
turn-left e t n is b = omega arith

pub turned : (e t n : ℕ) → t ≡ e - 1 → t ≤ n → n ≤ t → (t ≡ n) × (e ≤ n + 1)
turned e t n is b le = omega arith

-- ---- the two passes in place, by any step f
module _ (f : ℤ → ℤ → ℤ → ℤ) (o low N : ℕ) (y : ℕ → ℤ) where
  pub highs-low : (j : ℕ) → j < low → highs_changed f o low N y j ≡ y j
  unfolding highs_changed
  highs-low j h = simp (lt-ltb j low h)

  pub highs-high : (n : ℕ) → low + n < N → highs_changed f o low N y (low + n) ≡ f (y (low + n)) (y (near low (n + o - 1))) (y (near low (n + o)))
  unfolding highs_changed
  highs-high n h =
      let k : low + n - low ≡ n = omega arith in
      simp (le-ltb (low + n) low (omega arith), lt-ltb (low + n) N h, k)

  pub highs-past : (j : ℕ) → low ≤ N → N ≤ j → highs_changed f o low N y j ≡ y j
  unfolding highs_changed
  highs-past j g h = simp (le-ltb j low (omega arith), le-ltb j N h)

  pub lows-low : (j : ℕ) → j < low → lows_changed f o low N y j ≡ f (y j) (y (low + near (N - low) (j + o - 1))) (y (low + near (N - low) (j + o)))
  unfolding lows_changed
  lows-low j h = simp (lt-ltb j low h)

  pub lows-past : (j : ℕ) → low ≤ j → lows_changed f o low N y j ≡ y j
  unfolding lows_changed
  lows-past j h = simp (le-ltb j low h)

  -- a turn of each: the place stored goes by places that the pass leaves
  pub highs-turn : (n a b : ℕ) (l : List ℤ) → 0 < low → low + n < N → a ≡ near low (n + o - 1) → b ≡ near low (n + o)
      → Swept N (highs_changed f o low N y) y (low + n) l
      → Swept N (highs_changed f o low N y) y (low + (n + 1)) (set l (low + n) (f (at l (low + n)) (at l a) (at l b)))
  highs-turn n a b l g h ea eb sw =
      subst (λ (m : ℕ). Swept N (highs_changed f o low N y) y m (set l (low + n) (f (at l (low + n)) (at l a) (at l b)))) (omega arith)
      (store _ sw h
      (cc (ea, eb, sw.rest (low + n) (omega arith), left a sw (highs-low a (omega arith)), left b sw (highs-low b (omega arith)), highs-high n h)))

  pub lows-turn : (n a b : ℕ) (l : List ℤ) → low < N → n < low → a ≡ low + near (N - low) (n + o - 1) → b ≡ low + near (N - low) (n + o)
      → Swept N (lows_changed f o low N y) y n l → Swept N (lows_changed f o low N y) y (n + 1) (set l n (f (at l n) (at l a) (at l b)))
  lows-turn n a b l g h ea eb sw =
      store _ sw (omega arith) (cc (ea, eb, sw.rest n (omega arith), sw.rest a (omega arith), sw.rest b (omega arith), lows-low n h))

-- the first number is stored before the loop
module _ (f : ℤ → ℤ → ℤ → ℤ) (o low b : ℕ) (l l' : List ℤ) (g : 0 < low) (room : low < length l) (few : o ≤ 1) where
  pub highs-first : b ≡ near low o → l' ≡ set l low (f (at l low) (at l 0) (at l b))
      → Swept (length l') (highs_changed f o low (length l') (at l)) (at l) (low + 1) l'
  highs-first e is =
      let size : length l' ≡ length l = ap length is ∙ simp length-set in
      let k : low + 0 ≡ low = omega arith in
      rw (size, is) (rw k at (highs-turn f o low (length l) (at l) 0 0 b l g (omega arith) (omega arith) (omega arith)
      (start l _ (low + 0) (λ j lt. highs-low f o low (length l) (at l) j (omega arith)))))

  pub lows-first : b ≡ low + near (length l - low) o → l' ≡ set l 0 (f (at l 0) (at l low) (at l b))
      → Swept (length l') (lows_changed f o low (length l') (at l)) (at l) 1 l'
  lows-first e is =
      let size : length l' ≡ length l = ap length is ∙ simp length-set in
      rw (size, is) (lows-turn f o low (length l) (at l) 0 low b l room g (omega arith) (omega arith) (start l _ 0 (λ j lt. absurd (omega arith))))

-- what is asked for a line of N numbers
module _ (S : Side) (N low : ℕ) (size : N ≡ S.length) (more : 1 < S.length) (lows : low ≡ count lo S) where
  pub lows-beside : beside_lows N low (1 - S.start % 2)
  lows-beside =
      let s = some S more in
      let d = beside-lows S in
      omega arith

  pub highs-beside : beside_highs N low (S.start % 2)
  highs-beside =
      let s = some S more in
      let d = beside-highs S in
      omega arith

-- ---- the first number, its second neighbour at r or low + r
pub low-begins : (N low o : ℕ) → beside_highs N low o → (low ≤ N) × (o ≤ N - low) × (0 < N - low)
low-begins N low o pre = omega arith

pub low-first-in : (N low o r : ℕ) → beside_highs N low o → N * 4 < 2 ^ 63 → r ≡ near (N - low) o → Fits w64 (low + r) × ((0 < N) × (low < N) × (low + r < N))
low-first-in N low o r pre room e = omega arith

pub first-in : (N M low o : ℕ) → beside_highs N low o → N ≤ M → (low < N) × (0 < M)
first-in N M low o pre room = omega arith

pub first-sum : (N low o : ℕ) → beside_highs N low o → N * 4 < 2 ^ 63 → Fits w64 (low + o)
first-sum N low o pre room = omega arith

pub high-first-in : (N low o r : ℕ) → beside_lows N low o → r ≡ near low o → (low < N) × (0 < N) × (r < N)
high-first-in N low o r pre e = omega arith

-- ---- the loops over N numbers: what their places need. Before turn n of the one over the high numbers,
pub record HighsAt (N low o end n : ℕ) : Type 0 where
  pub some : 0 < low
  pub both : low < N
  pub few : o ≤ 1
  pub least : low + low ≤ N + o
  pub most : N + o ≤ low + low + 1
  pub room : N < 2 ^ 63
  pub last : end ≡ low - o
  pub begun : 1 ≤ n
  pub within : n ≤ low

pub highs-at : (N L low o : ℕ) → L ≡ N → beside_lows N low o → N * 4 < 2 ^ 63 → HighsAt L low o (low - o) 1
highs-at N L low o size pre room =
    record {
      some = pre.0;
      both = omega arith;
      few = pre.2;
      least = omega arith;
      most = omega arith;
      room = omega arith;
      last = refl;
      begun = omega arith;
      within = omega arith;
    }

module _ {N low o end n : ℕ} (h : HighsAt N low o end n) where
  pub high-next : n < end → HighsAt N low o end (n + 1)
  high-next b =
      record {
        some = h.some;
        both = h.both;
        few = h.few;
        least = h.least;
        most = h.most;
        room = h.room;
        last = h.last;
        begun = omega arith;
        within = omega arith;
      }

  pub high_sums : n < end → Fits w64 (low + n) × Fits w64 (n + o) × (1 ≤ n + o) × Fits w64 (n + 1)
  high_sums b = omega arith

  -- K and M: the numbers of what is changed and of what it is changed by
  pub high-in : (K M : ℕ) → K ≡ N → M ≡ N → n < end → (low + n < K) × (n + o - 1 < M) × (n + o < M)
  high-in K M ek em b = omega arith

  -- the last number has one neighbour
  pub high-ends : Fits w64 (low + n) × (1 ≤ low)
  high-ends = omega arith

  -- how many turns were made, where the loop ends
  pub high-turns : end ≤ n → (1 ≤ end → n ≤ end) → max end 1 ≡ n
  high-turns b e = grind arith

  pub high-last-in : (K M : ℕ) → M ≡ N → low + n < K → (low + n < K) × (low - 1 < M) × (low - 1 < M)
  high-last-in K M em b = omega arith

-- and of the one over the low numbers
pub record LowsAt (N low o high end n : ℕ) : Type 0 where
  pub some : 0 < low
  pub both : low < N
  pub few : o ≤ 1
  pub least : N ≤ low + low + o
  pub most : low + low + o ≤ N + 1
  pub room : N < 2 ^ 63
  pub highs : high ≡ N - low
  pub last : end ≡ high - o
  pub begun : 1 ≤ n
  pub within : n ≤ high

pub lows-at : (N L low o : ℕ) → L ≡ N → beside_highs N low o → N * 4 < 2 ^ 63 → LowsAt L low o (N - low) (N - low - o) 1
lows-at N L low o size pre room =
    record {
      some = pre.0;
      both = omega arith;
      few = pre.2;
      least = omega arith;
      most = omega arith;
      room = omega arith;
      highs = ap (λ (k : ℕ). k - low) (sym size);
      last = refl;
      begun = omega arith;
      within = omega arith;
    }

module _ {N low o high end n : ℕ} (h : LowsAt N low o high end n) where
  pub low-next : n < end → LowsAt N low o high end (n + 1)
  low-next b =
      record {
        some = h.some;
        both = h.both;
        few = h.few;
        least = h.least;
        most = h.most;
        room = h.room;
        highs = h.highs;
        last = h.last;
        begun = omega arith;
        within = omega arith;
      }

  pub low_sums : n < end → Fits w64 (low + n) × Fits w64 (low + n + o) × (1 ≤ low + n + o) × Fits w64 (n + 1)
  low_sums b = omega arith

  pub low-in : (K M : ℕ) → K ≡ N → M ≡ N → n < end → (n < K) × (low + n + o - 1 < M) × (low + n + o < M)
  low-in K M ek em b = omega arith

  pub low-ends : Fits w64 (low + high) × (1 ≤ low + high)
  low-ends = omega arith

  pub low-turns : end ≤ n → (1 ≤ end → n ≤ end) → max end 1 ≡ n
  low-turns b e = grind arith

  pub low-last-in : (K M : ℕ) → K ≡ N → M ≡ N → n < low → (n < K) × (low + high - 1 < M) × (low + high - 1 < M)
  low-last-in K M ek em b = omega arith

-- ---- what they leave: l₀ is the line after the first store, swept of some x up to there, and l is swept of it up to number n
pub record Highs (f : ℤ → ℤ → ℤ → ℤ) (l₀ : List ℤ) (low o end n : ℕ) (l : List ℤ) : Type 0 where
  pub places : HighsAt (length l₀) low o end n
  pub size : length l ≡ length l₀
  pub swept : (x : ℕ → ℤ) → Swept (length l₀) (highs_changed f o low (length l₀) x) x (low + 1) l₀
      → Swept (length l₀) (highs_changed f o low (length l₀) x) x (low + n) l

module _ {f : ℤ → ℤ → ℤ → ℤ} {l₀ : List ℤ} {low o end n : ℕ} {l : List ℤ} (h : Highs f l₀ low o end n l) where
  pub highs-again : (l' : List ℤ) → n < end → l' ≡ set l (low + n) (f (at l (low + n)) (at l (n + o - 1)) (at l (n + o))) → Highs f l₀ low o end (n + 1) l'
  highs-again l' b is =
      record {
        places = high-next h.places b;
        size = ap length is ∙ length-set l (low + n) _ ∙ h.size;
        swept = λ x s. rw is (highs-turn f o low (length l₀) x n (n + o - 1) (n + o) l h.places.some (omega arith) (omega arith) (omega arith)
            (h.swept x s));
      }

  last-high : (l' : List ℤ) → end ≤ n → low + n < length l → l' ≡ set l (low + n) (f (at l (low + n)) (at l (low - 1)) (at l (low - 1))) → (x : ℕ → ℤ)
      → Swept (length l₀) (highs_changed f o low (length l₀) x) x (low + 1) l₀ → at l' ≡ highs_changed f o low (length l₀) x
  last-high l' b m put x s =
      rw put
      (finish (highs-turn f o low (length l₀) x n (low - 1) (low - 1) l h.places.some (omega arith) (omega arith) (omega arith) (h.swept x s))
      (λ j le. highs-past f o low (length l₀) x j (omega arith) (omega arith)))

  -- or there is none left
  no-high : length l ≤ low + n → (x : ℕ → ℤ) → Swept (length l₀) (highs_changed f o low (length l₀) x) x (low + 1) l₀
      → at l ≡ highs_changed f o low (length l₀) x
  no-high m x s = finish (h.swept x s) (λ j le. highs-past f o low (length l₀) x j (omega arith) (omega arith))

  -- x is the line as it was lent, r the second neighbour of its first high number
  module _ (x : List ℤ) (r : ℕ) (size : length l₀ ≡ length x) (e : r ≡ near low o) (is : l₀ ≡ set x low (f (at x low) (at x 0) (at x r))) where
    highs-begun : Swept (length l₀) (highs_changed f o low (length l₀) (at x)) (at x) (low + 1) l₀
    highs-begun = highs-first f o low r x l₀ h.places.some (subst (λ (N : ℕ). low < N) size h.places.both) h.places.few e is

    pub highs-last : (l' : List ℤ) → end ≤ n → low + n < length l → l' ≡ set l (low + n) (f (at l (low + n)) (at l (low - 1)) (at l (low - 1)))
        → at l' ≡ highs_changed f o low (length x) (at x)
    highs-last l' b m put = rw (← size) (last-high l' b m put (at x) highs-begun)

    pub highs-done : length l ≤ low + n → at l ≡ highs_changed f o low (length x) (at x)
    highs-done m = rw (← size) (no-high m (at x) highs-begun)

pub record Lows (f : ℤ → ℤ → ℤ → ℤ) (l₀ : List ℤ) (low o high end n : ℕ) (l : List ℤ) : Type 0 where
  pub places : LowsAt (length l₀) low o high end n
  pub size : length l ≡ length l₀
  pub swept : (x : ℕ → ℤ) → Swept (length l₀) (lows_changed f o low (length l₀) x) x 1 l₀ → Swept (length l₀) (lows_changed f o low (length l₀) x) x n l

module _ {f : ℤ → ℤ → ℤ → ℤ} {l₀ : List ℤ} {low o high end n : ℕ} {l : List ℤ} (h : Lows f l₀ low o high end n l) where
  pub lows-again : (l' : List ℤ) → n < end → l' ≡ set l n (f (at l n) (at l (low + n + o - 1)) (at l (low + n + o))) → Lows f l₀ low o high end (n + 1) l'
  lows-again l' b is =
      record {
        places = low-next h.places b;
        size = ap length is ∙ length-set l n _ ∙ h.size;
        swept = λ x s. rw is (lows-turn f o low (length l₀) x n (low + n + o - 1) (low + n + o) l h.places.both (omega arith) (omega arith) (omega arith)
            (h.swept x s));
      }

  last-low : (l' : List ℤ) → end ≤ n → n < low → l' ≡ set l n (f (at l n) (at l (low + high - 1)) (at l (low + high - 1))) → (x : ℕ → ℤ)
      → Swept (length l₀) (lows_changed f o low (length l₀) x) x 1 l₀ → at l' ≡ lows_changed f o low (length l₀) x
  last-low l' b m put x s =
      rw put
      (finish (lows-turn f o low (length l₀) x n (low + high - 1) (low + high - 1) l h.places.both m (omega arith) (omega arith) (h.swept x s))
      (λ j le. lows-past f o low (length l₀) x j (omega arith)))

  -- or there is none left
  no-low : low ≤ n → (x : ℕ → ℤ) → Swept (length l₀) (lows_changed f o low (length l₀) x) x 1 l₀ → at l ≡ lows_changed f o low (length l₀) x
  no-low m x s = finish (h.swept x s) (λ j le. lows-past f o low (length l₀) x j (omega arith))

  -- x is the line as it was lent, low + r the second neighbour of its first number
  module _ (x : List ℤ) (r : ℕ) (size : length l₀ ≡ length x) (e : r ≡ near (length x - low) o)
      (is : l₀ ≡ set x 0 (f (at x 0) (at x low) (at x (low + r)))) where
    lows-begun : Swept (length l₀) (lows_changed f o low (length l₀) (at x)) (at x) 1 l₀
    lows-begun =
        lows-first f o low (low + r) x l₀ h.places.some (subst (λ (N : ℕ). low < N) size h.places.both) h.places.few (ap (λ (k : ℕ). low + k) e) is

    pub lows-last : (l' : List ℤ) → end ≤ n → n < low → l' ≡ set l n (f (at l n) (at l (low + high - 1)) (at l (low + high - 1)))
        → at l' ≡ lows_changed f o low (length x) (at x)
    lows-last l' b m put = rw (← size) (last-low l' b m put (at x) lows-begun)

    pub lows-done : low ≤ n → at l ≡ lows_changed f o low (length x) (at x)
    lows-done m = rw (← size) (no-low m (at x) lows-begun)

-- ---- what they come to together, in a line of more than one
module _ (S : Side) (y : ℕ → ℤ) (g : 1 < S.length) where
  -- a line in halves has these high values, before they are stored
  line-highs : (n : ℕ) → n < count hi S
      → line_forward wrap32 S (joined S (halves_of S y)) hi n ≡ highs_changed (predicted wrap32) (ahead S lo) (count lo S) S.length y (count lo S + n)
  unfolding halves_of
  line-highs n h =
      let both = counts S in
      let p = halves_of S y in
      cc (
        high-near S g wrap32 (joined S p) n h,
        highs-high (predicted wrap32) (ahead S lo) (count lo S) S.length y n (omega arith),
        joined-place S p hi n,
        joined-place S p lo (near (count lo S) (n + ahead S lo - 1)),
        joined-place S p lo (near (count lo S) (n + ahead S lo)),
      )

  pub lifted-is : lifted_in_place S y ≡ lows_changed (updated wrap32) (ahead S hi) (count lo S) S.length
      (highs_changed (predicted wrap32) (ahead S lo) (count lo S) S.length y)
  unfolding lifted_in_place halves_of
  lifted-is =
      let both = counts S in
      let s = some S g in
      let k : S.length - count lo S ≡ count hi S = omega arith in
      let p = halves_of S y in
      let a = ahead S hi in
      let low = count lo S in
      let N = S.length in
      let z = highs_changed (predicted wrap32) (ahead S lo) low N y in
      halves_are S _ y _
      (λ n h. cc (
        k,
        low_near S g wrap32 (joined S p) n h,
        lows-low (updated wrap32) a low N z n h,
        joined-place S p lo n,
        highs-low (predicted wrap32)
            (ahead S lo) low N y n h,
        line-highs (near (count hi S) (n + a - 1)) (omega arith),
        line-highs (near (count hi S) (n + a)) (omega arith),
      ))
      (λ n h. line-highs n h ∙ sym (lows-past (updated wrap32) a low N z (low + n) (omega arith)))
      (λ j h. sym (lows-past (updated wrap32) a low N z j (omega arith) ∙ highs-past (predicted wrap32) (ahead S lo) low N y j (omega arith) h))

  pub unlifted-is : unlifted_in_place S y ≡ highs_changed (unpredicted wrap32) (ahead S lo) (count lo S) S.length
      (lows_changed (unupdated wrap32) (ahead S hi) (count lo S) S.length y)
  unfolding unlifted_in_place halves_of
  unlifted-is =
      let both = counts S in
      let s = some S g in
      let k : S.length - count lo S ≡ count hi S = omega arith in
      let p = halves_of S y in
      let a = ahead S lo in
      let low = count lo S in
      let N = S.length in
      let z = lows_changed (unupdated wrap32) (ahead S hi) low N y in
      let even : (n : ℕ) → n < low → line_halves_back wrap32 S p lo n ≡ z n =
      λ n h. cc (k, even-near S g wrap32 p n h, lows-low (unupdated wrap32) (ahead S hi) low N y n h) in
      halves_are S _ y _
      (λ n h. even n h ∙ sym (highs-low (unpredicted wrap32) a low N z n h))
      (λ n h. cc (
        odd-near S g wrap32 p n h,
        highs-high (unpredicted wrap32) a low N z n (omega arith),
        lows-past (unupdated wrap32) (ahead S hi) low N y
            (low + n) (omega arith),
        even (near low (n + a - 1)) (omega arith),
        even (near low (n + a)) (omega arith),
      ))
      (λ j h. sym (highs-past (unpredicted wrap32) a low N z j (omega arith) h ∙ lows-past (unupdated wrap32) (ahead S hi) low N y j (omega arith)))

-- the passes as they are called, each leaving as many numbers: x the line, x₁ and x₂ what the two leave
module _ (S : Side) (low : ℕ) (x x₁ x₂ : List ℤ) (size : S.length ≡ length x) (size₁ : length x₁ ≡ length x) (more : 1 < S.length)
    (lows : low ≡ count lo S) where
  pub lifted-by : at x₁ ≡ highs_changed (predicted wrap32) (1 - S.start % 2) low (length x) (at x)
      → at x₂ ≡ lows_changed (updated wrap32) (S.start % 2) low (length x₁) (at x₁) → at x₂ ≡ lifted_in_place S (at x)
  lifted-by e f = cc (lifted-is S (at x) more)

  pub unlifted-by : at x₁ ≡ lows_changed (unupdated wrap32) (S.start % 2) low (length x) (at x)
      → at x₂ ≡ highs_changed (unpredicted wrap32) (1 - S.start % 2) low (length x₁) (at x₁) → at x₂ ≡ unlifted_in_place S (at x)
  unlifted-by e f = cc (unlifted-is S (at x) more)
