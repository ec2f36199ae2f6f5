-- What is copied of one band is what is in reach of it: the places of the plane in one direction (`touch_is`), the numbers that stand there (`touched`),
-- and that
-- the window has them (`reaches`). a is 0 for the low half and 1 for the high one. Assumes nothing.
use mathlib.Core.Path.{◌≡◌, refl, sym, ap, ap₂, ◌∙◌}
use mathlib.Core.Bool.{Bool, true, false}
use Prim.Native.Nat.{ℕ, zero, suc, ◌+◌, ◌-◌, ◌*◌, ◌/◌, ◌^◌, ◌≤◌, ◌<◌, min}
use native.Mathlib.Decide.{dec_lt}
use native.Mathlib.Nat.{one-le-pow}
use native.Mathlib.Omega.{arith}
use lib.IntN.{ℤ}
use mir.Syntax.{w64}
use mir.Val.{Fits}
use borrow.Author.Tests.{lt-ltb, ltb-true, le-leb, leb-true}
use Rattle.numbers.specs.Signal.{pick, both}
use Rattle.numbers.proofs.Sweep.{both as both_yes}
use Rattle.lifting.specs.Line.{Half, lo, hi}
use Rattle.lifting.specs.Grid.{side, count}
use Rattle.wavelet.specs.Bands.{Grid}
use Rattle.wavelet.specs.Plane.{cells, flat}
use Rattle.map_levels.specs.Passes.{Rows}
use Rattle.map_levels.proofs.GridSweep.{row_room}
use Rattle.map_levels.proofs.CellLaws.{flat-same}
use Rattle.strokes.specs.Reach.{Span, reached}
use Rattle.strokes.specs.Local.{among, patch, patch_copied, touches, number_of, band_mended, half_of, changed_of, place_of, Lies, Ready}
use Rattle.strokes.specs.declared.direction.Direction.{Direction}
use Rattle.strokes.proofs.CoverLaws.{Held, held}
use Rattle.strokes.proofs.PatchLaws.{among_in, among-yes}

iff : (a b : Bool) → (a ≡ true → b ≡ true) → (b ≡ true → a ≡ true) → a ≡ b
iff true b f g = sym (f refl)
iff false true f g = g refl
iff false false f g = refl

-- ---- a stretch of numbers from F on, below X and Y, and the places from c on
lows : (N : ℕ) → 1 * (N - N / 2) ≡ count lo (side 0 N)
unfolding count
lows N = omega arith

both_halves : (N : ℕ) → count lo (side 0 N) + (N + 1 - 1) / 2 ≡ N
unfolding count
both_halves N = omega arith

first-near : (f : ℕ) → f ≤ 2 * ((f - 1) / 2) + 2
first-near f = omega arith

first_below : (f n : ℕ) → f ≤ 2 * n + 2 → (f - 1) / 2 ≤ n
first_below f n e = omega arith

stretch-from : (c X Y F M i : ℕ) → c + F ≤ i → i < c + F + M → M ≡ min X Y - F → (c ≤ i) × (i ≡ c + (i - c)) × (F ≤ i - c) × (i - c < X) × (i - c < Y)
stretch-from c X Y F M i a b e = (omega arith, omega arith, omega arith, omega arith, omega arith)

high-from : (N c X Y F f l i j : ℕ) → c + X ≡ N → Y ≡ l / 2 + 1 → f ≤ 2 * F + 2 → i ≡ c + j → F ≤ j → j < X → j < Y → (i < N) × (2 * j ≤ l) × (f ≤ 2 * j + 2)
high-from N c X Y F f l i j s e n p q x y = (omega arith, omega arith, omega arith)

high-to : (N c X Y F f l i j : ℕ) → c + X ≡ N → Y ≡ l / 2 + 1 → c ≤ i → j ≡ i - c → i < N → 2 * j ≤ l → f ≤ 2 * j + 2 → F ≤ j →
    (i ≡ c + j) × (F ≤ j) × (j < X) × (j < Y)
high-to N c X Y F f l i j s e p d n x y b = (omega arith, b, omega arith, omega arith)

stretch-to : (c X Y F M i j : ℕ) → M ≡ min X Y - F → i ≡ c + j → F ≤ j → j < X → j < Y → (c + F ≤ i) × (i < c + F + M)
stretch-to c X Y F M i j e d p x y = (omega arith, omega arith)

window-part : (F T x w : ℕ) → F ≡ T + x → F - T < count lo (side 0 w) → x < (w + 1) / 2
unfolding count
window-part F T x w e b = omega arith

-- ---- one direction of N places, s being changed
module _ (N : ℕ) (s : Span) where
  abbrev first : ℕ
  first = (s.first - 1) / 2

  abbrev many : ℕ → ℕ
  many a = min ((N + 1 - a) / 2) (s.last / 2 + 2 - a) - first

  low-yes : (i : ℕ) → touches lo N s i ≡ true → (i < count lo (side 0 N)) × (2 * i ≤ s.last + 2) × (s.first ≤ 2 * i + 2)
  unfolding touches reached
  low-yes i e =
      let k = both_yes _ _ e in
      let m = both_yes _ _ k.1 in
      (ltb-true i (count lo (side 0 N)) k.0, leb-true (2 * i) (s.last + 2) m.0, leb-true s.first (2 * i + 2) m.1)

  high-yes : (i : ℕ) → touches hi N s i ≡ true →
      (count lo (side 0 N) ≤ i) × (i < N) × (2 * (i - count lo (side 0 N)) ≤ s.last) × (s.first ≤ 2 * (i - count lo (side 0 N)) + 2)
  unfolding touches reached
  high-yes i e =
      let k = both_yes _ _ e in
      let m = both_yes _ _ k.1 in
      let n = both_yes _ _ m.1 in
      let q = i - count lo (side 0 N) in
      (leb-true (count lo (side 0 N)) i k.0, ltb-true i N m.0, leb-true (2 * q) s.last n.0, leb-true s.first (2 * q + 2) n.1)

  low-is : (i : ℕ) → i < count lo (side 0 N) → 2 * i ≤ s.last + 2 → s.first ≤ 2 * i + 2 → touches lo N s i ≡ true
  unfolding touches reached
  low-is i x y z = simp (lt-ltb i (count lo (side 0 N)) x, le-leb (2 * i) (s.last + 2) y, le-leb s.first (2 * i + 2) z)

  high_is : (i : ℕ) → count lo (side 0 N) ≤ i → i < N → 2 * (i - count lo (side 0 N)) ≤ s.last → s.first ≤ 2 * (i - count lo (side 0 N)) + 2 →
      touches hi N s i ≡ true
  unfolding touches reached
  high_is i x n y z =
      let q = i - count lo (side 0 N) in
      simp (le-leb (count lo (side 0 N)) i x, lt-ltb i N n, le-leb (2 * q) s.last y, le-leb s.first (2 * q + 2) z)

  pub touch_is : (a i : ℕ) → a ≤ 1 → among (a * (N - N / 2) + first) (many a) i ≡ touches (half_of a) N s i
  unfolding count
  touch_is zero i b =
      iff _ _
      (λ e. let k = among-yes (0 * (N - N / 2) + first) (many 0) i e in low-is i (omega arith) (omega arith) (omega arith))
      (λ e. let k = low-yes i e in among_in (0 * (N - N / 2) + first) (many 0) i (omega arith) (omega arith))
  touch_is (suc zero) i b =
      let c = count lo (side 0 N) in
      let ec : 1 * (N - N / 2) ≡ c = lows N in
      let X = (N + 1 - 1) / 2 in
      let Y = s.last / 2 + 2 - 1 in
      let sum : c + X ≡ N = both_halves N in
      let ey : Y ≡ s.last / 2 + 1 = omega arith in
      let near = first-near s.first in
      iff _ _
      (λ e.
      let k = among-yes (1 * (N - N / 2) + first) (many 1) i e in
      let f = stretch-from c X Y first (many 1) i (rw ec at k.0) (rw ec at k.1) refl in
      let g = high-from N c X Y first s.first s.last i (i - c) sum ey near f.1 f.2 f.3 f.4 in
      high_is i f.0 g.0 g.1 g.2)
      (λ e.
      let k = high-yes i e in
      let f = high-to N c X Y first s.first s.last i (i - c) sum ey k.0 refl k.1 k.2 k.3 (first_below s.first (i - c) k.3) in
      let g = stretch-to c X Y first (many 1) i (i - c) refl f.0 f.1 f.2 f.3 in
      among_in (1 * (N - N / 2) + first) (many 1) i (rw ec g.0) (rw ec g.1))
  touch_is (suc (suc a)) i b = absurd (omega arith)

  -- a place that has a number in reach
  pub record Touched (a i : ℕ) : Type 0 where
    pub place : i ≡ a * (N - N / 2) + number_of (half_of a) N i
    pub past : first ≤ number_of (half_of a) N i
    pub counted : number_of (half_of a) N i < count (half_of a) (side 0 N)
    pub reach : reached s (half_of a) (number_of (half_of a) N i) ≡ true

  -- the numbers of the stretch
  counted_of : (a n : ℕ) → a ≤ 1 → n < (N + 1 - a) / 2 → n < count (half_of a) (side 0 N)
  unfolding count
  counted_of zero n b c = omega arith
  counted_of (suc zero) n b c = omega arith
  counted_of (suc (suc a)) n b c = absurd (omega arith)

  reached-of : (a n : ℕ) → a ≤ 1 → first ≤ n → n + a ≤ s.last / 2 + 1 → reached s (half_of a) n ≡ true
  unfolding reached
  reached-of zero n b f l = simp (le-leb (2 * n) (s.last + 2) (omega arith), le-leb s.first (2 * n + 2) (omega arith))
  reached-of (suc zero) n b f l = simp (le-leb (2 * n) s.last (omega arith), le-leb s.first (2 * n + 2) (omega arith))
  reached-of (suc (suc a)) n b f l = absurd (omega arith)

  pub touched : (a i : ℕ) → a ≤ 1 → touches (half_of a) N s i ≡ true → Touched a i
  unfolding number_of count
  touched zero i b e =
      let k = low-yes i e in
      let f = first_below s.first i k.2 in
      record { place = omega arith; past = f; counted = k.0; reach = reached-of 0 i b f (omega arith) }
  touched (suc zero) i b e =
      let k = high-yes i e in
      let n = i - count lo (side 0 N) in
      let f = first_below s.first n k.3 in
      record { place = omega arith; past = f; counted = omega arith; reach = reached-of 1 n b f (omega arith) }
  touched (suc (suc a)) i b e = absurd (omega arith)

  many-in : (a i : ℕ) → a ≤ 1 → i < many a → (first + i < (N + 1 - a) / 2) × (first + i + a ≤ s.last / 2 + 1)
  many-in a i b e = (omega arith, omega arith)

-- ---- the window has what is in reach
pub record Reaches (d : Direction) (a : ℕ) : Type 0 where
  pub past : d.start / 2 ≤ (d.first - 1) / 2
  pub wide : a * (d.size - d.size / 2) + ((d.first - 1) / 2 - d.start / 2) + many d.length (changed_of d) a ≤ d.size
  pub plane : a * (d.length - d.length / 2) + (d.first - 1) / 2 + many d.length (changed_of d) a ≤ d.length
  pub rows : (i : ℕ) → i < many d.length (changed_of d) a → 2 * ((d.first - 1) / 2 + i - d.start / 2) + a < d.size

few-low : (x m w : ℕ) → x < (w + 1) / 2 → 0 < m → 2 * (x + (m - 1)) + 0 < w → 0 * (w - w / 2) + x + m ≤ w
few-low x m w k p g = omega arith

none-low : (x m w : ℕ) → x < (w + 1) / 2 → m ≡ 0 → 0 * (w - w / 2) + x + m ≤ w
none-low x m w k z = omega arith

short-in : (a w N : ℕ) → a + w ≤ N → N ≤ 1 → w ≤ 1
short-in a w N i z = omega arith

few-high : (x m w : ℕ) → 0 < m → 2 * (x + (m - 1)) + 1 < w → 1 * (w - w / 2) + x + m ≤ w
few-high x m w p g = omega arith

one-high : (x m w : ℕ) → x < (w + 1) / 2 → w ≤ 1 → m ≡ 0 → 1 * (w - w / 2) + x + m ≤ w
one-high x m w k l z = omega arith

moved_row : (f t i a w : ℕ) → t ≤ f → 2 * (f + i - t) + a < w → 2 * (f - t + i) + a < w
moved_row f t i a w b y = omega arith

-- a stretch of no high numbers is that of one place
none-high : (N f l m : ℕ) → f < N → f ≤ l → m ≡ 0 → m ≡ min ((N + 1 - 1) / 2) (l / 2 + 2 - 1) - (f - 1) / 2 → N ≤ 1
none-high N f l m b o z e = omega arith

module _ (u v k : ℕ) (d : Direction) (L : Lies u v (suc k) d) where
  pub held_of : (h : Half) (n : ℕ) → n < count h (side 0 d.length) → reached (changed_of d) h n ≡ true → Held u v (d.start / 2) d.size h n
  held_of h n b e =
      let q : 2 ^ suc k ≡ 2 * 2 ^ k = omega arith in
      held u v d.length d.start (d.start / 2) d.size (changed_of d) L.cut (2 ^ k) (one-le-pow k 2 (omega arith)) (rw q at L.cover) h n b e

  pub first-held : Held u v (d.start / 2) d.size lo ((d.first - 1) / 2)
  first-held =
      let b = L.begins in
      let o = L.order in
      held_of lo ((d.first - 1) / 2) (counted_of d.length (changed_of d) 0 ((d.first - 1) / 2) (omega arith) (omega arith))
      (reached-of d.length (changed_of d) 0 ((d.first - 1) / 2) (omega arith) (omega arith) (omega arith))

  number-held : (a i : ℕ) → a ≤ 1 → i < many d.length (changed_of d) a → Held u v (d.start / 2) d.size (half_of a) ((d.first - 1) / 2 + i)
  number-held a i b c =
      let m = many-in d.length (changed_of d) a i b c in
      held_of (half_of a) ((d.first - 1) / 2 + i) (counted_of d.length (changed_of d) a _ b m.0)
      (reached-of d.length (changed_of d) a _ b (omega arith) m.1)

  row_in : (a n : ℕ) → a ≤ 1 → Held u v (d.start / 2) d.size (half_of a) n → 2 * (n - d.start / 2) + a < d.size
  unfolding count
  row_in zero n b h = omega (arith, h.in-half)
  row_in (suc zero) n b h = omega (arith, h.in-half)
  row_in (suc (suc a)) n b h = absurd (omega arith)

  -- a stretch of m numbers ends in the window and in the plane
  wide_of : (a m x : ℕ) → a ≤ 1 → m ≡ many d.length (changed_of d) a → (d.first - 1) / 2 ≡ d.start / 2 + x →
      (0 < m → 2 * (x + (m - 1)) + a < d.size) → a * (d.size - d.size / 2) + x + m ≤ d.size
  wide_of zero m x b e y f =
      let k = window-part ((d.first - 1) / 2) (d.start / 2) x d.size y first-held.in-half in
      elim (dec_lt 0 m) [ yes p ↦ few-low x m d.size k p (f p) | no p ↦ none-low x m d.size k (omega arith) ]
  wide_of (suc zero) m x b e y f =
      let k = window-part ((d.first - 1) / 2) (d.start / 2) x d.size y first-held.in-half in
      elim (dec_lt 0 m) [
        | yes p ↦ few-high x m d.size p (f p)
        | no p ↦
            let z = none-high d.length d.first d.last m L.begins L.order (omega arith) e in
            one-high x m d.size k (short-in d.start d.size d.length L.cut.inside z) (omega arith)
      ]
  wide_of (suc (suc a)) m x b e y f = absurd (omega arith)

  plane-of : (a m : ℕ) → a ≤ 1 → m ≡ many d.length (changed_of d) a → a * (d.length - d.length / 2) + (d.first - 1) / 2 + m ≤ d.length
  plane-of zero m b e = let o = L.begins in omega arith
  plane-of (suc zero) m b e = let o = L.begins in omega arith
  plane-of (suc (suc a)) m b e = absurd (omega arith)

  reaches_of : (a : ℕ) → a ≤ 1 → Reaches d a
  reaches_of a b =
      let rows : (i : ℕ) → i < many d.length (changed_of d) a → 2 * ((d.first - 1) / 2 + i - d.start / 2) + a < d.size =
      λ i c. row_in a _ b (number-held a i b c) in
      let last_row : (m : ℕ) → 0 < many d.length (changed_of d) a →
      2 * ((d.first - 1) / 2 - d.start / 2 + (many d.length (changed_of d) a - 1)) + a < d.size =
      λ m p. let y = rows (many d.length (changed_of d) a - 1) (omega arith) in moved_row ((d.first - 1) / 2) (d.start / 2) (many d.length
      (changed_of d) a - 1) a d.size first-held.past y in
      record {
        past = first-held.past;
        wide = wide_of a _ ((d.first - 1) / 2 - d.start / 2) b refl (omega (arith, first-held.past)) (last_row 0);
        plane = plane-of a _ b refl;
        rows = rows;
      }

pub reaches : (d : Direction) (a : ℕ) → Ready d → a ≤ 1 → Reaches d a
reaches d a R b = reaches_of R.placed.u R.placed.v R.more d R.placed.lies a b

-- ---- both directions
rows_apart : (x y h s : ℕ) → (2 * x + h) * s + y * (2 * s) ≡ (2 * (x + y) + h) * s
rows_apart x y h s = omega arith

pick_same : {A : Type 0} (b : Bool) {x y : A} (z : A) → (b ≡ true → x ≡ y) → pick b x z ≡ pick b y z
pick_same true z f = f refl
pick_same false z f = refl

module _ (A s : ℕ) (d e : Direction) (a h : ℕ) (ba : a ≤ 1) (bh : h ≤ 1) (Rd : Reaches d a) (Re : Reaches e h) where
  abbrev fc : ℕ
  fc = (d.first - 1) / 2

  abbrev fr : ℕ
  fr = (e.first - 1) / 2

  abbrev from : ℕ
  from = (2 * (fr - e.start / 2) + h) * s + (a * (d.size - d.size / 2) + (fc - d.start / 2))

  place-of : (n m i j : ℕ) → fr ≤ n → fc ≤ m → i ≡ n - fr → j ≡ m - fc → from + i * (2 * s) + j ≡ place_of s d e a h n m
  place-of n m i j p q ei ej =
      let x = fr - e.start / 2 in
      let f = rows_apart x i h s in
      let g : n - e.start / 2 ≡ x + i = omega (arith, Re.past) in
      let k : m - d.start / 2 ≡ fc - d.start / 2 + j = omega (arith, Rd.past) in
      rw (g, k) (omega arith)

  -- what the copying of a patch asks
  pub band-asks : (n m c r f : ℕ) → Rows n s d.size e.size → Rows m A d.length e.length →
      (c ≡ a * (d.length - d.length / 2) + fc) → (r ≡ h * (e.length - e.length / 2) + fr) → f ≡ from →
      (0 < A) × (c + many d.length (changed_of d) a ≤ A)
      × ((i : ℕ) → i < many e.length (changed_of e) h → f + i * (2 * s) + many d.length (changed_of d) a ≤ n)
      × ((i : ℕ) → i < many e.length (changed_of e) h → (r + i) * A + c + many d.length (changed_of d) a ≤ m)
  band-asks n m c r f R T ec er ef =
      let w = R.wide in
      let wt = T.wide in
      let wd = Rd.wide in
      let pd = Rd.plane in
      let pe = Re.plane in (
        T.apart,
        omega arith,
        λ i b.
            let g = Re.rows i b in
            let k = moved_row fr (e.start / 2) i h e.size Re.past g in
            let o = row_room n s d.size e.size (2 * (fr - e.start / 2 + i) + h) R k in
            let p = rows_apart (fr - e.start / 2) i h s in
            rw ef (omega (arith, o, p, wd)),
        λ i b.
            let o = row_room m A d.length e.length (r + i) T (omega arith) in
            omega (arith, o, pd, ec),
      )

  pub band-asked : (n m c r f cs rs : ℕ) → Rows n s d.size e.size → Rows m A d.length e.length → c ≡ a * (d.length - d.length / 2) + fc →
      r ≡ h * (e.length - e.length / 2) + fr → f ≡ from → cs ≡ many d.length (changed_of d) a → rs ≡ many e.length (changed_of e) h →
      (0 < A) × (c + cs ≤ A) × ((i : ℕ) → i < rs → f + i * (2 * s) + cs ≤ n) × ((i : ℕ) → i < rs → (r + i) * A + c + cs ≤ m)
  band-asked n m c r f cs rs R T ec er ef es et = rw (es, et) (band-asks n m c r f R T ec er ef)

  pub band-copied : (x z z' : ℕ → ℤ) (B : Grid) → 0 < A →
      ((n m : ℕ) → n < count (half_of h) (side 0 e.length) → m < count (half_of a) (side 0 d.length) → reached (changed_of e) (half_of h) n ≡ true →
      reached (changed_of d) (half_of a) m ≡ true → x (place_of s d e a h n m) ≡ B n m) →
      z' ≡ flat A (patch_copied (patch (h * (e.length - e.length / 2) + fr) (a * (d.length - d.length / 2) + fc) (many e.length (changed_of e) h)
      (many d.length (changed_of d) a)) (λ i j. x (from + i * (2 * s) + j)) (cells A z)) →
      z' ≡ flat A (band_mended (half_of a) (half_of h) d.length e.length (changed_of d) (changed_of e) B (cells A z))
  unfolding patch_copied band_mended
  band-copied x z z' B some hyp is =
      is
      ∙ flat-same A _ _ some
      (λ r c b.
      ap₂ (λ (p q : Bool). pick (both p q) (x (from + (r - (h * (e.length - e.length / 2) + fr)) * (2 * s) + (c - (a * (d.length - d.length / 2) + fc))))
      (cells A z r c)) (touch_is d.length (changed_of d) a c ba) (touch_is e.length (changed_of e) h r bh)
      ∙ pick_same (both (touches (half_of a) d.length (changed_of d) c) (touches (half_of h) e.length (changed_of e) r))
      (cells A z r c)
      (λ on.
      let k = both_yes _ _ on in
      let tc = touched d.length (changed_of d) a c ba k.0 in
      let tr = touched e.length (changed_of e) h r bh k.1 in
      ap x (place-of _ _ _ _ tr.past tc.past (omega (arith, tr.place)) (omega (arith, tc.place)))
      ∙ hyp _ _ tr.counted tc.counted tr.reach tc.reach))

  -- the same with the numbers as the code has them
  pub band-called : (x z z' : ℕ → ℤ) (B : Grid) (c r cs rs f : ℕ) → 0 < A → c ≡ a * (d.length - d.length / 2) + fc →
      r ≡ h * (e.length - e.length / 2) + fr →
      cs ≡ many d.length (changed_of d) a → rs ≡ many e.length (changed_of e) h → f ≡ from →
      ((n m : ℕ) → n < count (half_of h) (side 0 e.length) → m < count (half_of a) (side 0 d.length) → reached (changed_of e) (half_of h) n ≡ true →
      reached (changed_of d) (half_of a) m ≡ true → x (place_of s d e a h n m) ≡ B n m) →
      z' ≡ flat A (patch_copied (patch r c rs cs) (λ i j. x (f + i * (2 * s) + j)) (cells A z)) →
      z' ≡ flat A (band_mended (half_of a) (half_of h) d.length e.length (changed_of d) (changed_of e) B (cells A z))
  band-called x z z' B c r cs rs f some ec er es et ef hyp is = band-copied x z z' B some hyp (rw (ec, er, es, et, ef) at is)

-- the first row of a stretch lies in the window, or it is row 1
pub first-row : (u v k : ℕ) (d : Direction) (a : ℕ) → Lies u v (suc k) d → a ≤ 1 →
    2 * ((d.first - 1) / 2 - d.start / 2) + a < d.size + 1
unfolding count
first-row u v k d a L b = let h = (first-held u v k d L).in-half in omega arith

-- so that its place is a number of 64 bits
module _ (n s w h p : ℕ) (R : Rows n s w h) (small : n < 2 ^ 63) (near : s < 2 ^ 32) (b : p < h + 1) where
  down_fits : p * s ≤ n + s
  down_fits =
      elim (dec_lt p h) [
        | yes q ↦ omega (arith, row_room n s w h p R q)
        | no q ↦
            let k : p * s ≡ (h - 1) * s + s = last-times p h s (omega arith) R.some in
            omega (arith, R.room)
      ]
    where
      last-times : (x y z : ℕ) → x ≡ y → 0 < y → x * z ≡ (y - 1) * z + z
      last-times x zero z e g = absurd (omega arith)
      last-times x (suc y) z e g = let k : suc y - 1 ≡ y = omega arith in rw (e, k) (omega arith)

  pub row-fits : Fits w64 (p * s)
  row-fits = let d = down_fits in omega arith

  pub place-fits : (c : ℕ) → c ≤ w → Fits w64 (p * s + c)
  place-fits c k = let d = down_fits in let g = R.wide in omega arith

-- a stretch begins within the row
pub across-in : (d : Direction) (a c : ℕ) → Reaches d a → c ≡ a * (d.size - d.size / 2) + ((d.first - 1) / 2 - d.start / 2) → c ≤ d.size
across-in d a c R e = let w = R.wide in omega arith
