-- The laws of the line store: where the stretches of the levels stand, and the walk to a level. Assumes nothing.
use mathlib.Core.Path.{◌≡◌, refl, sym, ap, ap₂, ◌∙◌}
use mathlib.Core.Bool.{true}
use Prim.Native.Nat.{ℕ, zero, suc, ◌+◌, ◌-◌, ◌*◌, ◌/◌, ◌%◌, ◌≤◌, ◌<◌, ◌^◌}
use native.Mathlib.Omega.{arith}
use Rattle.numbers.specs.Signal.{pick}
use Rattle.lifting.specs.Line.{lo}
use Rattle.lifting.specs.Grid.{Side, side, count}
use Rattle.wavelet.specs.Limits.{max_width}
use Rattle.wavelet.specs.Questions.{within}
use Rattle.wavelet.specs.Levels.{next, side_at}
use Rattle.wavelet.specs.Steps.{set_of}
use Rattle.wavelet.specs.Store.{widths}
use Rattle.wavelet.proofs.SideLaws.{size-suc}
use Rattle.wavelet.proofs.StoreLaws as grid
use Rattle.filters.specs.Filters.{filter_of, is_filter}
use Rattle.filters.specs.Figures.{store_by, streamable}
use Rattle.synthesis.proofs.BackLaws.{back-stretch}
use Rattle.filters.proofs.FigureLaws.{store-few}
use Rattle.reader.specs.declared.walk.Level.{Level}
use Rattle.wavelet.specs.Order.{first_set}
use Rattle.reader_steps.specs.Sets.{ahead, row_of, taking, needed, first_row, waiting}
use Rattle.reader.specs.Store.{stretch_at}
use Rattle.reader.specs.Inside.{IsLevel, IsAt}
use Rattle.wavelet.proofs.StepLaws.{set_there}
use Rattle.reader_steps.proofs.OpenedSets.{low-is, last-is, needed-next}

pub stretch-zero : (f : ℕ) (W : Side) → stretch_at f W 0 ≡ 0
unfolding stretch_at
stretch-zero f W = refl

pub stretch-suc : (f : ℕ) (W : Side) (k : ℕ) → stretch_at f W (suc k) ≡ stretch_at f W k + (filter_of f).rows * (side_at k W).length
unfolding stretch_at
stretch-suc f W k = ap (λ i. stretch_at f W k + i) (back-stretch f (side_at k W))

-- what k levels need ends where the next begins
pub stretch-is : (f : ℕ) (W : Side) (k : ℕ) → stretch_at f W k ≡ store_by f W k
stretch-is f W zero = stretch-zero f W ∙ sym (grid.store-none (filter_of f).rows W)
stretch-is f W (suc k) =
    stretch-suc f W k ∙ ap (λ i. i + (filter_of f).rows * (side_at k W).length) (stretch-is f W k) ∙ sym (grid.store-more (filter_of f).rows W k)

-- the stretch of a level ends where the next begins, and the last within the whole
pub stretch-in : (f : ℕ) (W : Side) (k L : ℕ) → k ≤ L → stretch_at f W k ≤ stretch_at f W L
stretch-in f W k L h = rw (stretch-is f W k, stretch-is f W L) (grid.store_in (filter_of f).rows W k L h)

pub stretch-small : (f : ℕ) (W : Side) (k : ℕ) → W.length ≤ 2 ^ 16 → stretch_at f W k ≤ 2 ^ 20 + 8 * k
stretch-small f W k h = omega (arith, stretch-is f W k, store-few f W k)

-- the length that the code asks for, within the limits
pub length-is : (f : ℕ) (W : Side) (L : ℕ) → is_filter f ≡ true → within 1 max_width W.length ≡ true → within 1 (filter_of f).levels L ≡ true →
    pick (streamable f W L) (store_by f W L) 0 ≡ store_by f W L
unfolding streamable
length-is f W L k a b = rw (k, a, b)

-- ---- a walk from level 1 on: after i levels, their columns added up, the sides of level i + 1, and the row of its rows that row d of the map takes
pub record Walked (f : ℕ) (W H : Side) (d i sum wx w hy h r : ℕ) : Type 0 where
  pub passed : sum ≡ widths W i
  pub wide : side wx w ≡ side_at i W
  pub high : side hy h ≡ side_at i H
  pub row : r ≡ row_of H i (needed f H 0 d i)
  pub narrow : w ≤ W.length
  pub short : h ≤ H.length
  pub near : r ≤ 2 ^ 32

pub walk_start : (f : ℕ) (W H : Side) (d : ℕ) → d ≤ 2 ^ 32 → Walked f W H d 0 0 W.start W.length H.start H.length d
unfolding side_at row_of needed
walk_start f W H d small =
    record {
      passed = sym (grid.widths-none W);
      wide = refl;
      high = refl;
      row = refl;
      narrow = omega arith;
      short = omega arith;
      near = small;
    }

module _ (f : ℕ) (W H : Side) (d i sum wx w hy h r : ℕ) (a : Walked f W H d i sum wx w hy h r) where
  -- the set of the row, and the row of the next level that it takes
  pub walked-set : (n : ℕ) → n ≡ set_of (ahead f) (side hy h) r → n ≡ needed f H 0 d (suc i)
  walked-set n e = e ∙ ap₂ (set_of (ahead f)) a.high a.row ∙ sym (needed-next f H 0 d i (omega arith))

  walked_row : (n r' : ℕ) → n ≡ set_of (ahead f) (side hy h) r → r' ≡ n - first_set (side hy h) lo → r' ≡ row_of H (suc i) (needed f H 0 d (suc i))
  unfolding row_of
  walked_row n r' e u = u ∙ ap₂ (λ (m : ℕ) (S : Side). m - first_set S lo) (walked-set n e) a.high

  pub walk-on : (wx' w' hy' h' n r' : ℕ) → H.length < 2 ^ 32 → w' ≡ count lo (side wx w) → wx' ≡ (next (side wx w)).start → n ≡ set_of (ahead f) (side hy h) r →
      r' ≡ n - first_set (side hy h) lo → h' ≡ count lo (side hy h) → hy' ≡ (next (side hy h)).start → Walked f W H d (i + 1) (sum + w) wx' w' hy' h' r'
  unfolding next
  walk-on wx' w' hy' h' n r' small ew ex en er eh ey =
      let one : i + 1 ≡ suc i = omega arith in
      let wide = a.wide in
      let high = a.high in
      rw one
      record {
        passed = sym (grid.widths-more W i ∙ ap₂ (λ (x y : ℕ). x + y) (sym a.passed) (ap (λ (S : Side). S.length) (sym wide)));
        wide = ap₂ side ex ew ∙ ap next wide ∙ sym (size-suc i W);
        high = ap₂ side ey eh ∙ ap next high ∙ sym (size-suc i H);
        row = walked_row n r' en er;
        narrow = omega (arith, ew, a.narrow, low-is (side wx w));
        short = omega (arith, eh, a.short, low-is (side hy h));
        near = omega (arith, er, en, a.short, set_there (ahead f) (side hy h) r, last-is (side hy h));
      }

-- ---- the same by the coordinates where a side begins and ends
half_of : (v n r : ℕ) → r ≡ (next (side v n)).start → r ≡ (v + 1) / 2
unfolding next
half_of v n r e = e

between : (a b a' b' : ℕ) → a ≤ b → a' ≡ (a + 1) / 2 → b' ≡ (b + 1) / 2 → (a' ≤ b') × (b' - a' ≡ count lo (side a (b - a)))
between a b a' b' h ea eb = (omega arith, omega (arith, low-is (side a (b - a))))

pub record Ends (f : ℕ) (W H : Side) (d i sum left right top bottom row : ℕ) : Type 0 where
  pub across : left ≤ right
  pub down : top ≤ bottom
  pub walked : Walked f W H d i sum left (right - left) top (bottom - top) row
  pub small : (left ≤ W.start) × (top ≤ H.start)

pub ends-start : (f : ℕ) (W H : Side) (d : ℕ) → d ≤ 2 ^ 32 → Ends f W H d 0 0 W.start (W.start + W.length) H.start (H.start + H.length) d
ends-start f W H d near =
    let a : W.start + W.length - W.start ≡ W.length = omega arith in
    let b : H.start + H.length - H.start ≡ H.length = omega arith in
    record { across = omega arith; down = omega arith; walked = rw (a, b) (walk_start f W H d near); small = (omega arith, omega arith) }

pub ends_on : (f : ℕ) (W H : Side) (d i sum a b t u c : ℕ) → H.length < 2 ^ 32 → Ends f W H d i sum a b t u c → (a' b' t' u' n c' : ℕ) →
    n ≡ set_of (ahead f) (side t (u - t)) c → ((h : ℕ) → c' ≡ n - first_set (side t h) lo) →
    ((n : ℕ) → a' ≡ (next (side a n)).start) → ((n : ℕ) → b' ≡ (next (side b n)).start) → ((n : ℕ) → t' ≡ (next (side t n)).start) →
    ((n : ℕ) → u' ≡ (next (side u n)).start) → Ends f W H d (i + 1) (sum + (b - a)) a' b' t' u' c'
ends_on f W H d i sum a b t u c small e a' b' t' u' n c' en ec ea eb et eu =
    let fa = half_of a 0 a' (ea 0) in
    let ft = half_of t 0 t' (et 0) in
    let w = between a b a' b' e.across fa (half_of b 0 b' (eb 0)) in
    let h = between t u t' u' e.down ft (half_of u 0 u' (eu 0)) in
    record {
      across = w.0;
      down = h.0;
      walked = walk-on f W H d i sum a (b - a) t (u - t) c e.walked a' (b' - a') t' (u' - t') n c' small w.1 (ea (b - a)) en (ec (u - t)) h.1
          (et (u - t));
      small = (omega (arith, fa, e.small.0), omega (arith, ft, e.small.1));
    }

-- where its stretch begins, m being the rows that a level keeps
pub begins-small : (f m : ℕ) (W : Side) (k sum : ℕ) → m ≡ (filter_of f).rows → sum ≡ widths W k → W.length ≤ 2 ^ 16 → m * sum ≤ 2 ^ 20 + 8 * k
begins-small f m W k sum em es h = rw (em, es, ← grid.store_is (filter_of f).rows W k, ← stretch-is f W k) (stretch-small f W k h)

-- the level come to, at the last set that row d needs
pub walked-level : (f m : ℕ) (W H : Side) (d k i sum wx w hy h r : ℕ) → H.length < 2 ^ 32 → i ≡ k → Walked f W H d i sum wx w hy h r → (n : ℕ) →
    n ≡ set_of (ahead f) (side hy h) r → m ≡ (filter_of f).rows →
    IsAt f W H d k (record { start = m * sum; x = wx; width = w; y = hy; height = h; set = n; last = n })
walked-level f m W H d k i sum wx w hy h r small e a n set em =
    let wide : side wx w ≡ side_at k W = a.wide ∙ ap (λ (j : ℕ). side_at j W) e in
    let high : side hy h ≡ side_at k H = a.high ∙ ap (λ (j : ℕ). side_at j H) e in
    let now : n ≡ needed f H 0 d (suc k) = walked-set f W H d i sum wx w hy h r a n set ∙ ap (λ (j : ℕ). needed f H 0 d (suc j)) e in
    record {
      level = record {
        start = ap₂ (λ (x y : ℕ). x * y) em a.passed ∙ sym (grid.store_is (filter_of f).rows W i) ∙ sym (stretch-is f W i) ∙ ap (stretch_at f W) e;
        x = ap (λ (S : Side). S.start) wide;
        width = ap (λ (S : Side). S.length) wide;
        y = ap (λ (S : Side). S.start) high;
        height = ap (λ (S : Side). S.length) high;
        set = omega (arith, set, a.short, set_there (ahead f) (side hy h) r, last-is (side hy h));
        last = now;
      };
      now = now;
    }

-- a level at another set
abbrev pub AtSet : Level → ℕ → Level → Type 0
AtSet l n m =
    (m.start ≡ l.start) × (m.x ≡ l.x) × (m.width ≡ l.width) × (m.y ≡ l.y) × (m.height ≡ l.height) × (m.set ≡ n) × (m.last ≡ l.last)

pub set-level : (f : ℕ) (W H : Side) (d k n : ℕ) (l m : Level) → n ≤ 2 ^ 32 → IsLevel f W H d k l → AtSet l n m → IsLevel f W H d k m
set-level f W H d k n l m small is e = record {
  start = e.0 ∙ is.start;
  x = e.1 ∙ is.x;
  width = e.2 ∙ is.width;
  y = e.3 ∙ is.y;
  height = e.4 ∙ is.height;
  set = omega (arith, e.5);
  last = e.6 ∙ is.last;
}

-- the finer level that waits
pub waiting-is : (f : ℕ) (H : Side) (k n r y : ℕ) → 0 < k → r ≡ first_row f (side_at k H) n → y ≡ (side_at (k - 1) H).start → r + y % 2 ≡ waiting f H k n
unfolding waiting taking first_set
waiting-is f H zero n r y h er ey = absurd (omega arith)
waiting-is f H (suc k) n r y h er ey = let z : suc k - 1 ≡ k = omega arith in rw (er, ey, z) refl
