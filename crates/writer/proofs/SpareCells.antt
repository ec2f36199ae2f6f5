-- The numbers of the spare row into a row of level 1, pair after pair, are the heights put one after the other (`pairs-put`). Behind `spare::put`.
-- Assumes nothing.
use mathlib.Core.Path.{◌≡◌, refl, sym, ap, ap₂, subst, ◌∙◌}
use mathlib.Core.List.{List}
use Prim.Native.Nat.{ℕ, zero, suc, ◌+◌, ◌-◌, ◌*◌, ◌/◌, ◌%◌, ◌≤◌, ◌<◌}
use native.Mathlib.Decide.{ℕ_discrete}
use native.Mathlib.Nat.{mod-lt, mul-le-mul_right, suc-mul}
use native.Mathlib.Omega.{arith}
use lib.IntN.{ℤ, pos}
use lib.Dec.{eqb}
use lib.ListN.{length, set, length-set}
use lib.Seq.{get_or-set_other}
use borrow.Author.Tests.{eq-eqb, ne_eqb}
use Rattle.numbers.specs.Signal.{at, pick, stored, spliced}
use Rattle.numbers.proofs.Stores.{at_stored, stored-off}
use Rattle.numbers.proofs.Sweep.{Swept, start, store, finish}
use Rattle.lifting.specs.Line.{lo}
use Rattle.lifting.specs.Grid.{Side, side, count}
use Rattle.wavelet.proofs.SideLaws.{count-lo}
use Rattle.filters.specs.Filters.{filter_of}
use Rattle.level.specs.Level.{Memory}
use Rattle.level.specs.Cells as cells
use Rattle.level.specs.Stretch as stretch
use Rattle.analysis.specs.Forward.{kind_of, heights_put}
use Rattle.analysis.proofs.ForwardLaws.{height-more, height-none}
use Rattle.writer.specs.SpareSteps.{Mover, separated, first_place}
use Rattle.writer.proofs.SpareLaws.{before-spliced, past-spliced, in-spliced}

-- ---- heights copied: before turn j of n, m₀ being the list at the start
pub record Copying (a n : ℕ) (y : Memory) (m₀ : List ℤ) (j : ℕ) (m : List ℤ) : Type 0 where
  pub within : j ≤ n
  pub room : a + n ≤ length m₀
  pub swept : Swept (length m₀) (spliced a n y (at m₀)) (at m₀) (a + j) m

module _ (a n : ℕ) (y : Memory) (m₀ : List ℤ) where
  pub copy_start : a + n ≤ length m₀ → Copying a n y m₀ 0 m₀
  copy_start h = record {
    within = omega arith;
    room = h;
    swept = start m₀ _ (a + 0) (λ j p. before-spliced a n y (at m₀) j (omega arith));
  }

  pub copy-turn : (j : ℕ) (m : List ℤ) (v : ℤ) → Copying a n y m₀ j m → j < n → v ≡ y j → Copying a n y m₀ (j + 1) (set m (a + j) v)
  copy-turn j m v f h e =
      let k : a + j + 1 ≡ a + (j + 1) = omega arith in
      record {
        within = omega arith;
        room = f.room;
        swept = subst (λ i. Swept (length m₀) (spliced a n y (at m₀)) (at m₀) i (set m (a + j) v)) k
            (store v f.swept (omega (arith, f.room)) (e ∙ sym (in-spliced a n y (at m₀) j h)));
      }

  pub copy-end : (j : ℕ) (m : List ℤ) → Copying a n y m₀ j m → n ≤ j → at m ≡ spliced a n y (at m₀)
  copy-end j m f h = finish f.swept (λ p q. past-spliced a n y (at m₀) p (omega arith))

-- ---- pairs taken apart: before turn j of n
separated-past : (a e o k : ℕ) (x : Memory) (p : ℕ) → e + k ≤ p → o + k ≤ p → separated a e o k x p ≡ x p
unfolding separated
separated-past a e o zero x p h g = refl
separated-past a e o (suc k) x p h g =
    stored-off (o + k) p _ _ (λ z. omega arith) ∙ stored-off (e + k) p _ _ (λ z. omega arith) ∙ separated-past a e o k x p (omega arith) (omega arith)

pub record Pairs (a e o n : ℕ) (m₀ : List ℤ) (j : ℕ) (m : List ℤ) : Type 0 where
  pub within : j ≤ n
  pub firsts : e + n ≤ a
  pub seconds : o + n ≤ a
  pub room : a + 2 * n ≤ length m₀
  pub size : length m ≡ length m₀
  pub value : at m ≡ separated a e o j (at m₀)

module _ (a e o n : ℕ) (m₀ : List ℤ) where
  pub pairs_start : e + n ≤ a → o + n ≤ a → a + 2 * n ≤ length m₀ → Pairs a e o n m₀ 0 m₀
  unfolding separated
  pairs_start h g r = record { within = omega arith; firsts = h; seconds = g; room = r; size = refl; value = refl }

  -- what is read is as it was
  pub pairs-read : (j : ℕ) (m : List ℤ) → Pairs a e o n m₀ j m → (p : ℕ) → a ≤ p → at m p ≡ at m₀ p
  pairs-read j m c p h =
      ap (λ (y : Memory). y p) c.value
      ∙ separated-past a e o j (at m₀) p (omega (arith, c.firsts, c.within)) (omega (arith, c.seconds, c.within))

  pub pairs-again : (j : ℕ) (m : List ℤ) (v : ℤ) → Pairs a e o n m₀ j m → j < n → (p : ℕ) → a ≤ p → at (set m (e + j) v) p ≡ at m₀ p
  pairs-again j m v c l p h = get_or-set_other m (e + j) p v (pos 0) (λ q. omega (arith, c.firsts, q)) ∙ pairs-read j m c p h

  pub pairs-turn : (j : ℕ) (m : List ℤ) (v u : ℤ) → Pairs a e o n m₀ j m → j < n → v ≡ at m₀ (a + 2 * j) →
      u ≡ at m₀ (a + (2 * j + 1)) → Pairs a e o n m₀ (j + 1) (set (set m (e + j) v) (o + j) u)
  unfolding separated
  pairs-turn j m v u c h ev eu =
      let n₁ = length-set m (e + j) v in
      let n₂ = length-set (set m (e + j) v) (o + j) u in
      let s₁ = at_stored m (e + j) v (omega (arith, c.firsts, c.room, c.size)) in
      let s₂ = at_stored (set m (e + j) v) (o + j) u (omega (arith, c.seconds, c.room, c.size)) in
      let k : j + 1 ≡ suc j = omega arith in
      record {
        within = omega arith;
        firsts = c.firsts;
        seconds = c.seconds;
        room = c.room;
        size = n₂ ∙ n₁ ∙ c.size;
        value = rw k (s₂ ∙ ap (stored (o + j) u) (s₁ ∙ ap (stored (e + j) v) c.value) ∙ cc (ev, eu));
      }

  pub pairs_end : (j : ℕ) (m : List ℤ) → Pairs a e o n m₀ j m → n ≤ j → at m ≡ separated a e o n (at m₀)
  pairs_end j m c h = let q : j ≡ n = omega (arith, c.within) in c.value ∙ ap (λ (k : ℕ). separated a e o k (at m₀)) q

-- ---- where the numbers of a row stand, f being the number of the filter: in halves, the even coordinates first
cell-is : (f : ℕ) (W : Side) (q c : ℕ) →
    (kind_of f).cell W 0 q c ≡ q % (filter_of f).rows * W.length + pick (eqb ((W.start % 2 + c) % 2) 0) (c / 2) (count lo W + c / 2)
unfolding filter_of cells.spot stretch.row_place
cell-is zero W q c = let e : 0 % 2 + q ≡ q = omega arith in rw e refl
cell-is (suc f) W q c = let e : 0 % 2 + q ≡ q = omega arith in rw e refl

module _ (f : ℕ) (W : Side) (q : ℕ) where
  abbrev low : ℕ
  low = count lo W

  abbrev row : ℕ
  row = q % (filter_of f).rows * W.length

  abbrev first : ℕ
  first = first_place W.start low

  place-even : (k : ℕ) → pick (eqb ((W.start % 2 + 2 * k) % 2) 0) (2 * k / 2) (low + 2 * k / 2) ≡ first + k
  place-even k =
      elim (ℕ_discrete (W.start % 2) 0) [
        | yes e ↦ simp (eq-eqb ((W.start % 2 + 2 * k) % 2) 0 (omega arith), eq-eqb (W.start % 2) 0 e) (omega arith)
        | no d ↦ simp (ne_eqb ((W.start % 2 + 2 * k) % 2) 0 (λ e. omega (arith, d)), ne_eqb (W.start % 2) 0 d) (omega arith)
      ]

  place-odd : (k : ℕ) → pick (eqb ((W.start % 2 + (2 * k + 1)) % 2) 0) ((2 * k + 1) / 2) (low + (2 * k + 1) / 2) ≡ low - first + k
  place-odd k =
      elim (ℕ_discrete (W.start % 2) 0) [
        | yes e ↦ simp (ne_eqb ((W.start % 2 + (2 * k + 1)) % 2) 0 (λ z. omega (arith, e)), eq-eqb (W.start % 2) 0 e) (omega arith)
        | no d ↦ simp (eq-eqb ((W.start % 2 + (2 * k + 1)) % 2) 0 (omega (arith, d)), ne_eqb (W.start % 2) 0 d) (omega arith)
      ]

  put-more : (n : ℕ) (h x : ℕ → ℤ) → heights_put f W q 0 (suc n) h x
      ≡ stored (row + pick (eqb ((W.start % 2 + n) % 2) 0) (n / 2) (low + n / 2)) (h n) (heights_put f W q 0 n h x)
  put-more n h x =
      let e : 0 % 2 + q ≡ q = omega arith in
      let z : 0 + n ≡ n = omega arith in
      subst (λ p. heights_put f W p 0 (suc n) h x ≡ stored ((kind_of f).cell W 0 q (0 + n)) (h n) (heights_put f W p 0 n h x)) e (height-more f W 0 q 0 n h x)
      ∙ ap (λ (k : ℕ). stored ((kind_of f).cell W 0 q k) (h n) (heights_put f W q 0 n h x)) z
      ∙ ap (λ (p : ℕ). stored p (h n) (heights_put f W q 0 n h x)) (cell-is f W q n)

  -- one number more, at an even place of the row
  pub last-put : (k : ℕ) (h x : ℕ → ℤ) → heights_put f W q 0 (2 * k + 1) h x ≡ stored (row + first + k) (h (2 * k)) (heights_put f W q 0 (2 * k) h x)
  last-put k h x =
      let e : 2 * k + 1 ≡ suc (2 * k) = omega arith in
      ap (λ (n : ℕ). heights_put f W q 0 n h x) e
      ∙ put-more (2 * k) h x
      ∙ ap (λ (p : ℕ). stored p (h (2 * k)) (heights_put f W q 0 (2 * k) h x)) (omega (arith, place-even k))

  -- k pairs from place a on
  pub pairs-put : (a k : ℕ) (x : Memory) → separated a (row + first) (row + (low - first)) k x ≡ heights_put f W q 0 (2 * k) (λ j. x (a + j)) x
  unfolding separated
  pairs-put a zero x = sym (height-none f W q 0 (λ j. x (a + j)) x)
  pairs-put a (suc k) x =
      let e : 2 * suc k ≡ suc (2 * k + 1) = omega arith in
      let p : row + (low - first) + k ≡ row + pick (eqb ((W.start % 2 + (2 * k + 1)) % 2) 0) ((2 * k + 1) / 2) (low + (2 * k + 1) / 2) =
      omega (arith, place-odd k) in
      ap₂ (λ (i : ℕ) (y : Memory). stored i (x (a + (2 * k + 1))) y) p
      (ap (stored (row + first + k) (x (a + 2 * k))) (pairs-put a k x) ∙ sym (last-put k (λ j. x (a + j)) x))
      ∙ sym (put-more (2 * k + 1) (λ j. x (a + j)) x)
      ∙ ap (λ (n : ℕ). heights_put f W q 0 n (λ j. x (a + j)) x) (sym e)

-- ---- what the call asks for, over plain numbers: R rows, `low` even columns, o where the first goes
pub record Places (w q R low o from n k : ℕ) : Type 0 where
  pub some : 0 < R
  pub row : q % R * w + w ≤ from
  pub half : o ≤ low
  pub firsts : o + n / 2 ≤ w
  pub seconds : low - o + n / 2 ≤ w
  pub last : 2 * (n / 2) < n → o + n / 2 < w
  pub near : n ≤ w
  pub room : from + n ≤ k

pub rows-some : (f : ℕ) → 0 < (filter_of f).rows
unfolding filter_of
rows-some zero = omega arith
rows-some (suc f) = omega arith

pub row_room : (f w q R from n k : ℕ) → Mover f w from n k → R ≡ (filter_of f).rows → q % R * w + w ≤ from
row_room f w q R from n k m e =
    let s : 0 < R = rw e (rows-some f) in
    let up : q % R + 1 ≡ suc (q % R) = omega arith in
    omega (arith, m.past, ap (λ i. i * w) e, mul-le-mul_right {m = q % R + 1} {n = R} w (omega (arith, mod-lt q s)), suc-mul (q % R) w, ap (λ i. i * w) up)

pub places : (f w x q R low o from n k : ℕ) → Mover f w from n k → R ≡ (filter_of f).rows → low ≡ count lo (side x w) → o ≡ first_place x low →
    Places w q R low o from n k
places f w x q R low o from n k m e l p =
    let s : 0 < R = rw e (rows-some f) in
    let c : low ≡ (w + 1 - x % 2) / 2 = l ∙ count-lo (side x w) in
    let b = row_room f w q R from n k m e in
    elim (ℕ_discrete (x % 2) 0) [
      | yes z ↦
          let y : o ≡ 0 = p ∙ simp (eq-eqb (x % 2) 0 z) in
          record {
            some = s;
            row = b;
            half = omega (arith, y);
            firsts = omega (arith, y, m.row);
            seconds = omega (arith, y, c, z, m.row);
            last = λ h. omega (arith, y, m.row);
            near = m.row;
            room = m.room;
          }
      | no d ↦
          let y : o ≡ low = p ∙ simp (ne_eqb (x % 2) 0 d) in
          let z : x % 2 ≡ 1 = omega (arith, d) in
          record {
            some = s;
            row = b;
            half = omega (arith, y);
            firsts = omega (arith, y, c, z, m.row);
            seconds = omega (arith, y, m.row);
            last = λ h. omega (arith, y, c, z, m.row);
            near = m.row;
            room = m.room;
          }
    ]

-- ---- what it leaves: an even number of them, and an odd one
module _ (f w x q R low o a n : ℕ) (u z : Memory) (e : R ≡ (filter_of f).rows) (l : low ≡ count lo (side x w)) (p : o ≡ first_place x low)
    (g : z ≡ separated a (q % R * w + o) (q % R * w + (low - o)) (n / 2) u) where
  pairs-are : z ≡ heights_put f (side x w) q 0 (2 * (n / 2)) (λ j. u (a + j)) u
  pairs-are = g ∙ rw (p, l, e) (pairs-put f (side x w) q a (n / 2) u)

  pub put-even : n ≤ 2 * (n / 2) → z ≡ heights_put f (side x w) q 0 n (λ j. u (a + j)) u
  put-even h = let m : 2 * (n / 2) ≡ n = omega arith in pairs-are ∙ ap (λ (k : ℕ). heights_put f (side x w) q 0 k (λ j. u (a + j)) u) m

  pub put-odd : (v : ℤ) (y : Memory) → 2 * (n / 2) < n → v ≡ u (a + 2 * (n / 2)) → y ≡ stored (q % R * w + o + n / 2) v z →
      y ≡ heights_put f (side x w) q 0 n (λ j. u (a + j)) u
  put-odd v y h ev ey =
      let m : 2 * (n / 2) + 1 ≡ n = omega arith in
      let k : q % R * w + o + n / 2 ≡ q % (filter_of f).rows * w + first_place x (count lo (side x w)) + n / 2 = cc (e, l, p) in
      ey
      ∙ cc (k, ev, pairs-are)
      ∙ sym (last-put f (side x w) q (n / 2) (λ j. u (a + j)) u)
      ∙ ap (λ (i : ℕ). heights_put f (side x w) q 0 i (λ j. u (a + j)) u) m

  -- the last number is read as it was
  pub last-read : (k i : ℕ) → Places w q R low o a n k → a ≤ i → z i ≡ u i
  last-read k i r h =
      ap (λ (y : Memory). y i) g
      ∙ separated-past a (q % R * w + o) (q % R * w + (low - o)) (n / 2) u i (omega (arith, r.row, r.firsts)) (omega (arith, r.row, r.seconds))
