-- The lines of a level back: a row lifted back into one of them, and the columns of a pair of rows in them. Assumes nothing.
use mathlib.Core.Path.{◌≡◌, refl, sym, ap, ◌∙◌}
use mathlib.Core.List.{List}
use Prim.Native.Nat.{ℕ, ◌+◌, ◌-◌, ◌*◌, ◌^◌, ◌%◌, ◌≤◌, ◌<◌}
use native.Mathlib.Decide.{ℕ_discrete, dec_lt}
use native.Mathlib.Omega.{arith}
use borrow.Author.Tests.{lt-ltb, le-ltb}
use lib.IntN.{ℤ}
use lib.ListN.{length, set, length-set}
use Rattle.numbers.specs.Signal.{at, stored}
use Rattle.numbers.proofs.Stores.{stored_at, stored-off, at_stored}
use Rattle.lifting.specs.Line.{lo}
use Rattle.lifting.specs.Grid.{Side, count}
use Rattle.lifting.specs.GridHalves.{highs_laid}
use Rattle.lifting.specs.Passes.{near, lows_changed}
use Rattle.lifting.proofs.GridLaws.{some}
use Rattle.lifting.proofs.PassLaws.{highs-low, highs-high, lows-low, lows-past}
use mir.Syntax.{w32}
use mir.Val.{SFits, of_z}
use Rattle.numbers.proofs.Words.{wrap-fits}
use Rattle.map_levels.proofs.SmallLaws.{or-of}
use Rattle.map_levels.proofs.SweepLines.{stored-by, stored-two}
use Rattle.map_levels.specs.SweepBack.{short_unupdated, short_unpredicted, short_unlifted}
use Rattle.map_levels.specs.BackLines.{low_back, high_back, line_long, next_line, high_line, even_line, odd_line, even_of, odd_of, pair_stored}
use Rattle.map_levels.specs.BackLines.{PairBack, EvenBack, OddBack}

-- a number stored into a list, and the others
pub set_here : (l : List ℤ) (p : ℕ) (v : ℤ) → p < length l → at (set l p v) p ≡ v
set_here l p v b = ap (λ (f : ℕ → ℤ). f p) (at_stored l p v b) ∙ stored_at p p v (at l) refl

pub set_there : (l : List ℤ) (p j : ℕ) (v : ℤ) → p < length l → (j ≡ p → ⊥) → at (set l p v) j ≡ at l j
set_there l p j v b d = ap (λ (f : ℕ → ℤ). f j) (at_stored l p v b) ∙ stored-off p j v (at l) d

-- the neighbours of a number that has both
near-left : (h o j : ℕ) → 0 < j + o → j + o < h → near h (j + o - 1) ≡ j + o - 1
near-left h o j a b = omega arith

near-right : (h o j : ℕ) → j + o < h → near h (j + o) ≡ j + o
near-right h o j b = omega arith

beside-left : (N m o j : ℕ) → 0 < j + o → j + o < N - m → m + near (N - m) (j + o - 1) ≡ m + j + o - 1
beside-left N m o j a b = rw (near-left (N - m) o j a b) (omega arith)

beside-right : (N m o j : ℕ) → j + o < N - m → m + near (N - m) (j + o) ≡ m + j + o
beside-right N m o j b = rw (near-right (N - m) o j b) (omega arith)

low-within : (n end N m o L : ℕ) → n < end → end ≡ N - m - o → L ≡ N → n < L
low-within n end N m o L b e l = omega arith

high-few : (N m o end n k : ℕ) → end ≤ n → end ≡ m - o → N + o ≤ m + m + 1 → m + k < N → o ≤ 1 → (k ≡ n → ⊥) → k < n
high-few N m o end n k b e most inside few d = omega (arith, d)

-- ---- the low numbers, up to n: the first one is made behind the loop where no high number comes before it
pub record LowsRun (low row : List ℤ) (m o end n : ℕ) (out : List ℤ) : Type 0 where
  pub some : 0 < m
  pub both : m < length row
  pub few : o ≤ 1
  pub least : length row ≤ m + m + o
  pub most : m + m + o ≤ length row + 1
  pub lows : length low ≡ m
  pub last : end ≡ length row - m - o
  pub room : length row * 4 < 2 ^ 63
  pub within : n ≤ end
  pub size : length out ≡ length row
  pub done : (j : ℕ) → j < n → 0 < j + o → at out j ≡ low_back o m (length row) (at low) (at row) j

module _ {low row : List ℤ} {m o end n : ℕ} {out : List ℤ} (h : LowsRun low row m o end n out) where
  abbrev want : ℕ → ℤ
  want = low_back o m (length row) (at low) (at row)

  pub low_run : (out' : List ℤ) → n < end →
      out' ≡ set out n (short_unupdated (at low n) (at row (m + n + o - 1)) (at row (m + n + o))) → LowsRun low row m o end (n + 1) out'
  low_run out' b is =
      record {
        some = h.some;
        both = h.both;
        few = h.few;
        least = h.least;
        most = h.most;
        lows = h.lows;
        last = h.last;
        room = h.room;
        within = omega arith;
        size = ap length is ∙ length-set out n _ ∙ h.size;
        done = λ j jb pos.
            elim (ℕ_discrete j n) [
              | yes e ↦
                  let b' : j + o < length row - m = omega (arith, e, h.last) in
                  let l = beside-left (length row) m o j pos b' in
                  let r = beside-right (length row) m o j b' in
                  rw (l, r, e) (rw is (set_here out n _ (low-within n end (length row) m o (length out) b h.last h.size)))
              | no d ↦ rw is (set_there out n j _ (low-within n end (length row) m o (length out) b h.last h.size) d ∙ h.done j (omega (arith, d)) pos)
            ];
      }

  -- the last one, where no high number follows it, and then the first
  module _ (out₁ out₂ : List ℤ) (e : end ≤ n)
      (last : n < m → out₁ ≡ set out n (short_unupdated (at low n) (at row (length row - 1)) (at row (length row - 1))))
      (none : m ≤ n → out₁ ≡ out) where
    lasts : (length out₁ ≡ length row) × ((j : ℕ) → j < m → 0 < j + o → at out₁ j ≡ want j)
    lasts =
        elim (dec_lt n m) [
          | yes b ↦ (
            ap length (last b) ∙ length-set out n _ ∙ h.size,
            λ j jb pos.
                elim (ℕ_discrete j n) [
                  | yes s ↦
                      let p : m + near (length row - m) (j + o - 1) ≡ length row - 1 = omega (arith, s) in
                      let q : m + near (length row - m) (j + o) ≡ length row - 1 = omega (arith, s) in
                      rw (p, q, s) (rw (last b) (set_here out n _ (omega arith)))
                  | no d ↦ rw (last b) (set_there out n j _ (omega arith) d ∙ h.done j (omega (arith, d)) pos)
                ],
          )
          | no b ↦ (ap length (none (omega arith)) ∙ h.size, λ j jb pos. rw (none (omega arith)) (h.done j (omega arith) pos))
        ]

    pub lows-end : (o ≡ 0 → out₂ ≡ set out₁ 0 (short_unupdated (at low 0) (at row m) (at row m))) → (0 < o → out₂ ≡ out₁) → (j : ℕ) → j < m →
        at out₂ j ≡ want j
    lows-end first other j jb =
        elim (ℕ_discrete o 0) [
          | yes z ↦
              elim (ℕ_discrete j 0) [
                | yes s ↦
                    let p : m + near (length row - m) (j + o - 1) ≡ m = omega (arith, s, z) in
                    let q : m + near (length row - m) (j + o) ≡ m = omega (arith, s, z) in
                    rw (p, q, s) (rw (first z) (set_here out₁ 0 _ (omega (arith, lasts.0))))
                | no d ↦ rw (first z) (set_there out₁ 0 j _ (omega (arith, lasts.0)) d ∙ lasts.1 j jb (omega (arith, d)))
              ]
          | no d ↦ rw (other (omega (arith, d))) (lasts.1 j jb (omega (arith, d)))
        ]

-- ---- the high numbers, up to n, the first likewise: out₀ has the low ones
pub record HighsRun (row out₀ : List ℤ) (m o end n : ℕ) (out : List ℤ) : Type 0 where
  pub some : 0 < m
  pub both : m < length row
  pub few : o ≤ 1
  pub least : m + m ≤ length row + o
  pub most : length row + o ≤ m + m + 1
  pub last : end ≡ m - o
  pub room : length row * 4 < 2 ^ 63
  pub begun : 1 ≤ n + o
  pub within : n ≤ m
  pub size : length out ≡ length row
  pub lows : (j : ℕ) → j < m → at out j ≡ at out₀ j
  pub done : (k : ℕ) → k < n → 0 < k + o → m + k < length row → at out (m + k) ≡ high_back o m (at row) (at out₀) k

module _ {row out₀ : List ℤ} {m o end n : ℕ} {out : List ℤ} (h : HighsRun row out₀ m o end n out) where
  -- high number p stored
  module _ (p a b : ℕ) (now out' : List ℤ) (size : length now ≡ length row) (lows : (j : ℕ) → j < m → at now j ≡ at out₀ j) (inside : m + p < length row)
      (ea : a ≡ near m (p + o - 1)) (eb : b ≡ near m (p + o)) (ab : a < m) (bb : b < m)
      (is : out' ≡ set now (m + p) (short_unpredicted (at row (m + p)) (at now a) (at now b))) where
    put-size : length out' ≡ length row
    put-size = ap length is ∙ length-set now (m + p) _ ∙ size

    put-lows : (j : ℕ) → j < m → at out' j ≡ at out₀ j
    put-lows j jb = rw is (set_there now (m + p) j _ (omega (arith, size)) (λ s. absurd (omega arith)) ∙ lows j jb)

    put-here : at out' (m + p) ≡ high_back o m (at row) (at out₀) p
    put-here = rw is (set_here now (m + p) _ (omega (arith, size)) ∙ cc (lows a ab, lows b bb, ea, eb))

    put-there : (k : ℕ) → (k ≡ p → ⊥) → at out' (m + k) ≡ at now (m + k)
    put-there k d = rw is (set_there now (m + p) (m + k) _ (omega (arith, size)) (λ s. d (omega arith)))

  pub high-run : (out' : List ℤ) → n < end →
      out' ≡ set out (m + n) (short_unpredicted (at row (m + n)) (at out (n + o - 1)) (at out (n + o))) → HighsRun row out₀ m o end (n + 1) out'
  high-run out' b is =
      let inside : m + n < length row = omega (arith, h.least, h.last) in
      let ea : n + o - 1 ≡ near m (n + o - 1) = omega (arith, h.last, h.begun) in
      let eb : n + o ≡ near m (n + o) = omega (arith, h.last, h.begun) in
      let ab : n + o - 1 < m = omega (arith, h.last, h.begun) in
      let bb : n + o < m = omega (arith, h.last, h.begun) in
      record {
        some = h.some;
        both = h.both;
        few = h.few;
        least = h.least;
        most = h.most;
        last = h.last;
        room = h.room;
        begun = omega arith;
        within = omega (arith, h.last);
        size = put-size n (n + o - 1) (n + o) out out' h.size h.lows inside ea eb ab bb is;
        lows = put-lows n (n + o - 1) (n + o) out out' h.size h.lows inside ea eb ab bb is;
        done = λ k kb pos inn.
            elim (ℕ_discrete k n) [
              | yes s ↦ rw s (put-here n (n + o - 1) (n + o) out out' h.size h.lows inside ea eb ab bb is)
              | no d ↦
                  put-there n (n + o - 1) (n + o) out out' h.size h.lows inside ea eb ab bb is k d ∙ h.done k (omega (arith, d)) pos inn
            ];
      }

  module _ (out₁ out₂ : List ℤ) (e : end ≤ n)
      (last : m + n < length row → out₁ ≡ set out (m + n) (short_unpredicted (at row (m + n)) (at out (m - 1)) (at out (m - 1))))
      (none : length row ≤ m + n → out₁ ≡ out) where
    highs-lasts : (length out₁ ≡ length row) × ((j : ℕ) → j < m → at out₁ j ≡ at out₀ j)
        × ((k : ℕ) → 0 < k + o → m + k < length row → at out₁ (m + k) ≡ high_back o m (at row) (at out₀) k)
    highs-lasts =
        elim (dec_lt (m + n) (length row)) [
          | yes b ↦
              let ea : m - 1 ≡ near m (n + o - 1) = omega (arith, h.last, h.some, h.few) in
              let eb : m - 1 ≡ near m (n + o) = omega (arith, h.last, h.some, h.few) in
              let ab : m - 1 < m = omega (arith, h.some) in (
                put-size n (m - 1) (m - 1) out out₁ h.size h.lows b ea eb ab ab (last b),
                put-lows n (m - 1) (m - 1) out out₁ h.size h.lows b ea eb ab ab (last b),
                λ k pos inn.
                    elim (ℕ_discrete k n) [
                      | yes s ↦ rw s (put-here n (m - 1) (m - 1) out out₁ h.size h.lows b ea eb ab ab (last b))
                      | no d ↦
                          put-there n (m - 1) (m - 1) out out₁ h.size h.lows b ea eb ab ab (last b) k d
                          ∙ h.done k (high-few (length row) m o end n k e h.last h.most inn h.few d) pos inn
                    ],
              )
          | no b ↦ (
            ap length (none (omega arith)) ∙ h.size,
            λ j jb. rw (none (omega arith)) (h.lows j jb),
            λ k pos inn. rw (none (omega arith)) (h.done k (omega arith) pos inn),
          )
        ]

    pub highs-end : (o ≡ 0 → out₂ ≡ set out₁ m (short_unpredicted (at row m) (at out₁ 0) (at out₁ 0))) → (0 < o → out₂ ≡ out₁) →
        ((j : ℕ) → j < m → at out₂ j ≡ at out₀ j)
        × ((k : ℕ) → m + k < length row → at out₂ (m + k) ≡ high_back o m (at row) (at out₀) k)
    highs-end first other =
        elim (ℕ_discrete o 0) [
          | yes z ↦
              let ea : 0 ≡ near m (0 + o - 1) = omega (arith, z) in
              let eb : 0 ≡ near m (0 + o) = omega (arith, z) in
              let em : m + 0 ≡ m = omega arith in
              let is : out₂ ≡ set out₁ (m + 0) (short_unpredicted (at row (m + 0)) (at out₁ 0) (at out₁ 0)) = rw em (first z) in
              let inside : m + 0 < length row = omega (arith, h.both) in (
                put-lows 0 0 0 out₁ out₂ highs-lasts.0 highs-lasts.1 inside ea eb h.some h.some is,
                λ k inn.
                    elim (ℕ_discrete k 0) [
                      | yes s ↦ rw s (put-here 0 0 0 out₁ out₂ highs-lasts.0 highs-lasts.1 inside ea eb h.some h.some is)
                      | no d ↦
                          put-there 0 0 0 out₁ out₂ highs-lasts.0 highs-lasts.1 inside ea eb h.some h.some is k d
                          ∙ highs-lasts.2 k (omega (arith, d)) inn
                    ],
              )
          | no d ↦ (
            λ j jb. rw (other (omega (arith, d))) (highs-lasts.1 j jb),
            λ k inn. rw (other (omega (arith, d))) (highs-lasts.2 k (omega (arith, d)) inn),
          )
        ]

-- ---- a row of more than one number lifted back: out₁ has its low numbers, out₂ all
module _ (S : Side) (low row : ℕ → ℤ) (out₁ out₂ : ℕ → ℤ) (m N : ℕ) (more : 1 < S.length) (em : m ≡ count lo S) (e_n : N ≡ S.length)
    (lows : (n : ℕ) → n < m → out₁ n ≡ low_back (S.start % 2) m N low row n)
    (kept : (j : ℕ) → j < m → out₂ j ≡ out₁ j)
    (highs : (n : ℕ) → m + n < N → out₂ (m + n) ≡ high_back (1 - S.start % 2) m row out₁ n) where
  abbrev y : ℕ → ℤ
  y = highs_laid S row low

  laid-low : (j : ℕ) → j < count lo S → y j ≡ low j
  unfolding highs_laid
  laid-low j b = simp (lt-ltb j (count lo S) b)

  laid-high : (n : ℕ) → y (count lo S + n) ≡ row (count lo S + n)
  unfolding highs_laid
  laid-high n = simp (le-ltb (count lo S + n) (count lo S) (omega arith))

  abbrev z : ℕ → ℤ
  z = lows_changed short_unupdated (S.start % 2) (count lo S) S.length y

  z-low : (j : ℕ) → j < count lo S → out₁ j ≡ z j
  z-low j b =
      lows j (omega (arith, em))
      ∙ rw (em, e_n) (sym (lows-low short_unupdated (S.start % 2) (count lo S) S.length y j b ∙ rw (laid-low j b, laid-high _, laid-high _) refl))

  pub row-lifted : (j : ℕ) → j < S.length → out₂ j ≡ short_unlifted S y j
  unfolding short_unlifted
  row-lifted j jb =
      let s = some S more in
      let o = 1 - S.start % 2 in
      simp (lt-ltb 1 S.length more)
      (elim (dec_lt j (count lo S)) [
        | yes b ↦ kept j (omega (arith, em)) ∙ z-low j b ∙ sym (highs-low short_unpredicted o (count lo S) S.length z j b)
        | no b ↦
            let n = j - count lo S in
            let e : j ≡ count lo S + n = omega arith in
            let k = near (count lo S) (n + o - 1) in
            let l = near (count lo S) (n + o) in
            rw e (rw em at (highs n (omega (arith, em, e_n)))
            ∙ cc (
              z-low k (omega arith),
              z-low l (omega arith),
              laid-high n,
              lows-past short_unupdated (S.start % 2) (count lo S) S.length y (count lo S + n) (omega arith),
            )
            ∙ sym (highs-high short_unpredicted o (count lo S) S.length z n (omega arith)))
      ])

-- three numbers stored: each is its own read back
pub stored-three : (l : List ℤ) (p q r : ℕ) (u' u v' v t' t : ℤ) → p < length l → q < length l → r < length l → u' ≡ u → v' ≡ v → t' ≡ t →
    at (set (set (set l p u') q v') r t') ≡ stored r t (stored q v (stored p u (at l)))
stored-three l p q r u' u v' v t' t a b c eu ev et =
    let n = length-set l p u' in
    let m = length-set (set l p u') q v' in
    stored-by (set (set l p u') q v') r t' t (omega arith) et ∙ ap (stored r t) (stored-two l p q u' u v' v a b eu ev)

-- what is done are 32-bit numbers
pub even-word : (y : ℕ → ℤ) (k : ℕ) → SFits w32 (even_of y k)
unfolding short_unupdated
even-word y k = wrap-fits _

pub odd-word : (y : ℕ → ℤ) (k : ℕ) → SFits w32 (odd_of y k)
unfolding short_unpredicted
odd-word y k = wrap-fits _

-- ---- columns: those from m on are as they were
pub record PairRun (m : ℕ) (y₀ y : ℕ → ℤ) : Type 0 where
  pub back : PairBack m y₀ y
  pub left : (j : ℕ) → m ≤ j → j < line_long →
      (y j ≡ y₀ j) × (y (next_line + j) ≡ y₀ (next_line + j)) × (y (high_line + j) ≡ y₀ (high_line + j)) × (y (even_line + j) ≡ y₀ (even_line + j))

pub pair-none : (y : ℕ → ℤ) → PairRun 0 y y
pair-none y =
    record {
      back = record { odd = λ j b. absurd (omega arith); even = λ j b. absurd (omega arith); high = λ j b. absurd (omega arith) };
      left = λ j a b. (refl, refl, refl, refl);
    }

module _ (k : ℕ) (y₀ y y' : ℕ → ℤ) (kb : k < line_long) (is : y' ≡ pair_stored k y) (h : PairRun k y₀ y) where
  abbrev e : ℤ
  e = even_of y k

  abbrev o : ℤ
  o = odd_of y k

  now : (p : ℕ) → y' p ≡ pair_stored k y p
  now p = ap (λ (f : ℕ → ℤ). f p) is

  pair-off : (p : ℕ) → (p ≡ high_line + k → ⊥) → (p ≡ even_line + k → ⊥) → (p ≡ odd_line + k → ⊥) → y' p ≡ y p
  pair-off p a b c = now p ∙ stored-off (high_line + k) p _ _ a ∙ stored-off (even_line + k) p _ _ b ∙ stored-off (odd_line + k) p _ _ c

  even-same : e ≡ even_of y₀ k
  even-same = let l = h.left k (omega arith) kb in cc (l.0, l.1, l.2)

  odd-same : o ≡ odd_of y₀ k
  odd-same = let l = h.left k (omega arith) kb in cc (l.2, l.3, even-same)

  pub even-bits : (b : ℕ) → of_z w32 e ≤ b → of_z w32 (even_of y₀ k) ≤ b
  even-bits b l = or-of e (even_of y₀ k) b even-same l

  pub odd-bits : (b : ℕ) → of_z w32 o ≤ b → of_z w32 (odd_of y₀ k) ≤ b
  odd-bits b l = or-of o (odd_of y₀ k) b odd-same l

  pub pair-more : PairRun (k + 1) y₀ y'
  pair-more =
      record {
        back =
            record {
              odd = λ j b.
                  elim (ℕ_discrete j k) [
                    | yes q ↦
                        rw q
                        (now (odd_line + k)
                        ∙ stored-off (high_line + k) (odd_line + k) _ _ (λ (s : odd_line + k ≡ high_line + k). absurd (omega arith))
                        ∙ stored-off (even_line + k) (odd_line + k) _ _ (λ (s : odd_line + k ≡ even_line + k). absurd (omega arith))
                        ∙ stored_at (odd_line + k) (odd_line + k) o y refl
                        ∙ odd-same)
                    | no d ↦
                        pair-off (odd_line + j) (λ s. absurd (omega arith)) (λ s. absurd (omega arith)) (λ s. d (omega arith))
                        ∙ h.back.odd j (omega (arith, d))
                  ];
              even = λ j b.
                  elim (ℕ_discrete j k) [
                    | yes q ↦
                        rw q
                        (now (even_line + k)
                        ∙ stored-off (high_line + k) (even_line + k) _ _ (λ (s : even_line + k ≡ high_line + k). absurd (omega arith))
                        ∙ stored_at (even_line + k) (even_line + k) e _ refl
                        ∙ even-same)
                    | no d ↦
                        pair-off (even_line + j) (λ s. absurd (omega arith)) (λ s. d (omega arith)) (λ s. absurd (omega arith))
                        ∙ h.back.even j (omega (arith, d))
                  ];
              high = λ j b.
                  elim (ℕ_discrete j k) [
                    | yes q ↦ rw q (now (high_line + k) ∙ stored_at (high_line + k) (high_line + k) _ _ refl ∙ (h.left k (omega arith) kb).1)
                    | no d ↦
                        pair-off (high_line + j) (λ s. d (omega arith)) (λ s. absurd (omega arith)) (λ s. absurd (omega arith))
                        ∙ h.back.high j (omega (arith, d))
                  ];
            };
        left = λ j a b.
            let l = h.left j (omega arith) b in (
              pair-off j (λ s. absurd (omega arith)) (λ s. absurd (omega arith)) (λ s. absurd (omega arith)) ∙ l.0,
              pair-off (next_line + j) (λ s. absurd (omega arith)) (λ s. absurd (omega arith)) (λ s. absurd (omega arith)) ∙ l.1,
              pair-off (high_line + j) (λ s. absurd (omega arith)) (λ s. absurd (omega arith)) (λ s. absurd (omega arith)) ∙ l.2,
              pair-off (even_line + j) (λ s. absurd (omega arith)) (λ s. absurd (omega arith)) (λ s. absurd (omega arith)) ∙ l.3,
            );
      }

-- the first low row alone: nothing but its line changes
pub record EvenRun (m : ℕ) (y₀ y : ℕ → ℤ) : Type 0 where
  pub back : EvenBack m y₀ y
  pub left : (j : ℕ) → j < line_long → (y j ≡ y₀ j) × (y (next_line + j) ≡ y₀ (next_line + j)) × (y (high_line + j) ≡ y₀ (high_line + j))

pub even-none : (y : ℕ → ℤ) → EvenRun 0 y y
even-none y =
    record {
      back = record { even = λ j b. absurd (omega arith); high = λ j b. absurd (omega arith) };
      left = λ j b. (refl, refl, refl);
    }

module _ (k : ℕ) (y₀ y y' : ℕ → ℤ) (kb : k < line_long) (is : y' ≡ stored (even_line + k) (even_of y k) y) (h : EvenRun k y₀ y) where
  even-off : (p : ℕ) → (p ≡ even_line + k → ⊥) → y' p ≡ y p
  even-off p d = ap (λ (f : ℕ → ℤ). f p) is ∙ stored-off (even_line + k) p _ y d

  pub even-more : EvenRun (k + 1) y₀ y'
  even-more =
      record {
        back =
            record {
              even = λ j b.
                  elim (ℕ_discrete j k) [
                    | yes q ↦
                        let l = h.left k kb in
                        rw q (ap (λ (f : ℕ → ℤ). f (even_line + k)) is ∙ stored_at (even_line + k) (even_line + k) _ y refl ∙ cc (l.0, l.1, l.2))
                    | no d ↦ even-off (even_line + j) (λ s. d (omega arith)) ∙ h.back.even j (omega (arith, d))
                  ];
              high = λ j b. even-off (high_line + j) (λ s. absurd (omega arith)) ∙ (h.left j (omega arith)).2;
            };
        left = λ j b.
            let l = h.left j b in (
              even-off j (λ s. absurd (omega arith)) ∙ l.0,
              even-off (next_line + j) (λ s. absurd (omega arith)) ∙ l.1,
              even-off (high_line + j) (λ s. absurd (omega arith)) ∙ l.2,
            );
      }

-- the last high row alone
pub record OddRun (m : ℕ) (y₀ y : ℕ → ℤ) : Type 0 where
  pub back : OddBack m y₀ y
  pub left : (j : ℕ) → j < line_long → (y (high_line + j) ≡ y₀ (high_line + j)) × (y (even_line + j) ≡ y₀ (even_line + j))

pub odd-none : (y : ℕ → ℤ) → OddRun 0 y y
odd-none y = record { back = record { odd = λ j b. absurd (omega arith) }; left = λ j b. (refl, refl) }

module _ (k : ℕ) (y₀ y y' : ℕ → ℤ) (kb : k < line_long)
    (is : y' ≡ stored (odd_line + k) (short_unpredicted (y (high_line + k)) (y (even_line + k)) (y (even_line + k))) y) (h : OddRun k y₀ y) where
  odd-off : (p : ℕ) → (p ≡ odd_line + k → ⊥) → y' p ≡ y p
  odd-off p d = ap (λ (f : ℕ → ℤ). f p) is ∙ stored-off (odd_line + k) p _ y d

  pub odd-more : OddRun (k + 1) y₀ y'
  odd-more =
      record {
        back =
            record {
              odd = λ j b.
                  elim (ℕ_discrete j k) [
                    | yes q ↦
                        let l = h.left k kb in
                        rw q (ap (λ (f : ℕ → ℤ). f (odd_line + k)) is ∙ stored_at (odd_line + k) (odd_line + k) _ y refl ∙ cc (l.0, l.1))
                    | no d ↦ odd-off (odd_line + j) (λ s. d (omega arith)) ∙ h.back.odd j (omega (arith, d))
                  ];
            };
        left = λ j b.
            let l = h.left j b in
            (odd-off (high_line + j) (λ s. absurd (omega arith)) ∙ l.0, odd-off (even_line + j) (λ s. absurd (omega arith)) ∙ l.1);
      }
