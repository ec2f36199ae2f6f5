-- A stretch of heights put into a row a pair at a time comes to the same as one height after the other. Assumes nothing.
use mathlib.Core.Path.{◌≡◌, refl, sym, ap, ◌∙◌}
use mathlib.Core.Bool.{true}
use mathlib.Core.List.{List}
use Prim.Native.Nat.{ℕ, zero, suc, ◌+◌, ◌-◌, ◌*◌, ◌≤◌, ◌<◌}
use native.Mathlib.Decide.{dec_lt}
use native.Mathlib.Omega.{arith}
use lib.IntN.{ℤ, pos}
use lib.Dec.{leb}
use lib.ListN.{length, drop, set, length-set, length-drop}
use lib.Seq.{get_or-take, get_or-drop, length-take-le}
use mir.Syntax.{w32}
use mir.Val.{SFits, to_z}
use borrow.Author.Rules.{sfits_of}
use borrow.Author.Tests.{le-leb, lt-leb, leb-true}
use borrow.Rule.Slice.PartMut.{mid_of}
use Rattle.numbers.specs.Signal.{at, stored}
use Rattle.numbers.proofs.Words.{read_back}
use Rattle.numbers.proofs.Sweep.{both}
use Rattle.numbers.proofs.Stores.{at_stored}
use Rattle.lifting.specs.Grid.{Side}
use Rattle.level.specs.Cells.{spot}
use Rattle.level.specs.Heights.{height_at, heights_put, heights_fit}
use Rattle.level.proofs.Spots.{spot_in, spot_on}

-- ---- one height more
pub put-more : (W : Side) (c n : ℕ) (h x : ℕ → ℤ) → heights_put W c (n + 1) h x ≡ stored (spot W (c + n)) (h n) (heights_put W c n h x)
unfolding heights_put
put-more W c n h x = let e : n + 1 ≡ suc n = omega arith in rw e refl

-- n heights stand in the list l, l₀ being the list before them
pub record Put (W : Side) (c n : ℕ) (h : ℕ → ℤ) (l₀ l : List ℤ) : Type 0 where
  pub room : W.length ≤ length l₀
  pub size : length l ≡ length l₀
  pub value : at l ≡ heights_put W c n h (at l₀)

module _ (W : Side) (c : ℕ) (h : ℕ → ℤ) (l₀ : List ℤ) where
  pub put-none : W.length ≤ length l₀ → Put W c 0 h l₀ l₀
  unfolding heights_put
  put-none r = record { room = r; size = refl; value = refl }

  pub put_one : (n p : ℕ) (v : ℤ) (l : List ℤ) → Put W c n h l₀ l → c + n < W.length → p ≡ spot W (c + n) → v ≡ h n → Put W c (n + 1) h l₀ (set l p v)
  put_one n p v l f r e g =
      let i : p < length l = omega (arith, spot_in W (c + n) r, f.room, f.size) in
      record {
        room = f.room;
        size = length-set l p v ∙ f.size;
        value = at_stored l p v i ∙ ap (stored p v) f.value ∙ cc (e, g) ∙ sym (put-more W c n h (at l₀));
      }

  -- a pair more: d and b are the places of the first two columns
  pub put-pair : (j d b : ℕ) (v u : ℤ) (l : List ℤ) → Put W c (2 * j) h l₀ l → c + 2 * j + 2 ≤ W.length
      → d ≡ spot W c → b ≡ spot W (c + 1) → v ≡ h (2 * j) → u ≡ h (2 * j + 1)
      → Put W c (2 * (j + 1)) h l₀ (set (set l (d + j) v) (b + j) u)
  put-pair j d b v u l f r ea eb ev eu =
      let p : d + j ≡ spot W (c + 2 * j) = omega (arith, ea, spot_on W c j) in
      let k : c + (2 * j + 1) ≡ c + 1 + 2 * j = omega arith in
      let e : b + j ≡ spot W (c + (2 * j + 1)) = ap (λ (z : ℕ). z + j) eb ∙ sym (spot_on W (c + 1) j) ∙ sym (ap (spot W) k) in
      let n : 2 * (j + 1) ≡ 2 * j + 1 + 1 = omega arith in
      rw n (put_one (2 * j + 1) (b + j) u _ (put_one (2 * j) (d + j) v l f (omega arith) p ev) (omega arith) e eu)

-- of the heights only the first n count
put-by : (W : Side) (c n : ℕ) (g h x : ℕ → ℤ) → ((j : ℕ) → j < n → g j ≡ h j) → heights_put W c n g x ≡ heights_put W c n h x
unfolding heights_put
put-by W c zero g h x e = refl
put-by W c (suc n) g h x e = let k = put-by W c n g h x (λ j l. e j (omega arith)) in cc (e n (omega arith), k)

-- ---- the n heights of a run from height f on, lent
module _ (f k n : ℕ) (run : List ℕ) (e : k ≡ n) (r : f + n ≤ length run) where
  pub part_length : length (mid_of f k run) ≡ n
  part_length = length-take-le k (drop f run) (simp length-drop (omega arith)) ∙ e

  pub part-put : (W : Side) (c : ℕ) (x : ℕ → ℤ)
      → heights_put W c (length (mid_of f k run)) (height_at (mid_of f k run)) x ≡ heights_put W c n (λ j. height_at run (f + j)) x
  part-put W c x =
      ap (λ (m : ℕ). heights_put W c m (height_at (mid_of f k run)) x) part_length
      ∙ put-by W c n _ _ x (λ j l. ap pos (get_or-take k (drop f run) j 0 (omega arith) ∙ get_or-drop f run j 0))

-- the places of a pair lie in the row
pub put-place : (W : Side) (c j d : ℕ) → c + 2 * j < W.length → d ≡ spot W c → d + j < W.length
put-place W c j d h e = omega (arith, e, spot_on W c j, spot_in W (c + 2 * j) h)

-- a height as a 32-bit number
pub height-fits : (v : ℕ) → v < 65536 → SFits w32 (pos v)
height-fits v h = sfits_of (omega arith)

pub height-read : (v : ℕ) → v < 65536 → to_z w32 v ≡ pos v
height-read v h = read_back (pos v) (omega arith)

-- ---- what the call asks
pub lies-in : (a n k : ℕ) → n ≤ k → leb a (k - n) ≡ leb (a + n) k
lies-in a n k h =
    elim (dec_lt (k - n) a) [
      | yes p ↦ simp (lt-leb a (k - n) p, lt-leb (a + n) k (omega arith))
      | no d ↦ simp (le-leb a (k - n) (omega arith), le-leb (a + n) k (omega arith))
    ]

pub record HeightsIn (w c n l f : ℕ) : Type 0 where
  pub columns : c + n ≤ w
  pub heights : f + n ≤ l

pub heights-in : (w c n l f : ℕ) → heights_fit w c n l f ≡ true → HeightsIn w c n l f
unfolding heights_fit
heights-in w c n l f e =
    let b = both (leb (c + n) w) _ e in
    record { columns = leb-true _ _ b.0; heights = leb-true _ _ b.1 }
