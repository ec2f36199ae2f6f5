-- What the calls of `levels` come to together: passes one after the other, a row copied in a loop, a row tested in a loop. Assumes nothing.
use mathlib.Core.Path.{◌≡◌, refl, sym, ap, ◌∙◌, fun_ext}
use mathlib.Core.Bool.{Bool, true, false}
use mathlib.Core.List.{List}
use Prim.Native.Nat.{ℕ, ◌+◌, ◌-◌, ◌*◌, ◌≤◌, ◌<◌}
use native.Mathlib.Decide.{dec_lt, ℕ_discrete}
use native.Mathlib.Omega.{arith}
use lib.IntN.{ℤ, pos}
use lib.Dec.{leb}
use lib.ListN.{length, get_or-eq_default}
use borrow.Rule.Slice.PartMut.{mid_of, put_mid, same_len_mid}
use borrow.Author.Tests.{lt-ltb, le-ltb, le-leb}
use Rattle.numbers.specs.Signal.{at, pick, windowed, spliced}
use Rattle.numbers.proofs.Parts.{window-in, window-past, splice-below, splice-in, splice-past, length-mid, at_mid, at-put}
use Rattle.lifting.specs.Halves.{fronted}
use Rattle.lifting.specs.Grid.{Side}
use Rattle.lifting.proofs.RowLaws.{row-order}
use Rattle.wavelet.specs.Bands.{Grid}
use Rattle.wavelet.specs.Plane.{cells}
use Rattle.wavelet.specs.Maps.{every, every_cell}
use Rattle.wavelet.proofs.MapTheorems.{every-each, each-every, every-same}
use Rattle.map_levels.specs.Rowwise.{cut, between}
use Rattle.map_levels.specs.Passes.{is_low, rows_mapped, plane_row}
use Rattle.map_levels.specs.ByFilter.{row_copied}
use Rattle.map_levels.specs.LevelPasses.{rows_between}
use Rattle.map_levels.proofs.GridSweep.{RowSwept, store-row}
use Rattle.areas.proofs.AreaLaws.{front_at, did}
use Rattle.map_levels.proofs.RowwiseLaws.{window-cut}
use Rattle.map_levels.proofs.TestLaws.{not-every}

-- ---- a pass reads the cells that stand in the area alone
pub cut-same : (w : ℕ) (x y : ℕ → ℤ) → ((j : ℕ) → j < w → x j ≡ y j) → cut w x ≡ cut w y
unfolding cut
cut-same w x y e =
    fun_ext λ j. elim (dec_lt j w) [ yes a ↦ simp (lt-ltb j w a) (e j a) | no a ↦ simp (le-ltb j w (omega arith)) ]

pub mapped-same : (f : (ℕ → ℤ) → ℕ → ℤ) (w h : ℕ) (X Y : Grid) (r c : ℕ) → X r c ≡ Y r c → ((j : ℕ) → j < w → X r j ≡ Y r j) →
    rows_mapped f w h X r c ≡ rows_mapped f w h Y r c
unfolding rows_mapped
mapped-same f w h X Y r c e es = rw (e, cut-same w (X r) (Y r) es)

-- ---- a part copied
pub splice-same : (b n : ℕ) (u v x : ℕ → ℤ) → ((i : ℕ) → i < n → u i ≡ v i) → spliced b n u x ≡ spliced b n v x
splice-same b n u v x e =
    fun_ext λ j.
    elim (dec_lt j b) [
      | yes p ↦ splice-below b n u x j p ∙ sym (splice-below b n v x j p)
      | no d ↦
          elim (dec_lt j (b + n)) [
            | yes q ↦ splice-in b n u x j (omega arith) q ∙ e (j - b) (omega arith) ∙ sym (splice-in b n v x j (omega arith) q)
            | no q ↦ splice-past b n u x j (omega arith) ∙ sym (splice-past b n v x j (omega arith))
          ]
    ]

-- what came back as z is y
pub moved-part : (b n k : ℕ) (to z : List ℤ) (y : ℕ → ℤ) → k ≡ n → b + n ≤ length to → length z ≡ length (mid_of b k to) → ((i : ℕ) → i < n → at z i ≡ y i) →
    at (put_mid b k to z) ≡ spliced b n y (at to)
moved-part b n k to z y e fb size is =
    let mid = length-mid b k to (omega arith) in
    at-put b k to z (omega arith) (omega arith)
    ∙ ap (λ (m : ℕ). spliced b m (at z) (at to)) e
    ∙ splice-same b n (at z) y (at to) is

-- what was lent
pub lent-part : (a n k : ℕ) (from : List ℤ) → k ≡ n → at (mid_of a k from) ≡ windowed a n (at from)
lent-part a n k from e = at_mid a k from ∙ ap (λ (m : ℕ). windowed a m (at from)) e

module _ (a b n k k' : ℕ) (from to z : List ℤ) (e : k ≡ n) (e' : k' ≡ n) (fa : a + n ≤ length from) (fb : b + n ≤ length to)
    (size : length z ≡ length (mid_of b k to)) where
  pub mid-length : length (mid_of a k' from) ≡ n
  mid-length = length-mid a k' from (omega arith) ∙ e'

  pub same_parts : length (mid_of a k' from) ≡ length (mid_of b k to)
  same_parts = mid-length ∙ sym (length-mid b k to (omega arith) ∙ e)

  parts-room : leb (length (mid_of a k' from)) (length (mid_of b k to)) ≡ true
  parts-room = le-leb (length (mid_of a k' from)) (length (mid_of b k to)) (omega (arith, same_parts))

  -- what came back has y at its front
  fronted-part : (y : ℕ → ℤ) → at z ≡ fronted (length (mid_of a k' from)) y (at (mid_of b k to)) → at (put_mid b k to z) ≡ spliced b n y (at to)
  fronted-part y is =
      let mid = mid-length in
      moved-part b n k to z y e fb size (λ i h. ap (λ (u : ℕ → ℤ). u i) is ∙ front_at _ y _ i (omega arith))

  pub copied-part : at z ≡ pick (leb (length (mid_of a k' from)) (length (mid_of b k to)))
      (fronted (length (mid_of a k' from)) (at (mid_of a k' from)) (at (mid_of b k to))) (at (mid_of b k to)) → at (put_mid b k to z) ≡ spliced b n
      (windowed a n (at from)) (at to)
  copied-part is = fronted-part _ (did _ _ _ _ parts-room is) ∙ ap (λ (y : ℕ → ℤ). spliced b n y (at to)) (lent-part a n k' from e')

-- a part lent, that came back as z: the area then, and the part lent once more
module _ (a m : ℕ) (l z : List ℤ) (room : a + m ≤ length l) (size : length z ≡ length (mid_of a m l)) where
  put-length : length z ≡ m
  put-length = size ∙ length-mid a m l room

  pub put-area : at (put_mid a m l z) ≡ spliced a m (at z) (at l)
  put-area = at-put a m l z put-length room

  pub put_same : length (put_mid a m l z) ≡ length l
  put_same = same_len_mid a m l z size

  pub put-again : at (mid_of a m (put_mid a m l z)) ≡ at z
  put-again =
      let long = put-length in
      at_mid a m (put_mid a m l z)
      ∙ fun_ext λ j.
      elim (dec_lt j m) [
        | yes b ↦
            let k : a + j - a ≡ j = omega arith in
            window-in a m (at (put_mid a m l z)) j b
            ∙ ap (λ (u : ℕ → ℤ). u (a + j)) put-area
            ∙ splice-in a m (at z) (at l) (a + j) (omega arith) (omega arith)
            ∙ ap (at z) k
        | no b ↦ window-past a m (at (put_mid a m l z)) j (omega arith) ∙ sym (get_or-eq_default z (pos 0) (omega arith))
      ]

-- a test of a part at the front
pub front-test : (f : ℤ → Bool) (n k : ℕ) (l : List ℤ) → k ≡ n → n ≤ length l →
    every (length (mid_of 0 k l)) (λ i. f (at (mid_of 0 k l) i)) ≡ every n (λ i. f (at l i))
front-test f n k l e room =
    let mid : length (mid_of 0 k l) ≡ n = length-mid 0 k l (omega arith) ∙ e in
    ap (λ (m : ℕ). every m (λ i. f (at (mid_of 0 k l) i))) mid
    ∙ every-same n _ _ (λ i b.
    let t : 0 + i ≡ i = omega arith in
    ap f (ap (λ (u : ℕ → ℤ). u i) (lent-part 0 n k l e) ∙ window-in 0 n (at l) i b ∙ ap (at l) t))

-- ---- row i of an area: n numbers y put in from column `made` on, where the pass leaves those before and those past
pub copy-turn : (s w made n i p : ℕ) (Y Z : Grid) (y x x' : ℕ → ℤ) → w ≤ s → made + n ≡ w → p ≡ i * s + made → x' ≡ spliced p n y x →
    ((c : ℕ) → c < n → y c ≡ Y i (made + c)) → ((c : ℕ) → c < made → Y i c ≡ Z i c) → ((c : ℕ) → w ≤ c → Y i c ≡ Z i c) → RowSwept s Y Z i x →
    RowSwept s Y Z (i + 1) x'
copy-turn s w made n i p Y Z y x x' ws all e is new left past sw =
    let put : (j : ℕ) → x' j ≡ spliced p n y x j = λ j. ap (λ (z : ℕ → ℤ). z j) is in
    store-row x' sw
    (λ r c cs d.
    put (r * s + c)
    ∙ elim (dec_lt r i) [
      | yes b ↦ let a = row-order s r i b in splice-below p n y x (r * s + c) (omega arith)
      | no b ↦ let a = row-order s i r (omega arith) in splice-past p n y x (r * s + c) (omega arith)
    ])
    (λ c cs.
    put (i * s + c)
    ∙ elim (dec_lt c made) [
      | yes b ↦ splice-below p n y x (i * s + c) (omega arith) ∙ sw.rest i c cs (omega arith) ∙ sym (left c b)
      | no b ↦
          elim (dec_lt c w) [
            | yes q ↦
                let k : i * s + c - p ≡ c - made = omega arith in
                let m : made + (c - made) ≡ c = omega arith in
                splice-in p n y x (i * s + c) (omega arith) (omega arith)
                ∙ ap y k
                ∙ new (c - made) (omega arith)
                ∙ ap (Y i) m
            | no q ↦ splice-past p n y x (i * s + c) (omega arith) ∙ sw.rest i c cs (omega arith) ∙ sym (past c (omega arith))
          ]
    ])

-- a row of an area, as the n numbers lent
pub row-lent : (s w r : ℕ) (x : ℕ → ℤ) → windowed (r * s) w x ≡ cut w (cells s x r)
unfolding cells
row-lent s w r x = window-cut (r * s) w x (λ c. x (r * s + c)) (λ c q. refl)

-- row i of an area filled with a row of w numbers y
pub fill-turn : (A w h i : ℕ) (Y Z : Grid) (y z z' : ℕ → ℤ) → w ≤ A → z' ≡ spliced (i * A) w y z → ((c : ℕ) → c < w → y c ≡ Y i c) →
    ((c : ℕ) → w ≤ c → Y i c ≡ Z i c) → RowSwept A Y Z i z → RowSwept A Y Z (i + 1) z'
fill-turn A w h i Y Z y z z' wa is new past sw =
    copy-turn A w 0 w i (i * A) Y Z y z z' wa (omega arith) (omega arith) is
    (λ c cw. let k : 0 + c ≡ c = omega arith in rw k (new c cw)) (λ c b. absurd (omega arith)) past sw

-- the rows of a level from the plane
pub made-few : (H : Side) (r from w : ℕ) → from ≤ w → pick (is_low H r) from 0 ≤ w
made-few H r from w b = elim (is_low H r) as (λ t. pick t from 0 ≤ w) [ true ↦ b | false ↦ omega arith ]

pub row-copied : (from w A s : ℕ) (H : Side) (r m q : ℕ) (p x z : ℕ → ℤ) → z ≡ spliced (r * s + m) (w - m) (windowed (q * A + m) (w - m) p) x →
    m ≡ pick (is_low H r) from 0 → q ≡ plane_row H r → z ≡ row_copied from w H A s p r x
row-copied from w A s H r m q p x z e f g = cc

-- ---- rows tested: those from `first` up to r are between low and high
module _ (s first last from to : ℕ) (low high : ℤ) (l : List ℤ) where
  abbrev row_test : ℕ → Bool
  row_test i = every (to - from) (λ c. between low high (cells s (at l) (first + i) (from + c)))

  pub record Tested (r : ℕ) : Type 0 where
    pub some : first ≤ r
    pub most : r ≤ last
    pub all : every (r - first) row_test ≡ true

  -- what the test of row r says
  pub row-test : (r a k : ℕ) (ok : Bool) → first ≤ r → a ≡ r * s + from → k ≡ to - from → a + k ≤ length l →
      ok ≡ every (length (mid_of a k l)) (λ i. between low high (at (mid_of a k l) i)) → ok ≡ row_test (r - first)
  unfolding cells
  row-test r a k ok fr ea ek room e =
      let mid : length (mid_of a k l) ≡ to - from = length-mid a k l room ∙ ek in
      e
      ∙ ap (λ (n : ℕ). every n (λ i. between low high (at (mid_of a k l) i))) mid
      ∙ every-same (to - from) _ _
      (λ i ib.
      let j : first + (r - first) ≡ r = omega arith in
      let p : a + i ≡ r * s + (from + i) = omega arith in
      ap (between low high)
      (ap (λ (y : ℕ → ℤ). y i) (at_mid a k l)
      ∙ window-in a k (at l) i (omega arith)
      ∙ ap (at l) p
      ∙ ap (λ (m : ℕ). at l (m * s + (from + i))) (sym j)))

  pub tested-start : first ≤ last → Tested first
  tested-start b = record { some = omega arith; most = b; all = each-every (first - first) row_test (λ i h. absurd (omega arith)) }

  pub tested-turn : (r : ℕ) → r < last → row_test (r - first) ≡ true → Tested r → Tested (r + 1)
  tested-turn r b e t =
      record {
        some = omega (arith, t.some);
        most = omega arith;
        all = each-every (r + 1 - first) row_test
            (λ i h. elim (ℕ_discrete i (r - first)) [ yes k ↦ ap row_test k ∙ e | no d ↦ every-each (r - first) row_test t.all i (omega (arith, t.some)) ]);
      }

  pub tested-no : (r : ℕ) → r < last → Tested r → row_test (r - first) ≡ false → false ≡ rows_between first last from to low high (cells s (at l))
  unfolding rows_between every_cell
  tested-no r b t e =
      sym (not-every (last - first) row_test (r - first) (omega (arith, t.some)) e)

  pub tested-yes : (r : ℕ) → last ≤ r → Tested r → true ≡ rows_between first last from to low high (cells s (at l))
  unfolding rows_between every_cell
  tested-yes r b t = sym (each-every (last - first) row_test (λ i h. every-each (r - first) row_test t.all i (omega (arith, t.some))))
