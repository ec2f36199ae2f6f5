-- The laws of sets as the code finds them, and of a band by its code. Assumes nothing.
use mathlib.Core.Path.{◌≡◌, refl, sym, ap, ap₂, subst, ◌∙◌}
use mathlib.Core.Bool.{Bool, true, false, ◌||◌}
use Prim.Native.Nat.{ℕ, zero, suc, ◌+◌, ◌-◌, ◌*◌, ◌/◌, ◌%◌, min, ◌≤◌, ◌<◌, ◌^◌}
use native.Mathlib.Omega.{arith}
use lib.Dec.{T, leb, ltb, eqb}
use borrow.Author.Tests.{eqb-true, eqb-false, ne_eqb}
use Rattle.numbers.specs.Signal.{both}
use Rattle.lifting.specs.Line.{lo, hi}
use Rattle.lifting.specs.Grid.{Side, count}
use Rattle.wavelet.specs.Bands.{across, down}
use Rattle.wavelet.specs.Order.{first_set, last_set, set_row}
use Rattle.wavelet.specs.Steps.{set_to, set_of, sets_before}
use Rattle.wavelet.proofs.StepLaws.{to-first, to-later, set-of, before-suc}
use Rattle.filters.specs.Filters.{filter_of}
use Rattle.level.specs.Sets.{opens}
use Rattle.level.specs.Stretch.{row_of_set, half_place}
use Rattle.reader_steps.specs.Sets.{ahead, row_to, first_row}
use Rattle.reader_steps.specs.Asked.{named}
use Rattle.reader_steps.specs.Places.{has_cells, has_set}
use Rattle.reader_steps.proofs.OpenedSets.{looks}
use Rattle.reader_steps.proofs.BandLaws.{leb-less}
use Rattle.reader_steps.proofs.CellLaws.{Empty, wide, high, empty-not, cells-yes}

-- ---- the set of a row, as the code finds it
ahead_small : (f : ℕ) → ahead f ≤ 2 ^ 16
unfolding filter_of
ahead_small zero = omega arith
ahead_small (suc f) = omega arith

-- of a number that is the look-ahead
pub ahead-fits : (f n : ℕ) → n ≡ ahead f → (1 ≤ n) × (n ≤ 2 ^ 16)
ahead-fits f n e = (omega (arith, looks f), omega (arith, ahead_small f))

pub set_first : (f : ℕ) (S : Side) (r : ℕ) → S.start % 2 + r ≡ 0 → 0 ≡ set_of (ahead f) S r
set_first f S r e =
    let u : set_to (ahead f) (S.start % 2 + r) ≡ 0 = ap (set_to (ahead f)) e ∙ to-first (ahead f) in
    omega (arith, set-of (ahead f) S r, u)

-- of a row after the first even one, q being how far it is past that, a the look-ahead and b the last set
module _ (f : ℕ) (S : Side) (r q a b : ℕ) (late : 1 - S.start % 2 ≤ r) (eq : q ≡ r - (1 - S.start % 2)) (ea : a ≡ ahead f) (eb : b ≡ last_set S) where
  later : min (q / 2 + a) b ≡ set_of (ahead f) S r
  later =
      let u : set_to (ahead f) (S.start % 2 + r) ≡ q / 2 + ahead f = ap (set_to (ahead f)) (omega arith) ∙ to-later (ahead f) q in
      omega (arith, set-of (ahead f) S r, u)

  pub set-ahead : q / 2 + a < b → q / 2 + a ≡ set_of (ahead f) S r
  set-ahead h = omega (arith, later)

  pub set-end : b ≤ q / 2 + a → b ≡ set_of (ahead f) S r
  set-end h = omega (arith, later)

pub before-later : (f : ℕ) (S : Side) (r n : ℕ) → 0 < r → n ≡ set_of (ahead f) S (r - 1) → n + 1 ≡ sets_before (ahead f) S r
before-later f S zero n p e = absurd (omega arith)
before-later f S (suc r) n p e = let z : suc r - 1 ≡ r = omega arith in ap (λ i. i + 1) (e ∙ ap (set_of (ahead f) S) z) ∙ sym (before-suc (ahead f) S r)

-- ---- whether a level has a set
pub there-none : (W H : Side) (n : ℕ) → Empty W H → false ≡ has_set W H n
unfolding has_set
there-none W H n e = sym (ap (λ (t : Bool). both t (leb n (last_set H))) (empty-not W H e))

pub there-some : (W H : Side) (n m : ℕ) → 0 < W.length → 0 < H.length → m ≡ last_set H → leb n m ≡ has_set W H n
unfolding has_set
there-some W H n m w h e = ap (leb n) e ∙ sym (ap (λ (t : Bool). both t (leb n (last_set H))) (cells-yes W H w h))

-- ---- whether a row needs a set
pub down-none : (f : ℕ) (W H : Side) (r n : ℕ) → Empty W H → false ≡ both (has_cells W H) (leb n (set_of (ahead f) H r))
down-none f W H r n e = sym (ap (λ (t : Bool). both t (leb n (set_of (ahead f) H r))) (empty-not W H e))

pub down-some : (f : ℕ) (W H : Side) (r n m : ℕ) → 0 < W.length → 0 < H.length → m ≡ set_of (ahead f) H r →
    leb n m ≡ both (has_cells W H) (leb n (set_of (ahead f) H r))
down-some f W H r n m w h e = ap (leb n) e ∙ sym (ap (λ (t : Bool). both t (leb n (set_of (ahead f) H r))) (cells-yes W H w h))

-- the first that no row before it needs
pub down-opens : (f : ℕ) (W H : Side) (r n : ℕ) (t : Bool) → n ≡ sets_before (ahead f) H r → t ≡ both (has_cells W H) (leb n (set_of (ahead f) H r)) →
    t ≡ both (has_cells W H) (opens (ahead f) H r)
unfolding opens
down-opens f W H r n t e g =
    g ∙ ap (both (has_cells W H)) (at_most n (set_of (ahead f) H r) ∙ ap₂ ltb e (sym (before-suc (ahead f) H r)))
  where
    at_most : (a b : ℕ) → leb a b ≡ ltb a (b + 1)
    at_most a b = leb-less a b a (b + 1) (λ p. omega arith) (λ p. omega arith)

-- ---- the first row that needs a set
pub row-none : (f : ℕ) (S : Side) (n : ℕ) → S.length ≡ 0 → 0 ≡ first_row f S n
unfolding first_row
row-none f S zero e = refl
row-none f S (suc n) e = omega arith

row-some : (f : ℕ) (S : Side) (n r : ℕ) → 0 < n → r ≡ row_to f S n → min r (S.length - 1) ≡ first_row f S n
unfolding first_row
row-some f S zero r p e = absurd (omega arith)
row-some f S (suc n) r p e = ap (λ i. min i (S.length - 1)) e

pub row-either : (f : ℕ) (S : Side) (n : ℕ) → eqb n 0 || eqb S.length 0 ≡ true → 0 ≡ first_row f S n
row-either f S n e = go (eqb n 0) refl (eqb S.length 0) refl e
  where
    go : (a : Bool) → eqb n 0 ≡ a → (b : Bool) → eqb S.length 0 ≡ b → a || b ≡ true → 0 ≡ first_row f S n
    go true p b q z = let y : n ≡ 0 = eqb-true n 0 p in rw y (unfold first_row in refl)
    go false p true q z = row-none f S n (eqb-true S.length 0 q)
    go false p false q z = absurd (subst T (sym z) tt)

pub row-high : (S : Side) (n : ℕ) → eqb n 0 || eqb S.length 0 ≡ false → (0 < n) × (0 < S.length)
row-high S n e = go (eqb n 0) refl (eqb S.length 0) refl e
  where
    positive : (n : ℕ) → (n ≡ 0 → ⊥) → 0 < n
    positive n f = omega (arith, f)

    go : (a : Bool) → eqb n 0 ≡ a → (b : Bool) → eqb S.length 0 ≡ b → a || b ≡ false → (0 < n) × (0 < S.length)
    go true p b q z = absurd (subst T z tt)
    go false p true q z = absurd (subst T z tt)
    go false p false q z = (positive n (eqb-false n 0 p), positive S.length (eqb-false S.length 0 q))

-- past set 0 of rows that there are, m being how far n is past the look-ahead: which of the two is the row
module _ (f : ℕ) (S : Side) (n a m : ℕ) (there : eqb n 0 || eqb S.length 0 ≡ false) (ea : a ≡ ahead f) (em : m ≡ n - a) where
  row-min : min (2 * m + 1 - S.start % 2) (S.length - 1) ≡ first_row f S n
  row-min = row-some f S n (2 * m + 1 - S.start % 2) (row-high S n there).0 (omega arith)

  pub row-own : m < S.length / 2 → 2 * m + 1 - S.start % 2 ≡ first_row f S n
  row-own h = omega (arith, row-min)

  pub row_last : S.length / 2 ≤ m → S.length - 1 ≡ first_row f S n
  row_last h = omega (arith, row-min)

-- ---- a band by its code
pub across-low : (W : Side) (c : ℕ) → eqb c 0 || eqb c 2 ≡ true → count (across (named c)) W ≡ count lo W
unfolding across named
across-low W zero e = refl
across-low W (suc zero) e = absurd (subst T (sym e) tt)
across-low W (suc (suc zero)) e = refl
across-low W (suc (suc (suc c))) e =
    let no : eqb (suc (suc (suc c))) 0 || eqb (suc (suc (suc c))) 2 ≡ false =
    rw (ne_eqb (suc (suc (suc c))) 0 (λ z. omega arith), ne_eqb (suc (suc (suc c))) 2 (λ z. omega arith)) refl in
    absurd (subst T (sym e ∙ no) tt)

pub across-high : (W : Side) (c : ℕ) → eqb c 0 || eqb c 2 ≡ false → count (across (named c)) W ≡ count hi W
unfolding across named
across-high W zero e = absurd (subst T e tt)
across-high W (suc zero) e = refl
across-high W (suc (suc zero)) e = absurd (subst T e tt)
across-high W (suc (suc (suc c))) e = refl

-- the row of a band that set n has
pub row_low : (H : Side) (c n : ℕ) → c < 2 → set_row H (named c) n ≡ n - H.start % 2
unfolding set_row named down first_set
row_low H zero n lt = refl
row_low H (suc zero) n lt = refl
row_low H (suc (suc c)) n lt = absurd (omega arith)

pub row-hi : (H : Side) (c n : ℕ) → 2 ≤ c → set_row H (named c) n ≡ n
unfolding set_row named down first_set
row-hi H zero n le = absurd (omega arith)
row-hi H (suc zero) n le = absurd (omega arith)
row-hi H (suc (suc zero)) n le = omega arith
row-hi H (suc (suc (suc c))) n le = omega arith

-- the row of a set, and the half of it, that a band's row goes to
pub set-row : (n c : ℕ) → c < 4 → 2 * n + c / 2 ≡ row_of_set (down (named c)) n
unfolding down named row_of_set
set-row n zero h = omega arith
set-row n (suc zero) h = omega arith
set-row n (suc (suc zero)) h = omega arith
set-row n (suc (suc (suc zero))) h = omega arith
set-row n (suc (suc (suc (suc c)))) h = absurd (omega arith)

pub half-even : (W : Side) (c : ℕ) → c < 4 → c % 2 ≡ 0 → half_place (across (named c)) W ≡ 0
unfolding across named half_place
half-even W zero h e = refl
half-even W (suc zero) h e = absurd (omega arith)
half-even W (suc (suc zero)) h e = refl
half-even W (suc (suc (suc zero))) h e = absurd (omega arith)
half-even W (suc (suc (suc (suc c)))) h e = absurd (omega arith)

pub half-odd : (W : Side) (c : ℕ) → c < 4 → (c % 2 ≡ 0 → ⊥) → half_place (across (named c)) W ≡ count lo W
unfolding across named half_place
half-odd W zero h e = absurd (e (omega arith))
half-odd W (suc zero) h e = refl
half-odd W (suc (suc zero)) h e = absurd (e (omega arith))
half-odd W (suc (suc (suc zero))) h e = refl
half-odd W (suc (suc (suc (suc c)))) h e = absurd (omega arith)

-- ---- a side of no length, as the code tests it
pub none_of : (W H : Side) → eqb W.length 0 || eqb H.length 0 ≡ true → Empty W H
none_of W H e = go (eqb W.length 0) (eqb H.length 0) refl refl e
  where
    go : (a b : Bool) → eqb W.length 0 ≡ a → eqb H.length 0 ≡ b → a || b ≡ true → Empty W H
    go true b p q z = wide (eqb-true W.length 0 p)
    go false true p q z = high (eqb-true H.length 0 q)
    go false false p q z = absurd (subst T (sym z) tt)

pub some_of : (W H : Side) → eqb W.length 0 || eqb H.length 0 ≡ false → (0 < W.length) × (0 < H.length)
some_of W H e = go (eqb W.length 0) (eqb H.length 0) refl refl e
  where
    positive : (n : ℕ) → (n ≡ 0 → ⊥) → 0 < n
    positive n f = omega (arith, f)

    go : (a b : Bool) → eqb W.length 0 ≡ a → eqb H.length 0 ≡ b → a || b ≡ false → (0 < W.length) × (0 < H.length)
    go true b p q z = absurd (subst T z tt)
    go false true p q z = absurd (subst T z tt)
    go false false p q z = (positive W.length (eqb-false W.length 0 p), positive H.length (eqb-false H.length 0 q))
