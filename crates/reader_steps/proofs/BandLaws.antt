-- The first band that a set asks for, as the code tests it: columns of each half, a low row, a high row. Assumes nothing.
use mathlib.Core.Bool.{Bool, true, false, ◌&&◌, ◌||◌}
use mathlib.Core.Path.{◌≡◌, refl, sym, ap, ap₂, subst, ◌∙◌}
use mathlib.Core.List.{List, [], ◌∷◌}
use Prim.Native.Nat.{ℕ, zero, suc, ◌+◌, ◌-◌, ◌*◌, ◌/◌, ◌%◌, ◌≤◌, ◌<◌}
use native.Mathlib.Decide.{dec_lt, ℕ_discrete}
use native.Mathlib.Omega.{arith}
use lib.Dec.{T, leb, ltb, eqb}
use borrow.Author.Tests.{lt-leb, le-leb, lt-ltb, le-ltb, eq-eqb, ne_eqb, ltb-false, eqb-false, leb-false}
use Rattle.numbers.specs.Signal.{pick, both}
use Rattle.lifting.specs.Line.{lo, hi}
use Rattle.lifting.specs.Grid.{Side, count}
use Rattle.wavelet.specs.Bands.{Band, LL, HL, LH, HH, code, across, down}
use Rattle.wavelet.specs.Order.{first_set, set_row, set_has}
use Rattle.reader_steps.specs.Asked.{kept_at, asked, bands_from, those, look, first_code, next_band}

-- ---- the first band asked for
first-pick : (t : Bool) (b : Band) (bs : List Band) → first_code (pick t (b ∷ bs) bs) ≡ pick t (code b) (first_code bs)
unfolding first_code
first-pick true b bs = refl
first-pick false b bs = refl

module _ (p : Band → Bool) where
  abbrev one : Band → List Band → ℕ
  one b bs = pick (p b) (code b) (first_code (those p bs))

  step : (b : Band) (bs : List Band) → first_code (those p (b ∷ bs)) ≡ one b bs
  unfolding those
  step b bs = first-pick (p b) b (those p bs)

  last_one : one HH [] ≡ pick (p HH) 3 4
  unfolding those first_code code
  last_one = refl

  from-high : first_code (those p (LH ∷ HH ∷ [])) ≡ pick (p LH) 2 (pick (p HH) 3 4)
  unfolding code
  from-high = step LH (HH ∷ []) ∙ ap (pick (p LH) 2) (step HH [] ∙ last_one)

  from-wide : first_code (those p (HL ∷ LH ∷ HH ∷ [])) ≡ pick (p HL) 1 (pick (p LH) 2 (pick (p HH) 3 4))
  unfolding code
  from-wide = step HL (LH ∷ HH ∷ []) ∙ ap (pick (p HL) 1) from-high

  first-is : (b : ℕ) → first_code (those p (bands_from b)) ≡ pick (both (leb b 0) (p LL)) 0
      (pick (both (leb b 1) (p HL)) 1 (pick (both (leb b 2) (p LH)) 2 (pick (both (leb b 3) (p HH)) 3 4)))
  unfolding bands_from code
  first-is zero = step LL (HL ∷ LH ∷ HH ∷ []) ∙ ap (pick (p LL) 0) from-wide
  first-is (suc zero) = from-wide
  first-is (suc (suc zero)) = from-high
  first-is (suc (suc (suc zero))) = step HH [] ∙ last_one
  first-is (suc (suc (suc (suc b)))) = none ∙ rw (
    lt-leb (suc (suc (suc (suc b)))) 0 (omega arith),
    lt-leb (suc (suc (suc (suc b)))) 1 (omega arith),
    lt-leb (suc (suc (suc (suc b)))) 2 (omega arith),
    lt-leb (suc (suc (suc (suc b)))) 3 (omega arith),
  )
    where
      none : first_code (those p []) ≡ 4
      none = unfold those first_code in refl

-- ---- the tests of the code
pub leb-less : (a b c d : ℕ) → (a ≤ b → c < d) → (c < d → a ≤ b) → leb a b ≡ ltb c d
leb-less a b c d f g = elim (dec_lt c d) [
  | yes p ↦ le-leb a b (g p) ∙ sym (lt-ltb c d p)
  | no p ↦ lt-leb a b (not-le (λ q. p (f q))) ∙ sym (le-ltb c d (omega arith))
]
  where
    not-le : (a ≤ b → ⊥) → b < a
    not-le n = omega (arith, n)

ltb-same : (a b c d : ℕ) → (a < b → c < d) → (c < d → a < b) → ltb a b ≡ ltb c d
ltb-same a b c d f g = elim (dec_lt c d) [
  | yes p ↦ lt-ltb a b (g p) ∙ sym (lt-ltb c d p)
  | no p ↦ le-ltb a b (not-lt (λ q. p (f q))) ∙ sym (le-ltb c d (omega arith))
]
  where
    not-lt : (a < b → ⊥) → b ≤ a
    not-lt n = omega (arith, n)

zero_is : (b : ℕ) → eqb b 0 ≡ leb b 0
zero_is b = elim (ℕ_discrete b 0) [
  | yes e ↦ eq-eqb b 0 e ∙ sym (le-leb b 0 (omega arith))
  | no e ↦ ne_eqb b 0 e ∙ sym (lt-leb b 0 (omega (arith, e)))
]

-- a column of each half, and a row
abbrev pub left : Side → Bool
left W = ltb (W.start % 2) W.length

abbrev pub right : Side → Bool
right W = ltb (1 - W.start % 2) W.length

-- the high row of set n, were its rows as many
abbrev pub row_at : Side → ℕ → ℕ
row_at H n = 2 * n + 1 - H.start % 2

abbrev pub low : Side → ℕ → Bool
low H n = leb (H.start % 2) n && leb (row_at H n) H.length

abbrev pub high : Side → ℕ → Bool
high H n = ltb (row_at H n) H.length

left_is : (W : Side) → ltb 0 (count lo W) ≡ left W
unfolding count
left_is W = ltb-same 0 (count lo W) (W.start % 2) W.length (λ p. omega arith) (λ p. omega arith)

right_is : (W : Side) → ltb 0 (count hi W) ≡ right W
unfolding count
right_is W = ltb-same 0 (count hi W) (1 - W.start % 2) W.length (λ p. omega arith) (λ p. omega arith)

low-row : (H : Side) (n : ℕ) → H.start % 2 ≤ n → ltb (n - H.start % 2) (count lo H) ≡ leb (row_at H n) H.length
unfolding count
low-row H n b = sym (leb-less (row_at H n) H.length (n - H.start % 2) (count lo H) (λ p. omega arith) (λ p. omega arith))

low-is : (H : Side) (n : ℕ) → both (leb (H.start % 2) n) (ltb (n - H.start % 2) (count lo H)) ≡ low H n
low-is H n = elim (dec_lt n (H.start % 2)) [
  | yes p ↦ rw (lt-leb (H.start % 2) n p) refl
  | no p ↦ rw (le-leb (H.start % 2) n (omega arith)) (low-row H n (omega arith))
]

high_is : (H : Side) (n : ℕ) → both (leb 0 n) (ltb (n - 0) (count hi H)) ≡ high H n
unfolding count
high_is H n = rw (le-leb 0 n (omega arith)) (ltb-same (n - 0) (count hi H) (row_at H n) H.length (λ p. omega arith) (λ p. omega arith))

module _ (W H : Side) (n : ℕ) where
  has-0 : set_has W H LL n ≡ both (left W) (low H n)
  unfolding set_has set_row across down first_set
  has-0 = ap₂ both (left_is W) (low-is H n)

  has_1 : set_has W H HL n ≡ both (right W) (low H n)
  unfolding set_has set_row across down first_set
  has_1 = ap₂ both (right_is W) (low-is H n)

  has-2 : set_has W H LH n ≡ both (left W) (high H n)
  unfolding set_has set_row across down first_set
  has-2 = ap₂ both (left_is W) (high_is H n)

  has-3 : set_has W H HH n ≡ both (right W) (high H n)
  unfolding set_has set_row across down first_set
  has-3 = ap₂ both (right_is W) (high_is H n)

-- ---- one test after another
first-test : (z last left low : Bool) → ((last && z) && left) && low ≡ both z (both last (both left low))
first-test true true true low = refl
first-test true true false low = refl
first-test true false left low = refl
first-test false true left low = refl
first-test false false left low = refl

second-test : (z right low : Bool) → (z && right) && low ≡ both z (both right low)
second-test true true low = refl
second-test true false low = refl
second-test false right low = refl

-- without a high row; with one
no-high : (y z left right : Bool) → ◌≡◌ {A = ℕ} 4 (pick (both y (both left false)) 2 (pick (both z (both right false)) 3 4))
no-high true z true right = no-right z right
  where
    no-right : (z right : Bool) → ◌≡◌ {A = ℕ} 4 (pick (both z (both right false)) 3 4)
    no-right true true = refl
    no-right true false = refl
    no-right false right = refl
no-high true true false true = refl
no-high true true false false = refl
no-high true false false right = refl
no-high false true left true = refl
no-high false true left false = refl
no-high false false left right = refl

and_both : (z t : Bool) → z && t ≡ both z (both t true)
and_both true true = refl
and_both true false = refl
and_both false t = refl

and_no : (t : Bool) → t && false ≡ false
and_no true = refl
and_no false = refl

and-true : (t : Bool) → (t && true) && true ≡ t
and-true true = refl
and-true false = refl

both_true : (t : Bool) → both t true ≡ t
both_true true = refl
both_true false = refl

-- a set between the first and the last of more than one column, which has a row of every band
pub record Full (W H : Side) (n : ℕ) : Type 0 where
  pub wide : 1 < W.length
  pub some : 0 < n
  pub more : n < H.length / 2

pub full-of : (W H : Side) (n : ℕ) → (ltb W.length 2 || eqb n 0) || leb (H.length / 2) n ≡ false → Full W H n
full-of W H n e = go (ltb W.length 2) refl (eqb n 0) refl (leb (H.length / 2) n) refl e
  where
    positive : (n ≡ 0 → ⊥) → 0 < n
    positive f = omega (arith, f)

    go : (a : Bool) → ltb W.length 2 ≡ a → (b : Bool) → eqb n 0 ≡ b → (c : Bool) → leb (H.length / 2) n ≡ c → (a || b) || c ≡ false → Full W H n
    go true p b q c r z = absurd (subst T z tt)
    go false p true q c r z = absurd (subst T z tt)
    go false p false q true r z = absurd (subst T z tt)
    go false p false q false r z = record {
      wide = omega (arith, ltb-false W.length 2 p);
      some = positive (eqb-false n 0 q);
      more = leb-false (H.length / 2) n r;
    }

-- from code b on of all four, LL at the last level alone
abbrev from_all : Bool → ℕ → ℕ
from_all last b = pick (last && eqb b 0) 0 (pick (ltb b 2) 1 (pick (ltb b 3) 2 (pick (ltb b 4) 3 4)))

all_own : (last : Bool) (b : ℕ) → (b ≡ 0 → ⊥) → b < 4 → b ≡ from_all last b
all_own last zero e h = absurd (e refl)
all_own last (suc zero) e h = rw (and_no last) refl
all_own last (suc (suc zero)) e h = rw (and_no last) refl
all_own last (suc (suc (suc zero))) e h = rw (and_no last) refl
all_own last (suc (suc (suc (suc b)))) e h = absurd (omega arith)

all_none : (last : Bool) (b : ℕ) → 4 ≤ b → 4 ≡ from_all last b
all_none last b h =
    rw (
      ne_eqb b 0 (λ e. omega arith),
      and_no last,
      le-ltb b 2 (omega arith),
      le-ltb b 3 (omega arith),
      le-ltb b 4 (omega arith),
    ) refl

-- ---- what the code returns
module _ (last : Bool) (W H : Side) (n b : ℕ) where
  abbrev zeroth : Bool
  zeroth = ((last && eqb b 0) && left W) && low H n

  abbrev first : Bool
  first = (ltb b 2 && right W) && low H n

  is : next_band last W H n b ≡ pick zeroth 0 (pick first 1
      (pick (both (ltb b 3) (both (left W) (high H n))) 2 (pick (both (ltb b 4) (both (right W) (high H n))) 3 4)))
  unfolding next_band look asked kept_at
  is =
      first-is (asked last W H n) b
      ∙ rw (
        has-0 W H n,
        has_1 W H n,
        has-2 W H n,
        has-3 W H n,
        first-test (eqb b 0) last (left W) (low H n),
        second-test (ltb b 2) (right W) (low H n),
        zero_is b,
        leb-less b 1 b 2 (λ p. omega arith) (λ p. omega arith),
        leb-less b 2 b 3 (λ p. omega arith) (λ p. omega arith),
        leb-less b 3 b 4 (λ p. omega arith) (λ p. omega arith),
      ) refl

  pub band-0 : zeroth ≡ true → 0 ≡ next_band last W H n b
  band-0 e = sym (is ∙ rw e refl)

  module _ (no-0 : zeroth ≡ false) where
    pub band-1 : first ≡ true → 1 ≡ next_band last W H n b
    band-1 e = sym (is ∙ rw (no-0, e) refl)

    module _ (no-1 : first ≡ false) where
      rest : next_band last W H n b ≡ pick (both (ltb b 3) (both (left W) (high H n))) 2 (pick (both (ltb b 4) (both (right W) (high H n))) 3 4)
      rest = is ∙ rw (no-0, no-1) refl

      pub band-flat : H.length ≤ row_at H n → 4 ≡ next_band last W H n b
      band-flat g = no-high (ltb b 3) (ltb b 4) (left W) (right W) ∙ sym (rest ∙ rw (le-ltb (row_at H n) H.length g) refl)

      module _ (tall : row_at H n < H.length) where
        with-high : next_band last W H n b ≡ pick (ltb b 3 && left W) 2 (pick (ltb b 4 && right W) 3 4)
        with-high =
            rest ∙ rw (lt-ltb (row_at H n) H.length tall, and_both (ltb b 3) (left W), and_both (ltb b 4) (right W)) refl

        pub band-2 : ltb b 3 && left W ≡ true → 2 ≡ next_band last W H n b
        band-2 e = sym (with-high ∙ rw e refl)

        module _ (no-2 : ltb b 3 && left W ≡ false) where
          pub band-3 : ltb b 4 && right W ≡ true → 3 ≡ next_band last W H n b
          band-3 e = sym (with-high ∙ rw (no-2, e) refl)

          pub band-4 : ltb b 4 && right W ≡ false → 4 ≡ next_band last W H n b
          band-4 e = sym (with-high ∙ rw (no-2, e) refl)

  -- past the last set no row is left
  pub band-past : H.length / 2 < n → 4 ≡ next_band last W H n b
  band-past h = band-flat (no_test ((last && eqb b 0) && left W)) (no_test (ltb b 2 && right W)) (omega arith)
    where
      no-low : low H n ≡ false
      no-low = ap (λ (u : Bool). leb (H.start % 2) n && u) (lt-leb (row_at H n) H.length (omega arith)) ∙ and_no (leb (H.start % 2) n)

      no_test : (t : Bool) → t && low H n ≡ false
      no_test t = ap (λ (u : Bool). t && u) no-low ∙ and_no t

  module _ (all : Full W H n) where
    full : next_band last W H n b ≡ from_all last b
    full = is ∙ rw (
      lt-ltb (W.start % 2) W.length (omega (arith, all.wide)),
      lt-ltb (1 - W.start % 2) W.length (omega (arith, all.wide)),
      le-leb (H.start % 2) n (omega (arith, all.some)),
      le-leb (row_at H n) H.length (omega (arith, all.more)),
      lt-ltb (row_at H n) H.length (omega (arith, all.more)),
      and-true (last && eqb b 0),
      and-true (ltb b 2),
      both_true (ltb b 3),
      both_true (ltb b 4),
    ) refl

    pub full-low : b ≡ 0 → last ≡ true → 0 ≡ next_band last W H n b
    full-low e l = sym (full ∙ rw (l, eq-eqb b 0 e) refl)

    pub full-first : b ≡ 0 → last ≡ false → 1 ≡ next_band last W H n b
    full-first e l = sym (full ∙ rw (l, lt-ltb b 2 (omega arith)) refl)

    pub full-own : (b ≡ 0 → ⊥) → b < 4 → b ≡ next_band last W H n b
    full-own e h = all_own last b e h ∙ sym full

    pub full-none : 4 ≤ b → 4 ≡ next_band last W H n b
    full-none h = all_none last b h ∙ sym full
