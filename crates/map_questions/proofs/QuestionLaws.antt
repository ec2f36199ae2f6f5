-- The questions of the sizes for each filter, and the areas by the answer. Assumes nothing.
use mathlib.Core.Path.{◌≡◌, refl, sym, ap, ◌∙◌}
use mathlib.Core.Bool.{Bool, true, false}
use Prim.Native.Nat.{ℕ, ◌*◌, ◌≤◌, ◌<◌}
use native.Mathlib.Omega.{arith}
use lib.Dec.{leb}
use lib.IntN.{ℤ}
use borrow.Author.Tests.{leb-true, le-leb, lt-leb, eq-eqb, ne_eqb}
use Rattle.numbers.specs.Signal.{both}
use Rattle.numbers.proofs.Sweep.{both as both_hold}
use Rattle.lifting.specs.Halves.{fronted}
use Rattle.wavelet.specs.Limits.{max_width, max_height}
use Rattle.wavelet.specs.Questions.{ask, within, Sized}
use Rattle.wavelet.proofs.QuestionLaws.{within-true}
use Rattle.filters.specs.Filters.{filter_of, is_filter}
use Rattle.map_questions.specs.Calls.{shape_questions, size_questions, zeros, passed, rebuilt}
use Rattle.filters.proofs.FigureLaws.{levels-most}

-- ---- four questions, and what follows them
abbrev asked : Bool → Bool → Bool → Bool → ℕ → ℕ
asked a b d e x = ask a 2 (ask b 3 (ask d 18 (ask e 4 x)))

-- a no is given whatever follows; four times yes goes on to it
no : (a b d e : Bool) (x : ℕ) → (asked a b d e 0 ≡ 0 → ⊥) → asked a b d e x ≡ asked a b d e 0
no true true true true x h = absurd (h refl)
no true true true false x h = refl
no true true false e x h = refl
no true false d e x h = refl
no false b d e x h = refl

yes : (a b d e : Bool) (x : ℕ) → asked a b d e 0 ≡ 0 → asked a b d e x ≡ x
yes true true true true x h = refl
yes true true true false x h = absurd (omega arith)
yes true true false e x h = absurd (omega arith)
yes true false d e x h = absurd (omega arith)
yes false b d e x h = absurd (omega arith)

all : (a b d e : Bool) (x : ℕ) → asked a b d e x ≡ 0 → (a ≡ true) × (b ≡ true) × (d ≡ true) × (e ≡ true) × (x ≡ 0)
all true true true true x h = (refl, refl, refl, refl, h)
all true true true false x h = absurd (omega arith)
all true true false e x h = absurd (omega arith)
all true false d e x h = absurd (omega arith)
all false b d e x h = absurd (omega arith)

-- and question 5 after them
five : (g : Bool) (x : ℕ) → ask g 5 x ≡ 0 → (g ≡ true) × (x ≡ 0)
five true x h = (refl, h)
five false x h = absurd (omega arith)

never : (a b d e g : Bool) → asked a b d e (ask g 5 0) ≡ 14 → ⊥
never true true true true true h = omega arith
never true true true true false h = omega arith
never true true true false g h = omega arith
never true true false e g h = omega arith
never true false d e g h = omega arith
never false b d e g h = omega arith

on : (a b d e g : Bool) (x : ℕ) → (asked a b d e (ask g 5 0) ≡ 0 → ⊥) → asked a b d e (ask g 5 x) ≡ asked a b d e (ask g 5 0)
on true true true true true x h = absurd (h refl)
on true true true true false x h = refl
on true true true false g x h = refl
on true true false e g x h = refl
on true false d e g x h = refl
on false b d e g x h = refl

-- question 5
unfoldable roomy : ℕ → ℕ → ℕ → ℕ → ℕ → Bool
roomy W H a b c = both (leb (W * H) a) (both (leb (W * H) b) (leb (W * H) c))

-- all of them answered yes
pub record Roomy (f W H L a b c : ℕ) : Type 0 where
  pub size : Sized W H L
  pub few : L ≤ (filter_of f).levels
  pub first : W * H ≤ a
  pub second : W * H ≤ b
  pub third : W * H ≤ c

module _ (f W H L : ℕ) where
  -- ---- questions 2, 3, 18 and 4, one after the other
  pub two : within 1 max_width W ≡ false → 2 ≡ shape_questions f W H L 0
  unfolding shape_questions
  two a = rw a

  module _ (a : within 1 max_width W ≡ true) where
    pub three : within 1 max_height H ≡ false → 3 ≡ shape_questions f W H L 0
    unfolding shape_questions
    three b = rw (a, b)

    module _ (b : within 1 max_height H ≡ true) where
      pub unknown : is_filter f ≡ false → 18 ≡ shape_questions f W H L 0
      unfolding shape_questions
      unknown d = rw (a, b, d)

      pub four : (l : Bool) (most : ℕ) → is_filter f ≡ true → most ≡ (filter_of f).levels → within 1 most L ≡ l → ask l 4 0 ≡ shape_questions f W H L 0
      unfolding shape_questions
      four l most d m e =
          let n = ap (λ (k : ℕ). within 1 k L) (sym m) ∙ e in
          rw (a, b, d, n)

  pub shaped : shape_questions f W H L 0 ≡ 0 → Sized W H L × (L ≤ (filter_of f).levels)
  unfolding shape_questions
  shaped e =
      let p = all (within 1 max_width W) (within 1 max_height H) (is_filter f) (within 1 (filter_of f).levels L) 0 e in
      let l = within-true 1 (filter_of f).levels L p.3 in
      let m = levels-most f in (
        record {
          width = within-true 1 max_width W p.0;
          height = within-true 1 max_height H p.1;
          levels = (l.0, omega (arith, l.1, m));
        },
        l.1,
      )

  shape-no : (x : ℕ) → (shape_questions f W H L 0 ≡ 0 → ⊥) → shape_questions f W H L x ≡ shape_questions f W H L 0
  unfolding shape_questions
  shape-no x h = no (within 1 max_width W) (within 1 max_height H) (is_filter f) (within 1 (filter_of f).levels L) x h

  shape-yes : (x : ℕ) → shape_questions f W H L 0 ≡ 0 → shape_questions f W H L x ≡ x
  unfolding shape_questions
  shape-yes x h = yes (within 1 max_width W) (within 1 max_height H) (is_filter f) (within 1 (filter_of f).levels L) x h

  -- ---- and 5
  module _ (a b c : ℕ) where
    abbrev sizes : ℕ → ℕ
    sizes = size_questions f W H L a b c

    pub sizes-no : (shape_questions f W H L 0 ≡ 0 → ⊥) → sizes 0 ≡ shape_questions f W H L 0
    unfolding size_questions
    sizes-no n = shape-no _ n

    module _ (e : shape_questions f W H L 0 ≡ 0) where
      sizes-five : roomy W H a b c ≡ false → 5 ≡ sizes 0
      unfolding size_questions roomy
      sizes-five g = sym (shape-yes _ e ∙ simp g)

      pub short-first : a < W * H → 5 ≡ sizes 0
      unfolding roomy
      short-first h = sizes-five (simp (lt-leb (W * H) a h))

      pub short-second : W * H ≤ a → b < W * H → 5 ≡ sizes 0
      unfolding roomy
      short-second h i = sizes-five (simp (le-leb (W * H) a h, lt-leb (W * H) b i))

      pub short-third : W * H ≤ a → W * H ≤ b → c < W * H → 5 ≡ sizes 0
      unfolding roomy
      short-third h i j = sizes-five (simp (le-leb (W * H) a h, le-leb (W * H) b i, lt-leb (W * H) c j))

      pub long-enough : W * H ≤ a → W * H ≤ b → W * H ≤ c → 0 ≡ sizes 0
      unfolding size_questions
      long-enough h i j = sym (shape-yes _ e ∙ simp (le-leb (W * H) a h, le-leb (W * H) b i, le-leb (W * H) c j))

    -- all of them passed, and what follows
    passes : (x : ℕ) → sizes x ≡ 0 → (shape_questions f W H L 0 ≡ 0) × (roomy W H a b c ≡ true)
    unfolding size_questions shape_questions roomy
    passes x e =
        let p = all (within 1 max_width W) (within 1 max_height H) (is_filter f) (within 1 (filter_of f).levels L) _ e in
        let q = five (roomy W H a b c) x p.4 in
        (simp (p.0, p.1, p.2, p.3), q.0)

    pub roomy-is : sizes 0 ≡ 0 → Roomy f W H L a b c
    unfolding roomy
    roomy-is e =
        let p = passes 0 e in
        let s = shaped p.0 in
        let u = both_hold (leb (W * H) a) _ p.1 in
        let v = both_hold (leb (W * H) b) _ u.1 in
        record {
          size = s.0;
          few = s.1;
          first = leb-true (W * H) a u.0;
          second = leb-true (W * H) b v.0;
          third = leb-true (W * H) c v.1;
        }

    -- what follows is asked exactly where they are passed
    pub asked-on : (x : ℕ) → sizes 0 ≡ 0 → sizes x ≡ x
    unfolding size_questions roomy
    asked-on x e = let p = passes 0 e in shape-yes _ p.0 ∙ simp p.1

    pub asked-no : (x : ℕ) → (sizes 0 ≡ 0 → ⊥) → sizes x ≡ sizes 0
    unfolding size_questions shape_questions roomy
    asked-no x h = on (within 1 max_width W) (within 1 max_height H) (is_filter f) (within 1 (filter_of f).levels L) (roomy W H a b c) x h

    pub never_fourteen : sizes 0 ≡ 14 → ⊥
    unfolding size_questions shape_questions roomy
    never_fourteen h = never (within 1 max_width W) (within 1 max_height H) (is_filter f) (within 1 (filter_of f).levels L) (roomy W H a b c) h

-- ---- the areas by the answer
module _ (n : ℕ) (y x : ℕ → ℤ) where
  pub passed-no : (q : ℕ) → (q ≡ 0 → ⊥) → x ≡ passed q n y x
  unfolding passed
  passed-no q d = simp (ne_eqb q 0 d)

  pub passed-yes : (q : ℕ) → q ≡ 0 → passed q n y x ≡ fronted n y x
  unfolding passed
  passed-yes q e = simp (eq-eqb q 0 e)

  pub rebuilt-no : (q : ℕ) → (q ≡ 0 → ⊥) → (q ≡ 14 → ⊥) → x ≡ rebuilt q n y x
  unfolding rebuilt
  rebuilt-no q d e = simp (ne_eqb q 0 d, ne_eqb q 14 e)

  pub rebuilt-yes : rebuilt 0 n y x ≡ fronted n y x
  unfolding rebuilt
  rebuilt-yes = refl

  pub rebuilt-zero : rebuilt 14 n y x ≡ fronted n zeros x
  unfolding rebuilt
  rebuilt-zero = refl
