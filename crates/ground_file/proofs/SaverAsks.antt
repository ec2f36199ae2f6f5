-- The questions of the saver as its code asks them, and what they say of its numbers. Assumes nothing.
use mathlib.Core.Path.{◌≡◌, refl, ◌∙◌}
use mathlib.Core.Bool.{Bool, true, false}
use mathlib.Core.List.{List}
use Prim.Native.Nat.{ℕ, ◌*◌, ◌^◌, ◌≤◌, ◌<◌}
use native.Mathlib.Nat.{mul-le-mul}
use native.Mathlib.Omega.{arith}
use lib.IntN.{ℤ}
use lib.Dec.{leb, ltb, eqb}
use lib.ListN.{length}
use borrow.Author.Tests.{lt-leb, le-leb, eq-eqb, ne_eqb, eqb-true, ltb-true, leb-true}
use Rattle.numbers.specs.Signal.{pick}
use Rattle.numbers.proofs.Sweep.{both as halves}
use Rattle.wavelet.specs.declared.shape.Shape.{Shape}
use Rattle.wavelet.specs.Limits.{max_width, max_height, max_levels}
use Rattle.wavelet.specs.Questions.{within}
use Rattle.wavelet.proofs.LimitLaws.{width_small}
use Rattle.wavelet.proofs.QuestionLaws.{within-true}
use Rattle.filters.specs.Filters.{filter_of, is_filter}
use Rattle.filters.proofs.FigureLaws.{levels-most}
use Rattle.ground_file.specs.declared.saver.Saver.{Saver}
use Rattle.ground_file.specs.Saving.{Saved}
use Rattle.ground_file.specs.File.{prime}
use Rattle.std.proofs.Common.{Err}
use Rattle.refusal.specs.declared.Refusal.{Refusal}
use Rattle.refusal.specs.Numbers.{number}
use Rattle.ground_file.proofs.AnswerLaws.{number-above}
use Rattle.ground_file.specs.Saving.{of_saved, max_step, plain, set_up_number, saver_fits, save_number, Inside, Ran, Saves}

-- a question that is passed, and one that is not
pub ask-passed : (t : Bool) (n r : ℕ) → 0 < n → pick t r n ≡ 0 → (t ≡ true) × (r ≡ 0)
ask-passed true n r h e = (refl, e)
ask-passed false n r h e = absurd (omega arith)

module _ (s : Shape) (q : ℕ) where
  pub plain-one : q ≡ 1 → true ≡ plain s q
  unfolding plain
  plain-one e = rw (eq-eqb q 1 e) refl

  module _ (big : q ≡ 1 → ⊥) where
    pub plain-x : (s.x ≡ 0 → ⊥) → false ≡ plain s q
    unfolding plain
    plain-x e = rw (ne_eqb q 1 big, ne_eqb s.x 0 e) refl

    pub plain-y : s.x ≡ 0 → (s.y ≡ 0 → ⊥) → false ≡ plain s q
    unfolding plain
    plain-y z e = rw (ne_eqb q 1 big, eq-eqb s.x 0 z, ne_eqb s.y 0 e) refl

    pub plain-filter : s.x ≡ 0 → s.y ≡ 0 → eqb s.filter 0 ≡ plain s q
    unfolding plain
    plain-filter z e = rw (ne_eqb q 1 big, eq-eqb s.x 0 z, eq-eqb s.y 0 e) refl

  abbrev Wide : Bool
  Wide = within 1 max_width s.width

  abbrev High : Bool
  High = within 1 max_height s.height

  abbrev Known : Bool
  Known = is_filter s.filter

  abbrev Deep : Bool
  Deep = within 1 (filter_of s.filter).levels s.levels

  abbrev Stepped : Bool
  Stepped = within 1 max_step q

  pub asks-width : Wide ≡ false → 2 ≡ set_up_number s q
  unfolding set_up_number
  asks-width a = rw a refl

  module _ (wide : Wide ≡ true) where
    pub asks-height : High ≡ false → 3 ≡ set_up_number s q
    unfolding set_up_number
    asks-height a = rw (wide, a) refl

    module _ (high : High ≡ true) where
      pub asks-filter : Known ≡ false → 18 ≡ set_up_number s q
      unfolding set_up_number
      asks-filter a = rw (wide, high, a) refl

      module _ (known : Known ≡ true) where
        pub asks-levels : Deep ≡ false → 4 ≡ set_up_number s q
        unfolding set_up_number
        asks-levels a = rw (wide, high, known, a) refl

        module _ (deep : Deep ≡ true) where
          pub asks-step : Stepped ≡ false → 20 ≡ set_up_number s q
          unfolding set_up_number
          asks-step a = rw (wide, high, known, deep, a) refl

          module _ (step : Stepped ≡ true) where
            pub asks-plain : plain s q ≡ false → 22 ≡ set_up_number s q
            unfolding set_up_number
            asks-plain a = rw (wide, high, known, deep, step, a) refl

            pub asks_nothing : plain s q ≡ true → 0 ≡ set_up_number s q
            unfolding set_up_number
            asks_nothing a = rw (wide, high, known, deep, step, a) refl

  -- a shape and a step that pass
  pub record Passed : Type 0 where
    pub wide : (1 ≤ s.width) × (s.width ≤ max_width)
    pub high : (1 ≤ s.height) × (s.height ≤ max_height)
    pub known : is_filter s.filter ≡ true
    pub deep : (1 ≤ s.levels) × (s.levels ≤ (filter_of s.filter).levels)
    pub step : (1 ≤ q) × (q ≤ max_step)

  pub passed : set_up_number s q ≡ 0 → Passed
  unfolding set_up_number
  passed e =
      let a = ask-passed _ 2 _ (omega arith) e in
      let b = ask-passed _ 3 _ (omega arith) a.1 in
      let c = ask-passed _ 18 _ (omega arith) b.1 in
      let d = ask-passed _ 4 _ (omega arith) c.1 in
      let f = ask-passed _ 20 _ (omega arith) d.1 in
      record {
        wide = within-true 1 max_width s.width a.0;
        high = within-true 1 max_height s.height b.0;
        known = c.0;
        deep = within-true 1 (filter_of s.filter).levels s.levels d.0;
        step = within-true 1 max_step q f.0;
      }

pub passed-plain : (s : Shape) (q : ℕ) → set_up_number s q ≡ 0 → plain s q ≡ true
unfolding set_up_number
passed-plain s q e =
    let a = ask-passed (Wide s q) 2 _ (omega arith) e in
    let b = ask-passed (High s q) 3 _ (omega arith) a.1 in
    let c = ask-passed (Known s q) 18 _ (omega arith) b.1 in
    let d = ask-passed (Deep s q) 4 _ (omega arith) c.1 in
    let f = ask-passed (Stepped s q) 20 _ (omega arith) d.1 in
    (ask-passed (plain s q) 22 0 (omega arith) f.1).0

pub filter-few : (f : ℕ) → is_filter f ≡ true → f ≤ 1
unfolding is_filter
filter-few f e = leb-true f 1 e

step-few : max_step < 256
unfolding max_step
step-few = omega arith

module _ (s : Saver) where
  pub fits-inside : saver_fits s ≡ true → Inside s
  unfolding saver_fits
  fits-inside e =
      let a = halves (eqb (set_up_number s.shape s.step) 0) _ e in
      let b = halves (leb s.phase 3) _ a.1 in
      let c = halves (leb s.group max_width) _ b.1 in
      let d = halves (leb s.part 57) (ltb s.sum prime) c.1 in
      let p = passed s.shape s.step (eqb-true _ _ a.0) in
      record {
        some = p.step.0;
        step = omega (arith, p.step.1, step-few);
        filter = omega (arith, filter-few s.shape.filter p.known);
        levels = omega (arith, p.deep.1, levels-most s.shape.filter, few);
        group = omega (arith, leb-true s.group max_width c.0, width_small);
        sum = ltb-true s.sum prime d.1;
      }
    where
      few : max_levels < 256
      few = unfold max_levels in omega arith

  -- the test of a saver's numbers, one after the other
  pub fits-shape : (n : ℕ) → n ≡ set_up_number s.shape s.step → (n ≡ 0 → ⊥) → false ≡ saver_fits s
  unfolding saver_fits
  fits-shape n e z = rw (← e, ne_eqb n 0 z) refl

  module _ (n : ℕ) (e : n ≡ set_up_number s.shape s.step) (z : n ≡ 0) where
    pub fits-phase : 3 < s.phase → false ≡ saver_fits s
    unfolding saver_fits
    fits-phase a = rw (← e, eq-eqb n 0 z, lt-leb s.phase 3 a) refl

    module _ (phase : s.phase ≤ 3) where
      pub fits-group : max_width < s.group → false ≡ saver_fits s
      unfolding saver_fits
      fits-group a = rw (← e, eq-eqb n 0 z, le-leb s.phase 3 phase, lt-leb s.group max_width a) refl

      module _ (group : s.group ≤ max_width) where
        pub fits-part : 57 < s.part → false ≡ saver_fits s
        unfolding saver_fits
        fits-part a = rw (← e, eq-eqb n 0 z, le-leb s.phase 3 phase, le-leb s.group max_width group, lt-leb s.part 57 a) refl

        pub fits_sum : s.part ≤ 57 → ltb s.sum prime ≡ saver_fits s
        unfolding saver_fits
        fits_sum a = rw (← e, eq-eqb n 0 z, le-leb s.phase 3 phase, le-leb s.group max_width group, le-leb s.part 57 a) refl

  module _ (n : ℕ) where
    pub save-one : saver_fits s ≡ false → 1 ≡ save_number s n
    unfolding save_number
    save-one e = rw e refl

    pub save-five : saver_fits s ≡ true → n < s.shape.width * s.shape.height → 5 ≡ save_number s n
    unfolding save_number
    save-five e h = rw (e, lt-leb (s.shape.width * s.shape.height) n h) refl

    pub save-none : saver_fits s ≡ true → s.shape.width * s.shape.height ≤ n → 0 ≡ save_number s n
    unfolding save_number
    save-none e h = rw (e, le-leb (s.shape.width * s.shape.height) n h) refl

    pub save-fits : save_number s n ≡ 0 → (saver_fits s ≡ true) × (s.shape.width * s.shape.height ≤ n)
    unfolding save_number
    save-fits e =
        let a = ask-passed _ 1 _ (omega arith) e in
        let b = ask-passed _ 5 _ (omega arith) a.1 in
        (a.0, leb-true _ _ b.0)

  -- width times height fits
  pub area_small : saver_fits s ≡ true → s.shape.width * s.shape.height < 2 ^ 64
  unfolding saver_fits max_width max_height
  area_small e =
      let p = passed s.shape s.step (eqb-true _ _ (halves _ _ e).0) in
      let m : s.shape.width * s.shape.height ≤ 2049 * 4294967295 = mul-le-mul p.wide.1 p.high.1 in
      omega arith

-- ---- what a call gives
pub saves-not : (s : Saver) (p : List ℤ) (o : List ℕ) (why : Refusal) → number why ≡ save_number s (length p) → Saves s p o o (of_saved s (Err why))
saves-not s p o why e = record { refused = λ h. (e, refl, refl, refl); done = λ h. absurd (omega (arith, number-above why, e)) }

pub saves-ran : (s : Saver) (p : List ℤ) (o a : List ℕ) (n : ℕ) (r : Saved) → n ≡ save_number s (length p) → n ≡ 0 → Ran s p o a r → Saves s p o a r
saves-ran s p o a n r e z w = record { refused = λ h. absurd (omega (arith, e, z)); done = λ h. w }
