-- The questions, one after another: what each no and each yes says. Assumes nothing.
use mathlib.Core.Path.{◌≡◌, refl, sym, ap, ◌∙◌, ap₂}
use mathlib.Core.List.{List, [], ◌∷◌}
use mathlib.Core.Bool.{Bool, true, false, not}
use Prim.Native.Nat.{ℕ, ◌+◌, ◌*◌, ◌≤◌, ◌<◌, ◌-◌, ◌^◌}
use native.Mathlib.Nat.{mul-le-mul}
use native.Mathlib.Decide.{ℕ_discrete, dec_le}
use native.Mathlib.Omega.{arith}
use lib.IntN.{ℤ}
use lib.Dec.{leb, ltb, eqb}
use borrow.Author.Tests.{le-leb, lt-leb, lt-ltb, le-ltb, eq-eqb, ne_eqb, leb-true, ltb-true, eqb-true}
use Rattle.numbers.specs.Signal.{pick, both}
use Rattle.numbers.proofs.Sweep.{both as halves}
use Rattle.lifting.specs.Grid.{Side, side}
use Rattle.wavelet.specs.Limits.{max_width, max_height, max_levels, max_origin}
use Rattle.wavelet.specs.Questions.{ask, within}
use Rattle.wavelet.proofs.LimitLaws.{width_small, height-small, origin-small}
use Rattle.wavelet.proofs.QuestionLaws.{within-true, within-yes}
use Rattle.wavelet.proofs.StoreLaws.{store-most}
use Rattle.filters.specs.Filters.{filter_of, is_filter}
use Rattle.filters.specs.Figures.{store_by, any_by, streamable}
use Rattle.filters.proofs.FigureLaws.{levels-most, row-few}
use Rattle.calls.proofs.QuestionLaws.{asked-yes, asks-no, asks-yes}
use Rattle.reader.proofs.StoreLaws.{length-is}
use Rattle.reader.specs.declared.Reader.{Reader}
use Rattle.reader.specs.State.{columns, rows, needs, next, next_length, unfinished, row_due, draw_due}
use Rattle.reader.specs.Admission.{Admits}
use Rattle.reader.specs.Questions.{counts_inside, counts_fit, tolerant_fits, admission_fits, stop_fits, store_fits, run_fits}
use Rattle.reader.specs.Questions.{set_up_question, tolerant_question, size_question, stop_and_store, stop_question, level_question}
use Rattle.reader_steps.specs.Sets.{ahead}
use Rattle.reader.specs.Inside.{Counts, Small, store_question, row_question}

both_true : (b : Bool) → both b true ≡ b
both_true true = refl
both_true false = refl

both_false : (b : Bool) → both b false ≡ false
both_false true = refl
both_false false = refl

-- the length that the code asks for, 0 outside the limits
abbrev pub asked : ℕ → Side → ℕ → ℕ
asked f W L = pick (streamable f W L) (store_by f W L) 0

-- the test of the levels as the code makes it, m being the filter's
pub levels-asked : (f m L : ℕ) (t u : Bool) → m ≡ (filter_of f).levels → t ≡ within 1 m L → t ≡ u → within 1 (filter_of f).levels L ≡ u
levels-asked f m L t u em et eu = ap (λ i. within 1 i L) (sym em) ∙ sym et ∙ eu

-- few numbers are spare
pub spare-room : (f j : ℕ) → j ≤ (filter_of f).levels → ((filter_of f).rows * max_width ≤ 2 ^ 16) × (j * ((filter_of f).rows * max_width) ≤ 2 ^ 32)
unfolding max_levels max_width
spare-room f j h =
    let b = row-few f max_width in
    let a = mul-le-mul {n₁ = j} {m₁ = (filter_of f).rows * max_width} {n₂ = 5} {m₂ = 8 * max_width} (omega (arith, h, levels-most f)) b in
    (omega (arith, b), omega (arith, a))

spare-small : (f L j e : ℕ) → j ≤ (filter_of f).levels - L → e ≤ j * ((filter_of f).rows * max_width) → e ≤ 2 ^ 32
spare-small f L j e h p = omega (arith, p, (spare-room f j (omega arith)).1)

-- the test of a stop, r rows being kept and m the filter's levels
pub stop-no : (f L j e m : ℕ) → m ≡ (filter_of f).levels → m - L < j → false ≡ stop_fits f L j e
unfolding stop_fits
stop-no f L j e m em h = rw (lt-leb j ((filter_of f).levels - L) (omega (arith, em)))

pub stop-yes : (f L j e m r : ℕ) → m ≡ (filter_of f).levels → j ≤ m - L → r ≡ (filter_of f).rows → leb e (j * (r * max_width)) ≡ stop_fits f L j e
unfolding stop_fits
stop-yes f L j e m r em h er = rw (le-leb j ((filter_of f).levels - L) (omega (arith, em)), er) refl

-- ---- question 1
module _ (s : Reader) where
  pub counts-1 : within 1 max_width s.width ≡ false → false ≡ counts_inside s
  unfolding counts_inside
  counts-1 a = rw a

  module _ (one : within 1 max_width s.width ≡ true) where
    pub counts-2 : within 1 max_height s.height ≡ false → false ≡ counts_inside s
    unfolding counts_inside
    counts-2 b = rw (one, b)

    module _ (two : within 1 max_height s.height ≡ true) where
      pub counts-f : is_filter s.filter ≡ false → false ≡ counts_inside s
      unfolding counts_inside
      counts-f b = rw (one, two, b)

      pub counts-3 : is_filter s.filter ≡ true → within 1 (filter_of s.filter).levels s.levels ≡ false → false ≡ counts_inside s
      unfolding counts_inside
      counts-3 k b = rw (one, two, k, b)

      module _ (known : is_filter s.filter ≡ true) (three : within 1 (filter_of s.filter).levels s.levels ≡ true) where
        pub counts-x : max_origin < s.x → false ≡ counts_inside s
        unfolding counts_inside
        counts-x h = rw (one, two, known, three, lt-leb s.x max_origin h)

        pub counts-y : s.x ≤ max_origin → max_origin < s.y → false ≡ counts_inside s
        unfolding counts_inside
        counts-y g h = rw (one, two, known, three, le-leb s.x max_origin g, lt-leb s.y max_origin h)

        module _ (across : s.x ≤ max_origin) (down : s.y ≤ max_origin) where
          pub counts-4 : s.height < s.drawn → false ≡ counts_inside s
          unfolding counts_inside
          counts-4 h = rw (one, two, known, three, le-leb s.x max_origin across, le-leb s.y max_origin down, lt-leb s.drawn s.height h)

          pub counts-5 : s.drawn ≤ s.height → s.levels < s.level → false ≡ counts_inside s
          unfolding counts_inside
          counts-5 g h = rw (
            one,
            two,
            known,
            three,
            le-leb s.x max_origin across,
            le-leb s.y max_origin down,
            le-leb s.drawn s.height g,
            lt-leb s.level s.levels h,
          )

          pub counts-6 : s.drawn ≤ s.height → s.level ≤ s.levels → 4 < s.band → false ≡ counts_inside s
          unfolding counts_inside
          counts-6 g h b = rw (
            one,
            two,
            known,
            three,
            le-leb s.x max_origin across,
            le-leb s.y max_origin down,
            le-leb s.drawn s.height g,
            le-leb s.level s.levels h,
            lt-leb s.band 4 b,
          )

          pub counts-7 : s.drawn ≤ s.height → s.level ≤ s.levels → s.band ≤ 4 → leb s.back (2 * ahead s.filter - 1) ≡ counts_inside s
          unfolding counts_inside
          counts-7 g h b = rw (
            one,
            two,
            known,
            three,
            le-leb s.x max_origin across,
            le-leb s.y max_origin down,
            le-leb s.drawn s.height g,
            le-leb s.level s.levels h,
            le-leb s.band 4 b,
          )

  pub inside-levels : counts_inside s ≡ true → s.levels ≤ (filter_of s.filter).levels
  unfolding counts_inside
  inside-levels e =
      let a = halves (within 1 max_width s.width) _ e in
      let b = halves (within 1 max_height s.height) _ a.1 in
      let k = halves (is_filter s.filter) _ b.1 in
      (within-true 1 (filter_of s.filter).levels s.levels (halves (within 1 (filter_of s.filter).levels s.levels) _ k.1).0).1

  -- the stop and the admission as well
  abbrev stop-test : Bool
  stop-test = stop_fits s.filter s.levels s.stop s.spare

  counts_all : (t u v : Bool) → counts_inside s ≡ t → stop-test ≡ u → admission_fits s ≡ v → both t (both u v) ≡ counts_fit s
  unfolding counts_fit
  counts_all t u v a b c = (λ i. both (sym a i) (both (sym b i) (sym c i)))

  -- without a stop nothing is spare; with one it is a strict reader
  stopless : s.stop ≡ 0 → stop-test ≡ eqb s.spare 0
  unfolding stop_fits
  stopless e = elim (ℕ_discrete s.spare 0) [
    | yes z ↦ rw (
      e,
      le-leb 0 ((filter_of s.filter).levels - s.levels) (omega arith),
      z,
      le-leb 0 (0 * ((filter_of s.filter).rows * max_width)) (omega arith),
    ) refl
    | no z ↦ rw (
      e,
      le-leb 0 ((filter_of s.filter).levels - s.levels) (omega arith),
      ne_eqb s.spare 0 z,
      lt-leb s.spare (0 * ((filter_of s.filter).rows * max_width)) (omega (arith, z)),
    ) refl
  ]

  pub admission-0 : s.admission ≡ 0 → admission_fits s ≡ true
  unfolding admission_fits
  admission-0 e = rw (eq-eqb s.admission 0 e) refl

  module _ (other : s.admission ≡ 0 → ⊥) where
    tolerant-asks : tolerant_fits s ≡ admission_fits s
    unfolding admission_fits
    tolerant-asks = rw (ne_eqb s.admission 0 other) refl

    -- each test that fails, and the last
    pub tolerant-other : (s.admission ≡ 1 → ⊥) → false ≡ admission_fits s
    tolerant-other d = sym (sym tolerant-asks ∙ rw (ne_eqb s.admission 1 d) refl)

    module _ (one : s.admission ≡ 1) where
      pub tolerant-ended : s.ended ≡ true → false ≡ admission_fits s
      tolerant-ended e = sym (sym tolerant-asks ∙ rw (eq-eqb s.admission 1 one, e) refl)

      module _ (live : s.ended ≡ false) where
        pub tolerant-x : (s.x ≡ 0 → ⊥) → false ≡ admission_fits s
        tolerant-x d = sym (sym tolerant-asks ∙ rw (eq-eqb s.admission 1 one, live, ne_eqb s.x 0 d) refl)

        module _ (left : s.x ≡ 0) where
          pub tolerant-y : (s.y ≡ 0 → ⊥) → false ≡ admission_fits s
          tolerant-y d = sym (sym tolerant-asks ∙ rw (eq-eqb s.admission 1 one, live, eq-eqb s.x 0 left, ne_eqb s.y 0 d) refl)

          pub tolerant-last : s.y ≡ 0 → s.stop ≡ 0 → eqb s.filter 0 ≡ admission_fits s
          tolerant-last top e = sym (
              sym tolerant-asks
              ∙ rw (eq-eqb s.admission 1 one, live, eq-eqb s.x 0 left, eq-eqb s.y 0 top, eq-eqb s.stop 0 e) (both_true (eqb s.filter 0))
              )

    tolerant-stop : (s.stop ≡ 0 → ⊥) → admission_fits s ≡ false
    tolerant-stop d =
        sym tolerant-asks
        ∙ go (eqb s.admission 1) (not s.ended) (eqb s.x 0) (eqb s.y 0) (eqb s.filter 0) (eqb s.stop 0) (ne_eqb s.stop 0 d)
      where
        go : (a b c e f g : Bool) → g ≡ false → both a (both b (both c (both e (both f g)))) ≡ false
        go true true true true true g h = h
        go true true true true false g h = refl
        go true true true false f g h = refl
        go true true false e f g h = refl
        go true false c e f g h = refl
        go false b c e f g h = refl

  -- the tests in the code's order
  pub counts-outside : counts_inside s ≡ false → false ≡ counts_fit s
  counts-outside e = counts_all false _ _ e refl refl

  module _ (inside : counts_inside s ≡ true) where
    pub counts-spare : s.stop ≡ 0 → (s.spare ≡ 0 → ⊥) → false ≡ counts_fit s
    counts-spare e d = counts_all true false _ inside (stopless e ∙ ne_eqb s.spare 0 d) refl

    pub counts-stopless : s.stop ≡ 0 → s.spare ≡ 0 → admission_fits s ≡ counts_fit s
    counts-stopless e z = counts_all true true _ inside (stopless e ∙ eq-eqb s.spare 0 z) refl

    pub counts-stopped : (s.stop ≡ 0 → ⊥) → (s.admission ≡ 0 → ⊥) → false ≡ counts_fit s
    counts-stopped d other = sym (both_false stop-test) ∙ counts_all true stop-test false inside refl (tolerant-stop other d)

    pub counts-strict : s.admission ≡ 0 → stop-test ≡ counts_fit s
    counts-strict e = sym (both_true stop-test) ∙ counts_all true stop-test true inside refl (admission-0 e)

  -- what it says of a tolerant reader, and what it asks
  pub admission-in : admission_fits s ≡ true → Admits s.admission s.filter s.stop (columns s) (rows s) × (0 < s.admission → s.ended ≡ false)
  admission-in all = (λ h. (parts h).0, λ h. (parts h).1)
    where
      no_end : (b : Bool) → not b ≡ true → b ≡ false
      no_end true e = sym e
      no_end false e = refl

      parts : 0 < s.admission →
          ((s.admission ≡ 1) × (s.filter ≡ 0) × (s.stop ≡ 0) × (s.x ≡ 0) × (s.y ≡ 0)) × (s.ended ≡ false)
      parts h =
          let a = halves (eqb s.admission 1) _ (tolerant-asks (λ e. omega arith) ∙ all) in
          let b = halves (not s.ended) _ a.1 in
          let c = halves (eqb s.x 0) _ b.1 in
          let d = halves (eqb s.y 0) _ c.1 in
          let e = halves (eqb s.filter 0) _ d.1 in
          ((eqb-true _ _ a.0, eqb-true _ _ e.0, eqb-true _ _ e.1, eqb-true _ _ c.0, eqb-true _ _ d.0), no_end s.ended b.0)

  pub admission-yes : Admits s.admission s.filter s.stop (columns s) (rows s) → (0 < s.admission → s.ended ≡ false) → admission_fits s ≡ true
  admission-yes is goes = elim (ℕ_discrete s.admission 0) [
    | yes z ↦ admission-0 z
    | no z ↦
        let a = is (omega (arith, z)) in
        sym (tolerant-asks z) ∙ rw (
          eq-eqb s.admission 1 a.0,
          goes (omega (arith, z)),
          eq-eqb s.x 0 a.3,
          eq-eqb s.y 0 a.4,
          eq-eqb s.filter 0 a.1,
          eq-eqb s.stop 0 a.2,
        ) refl
  ]

  pub counts-in : counts_fit s ≡ true → Counts s
  unfolding counts_fit counts_inside stop_fits
  counts-in all =
      let z = halves (counts_inside s) _ all in
      let e = z.0 in
      let v' = halves (stop_fits s.filter s.levels s.stop s.spare) _ z.1 in
      let y = halves (leb s.stop ((filter_of s.filter).levels - s.levels)) _ v'.0 in
      let a = halves (within 1 max_width s.width) _ e in
      let b = halves (within 1 max_height s.height) _ a.1 in
      let k = halves (is_filter s.filter) _ b.1 in
      let c = halves (within 1 (filter_of s.filter).levels s.levels) _ k.1 in
      let u = halves (leb s.x max_origin) _ c.1 in
      let v = halves (leb s.y max_origin) _ u.1 in
      let f = halves (leb s.drawn s.height) _ v.1 in
      let g = halves (leb s.level s.levels) _ f.1 in
      let b' = halves (leb s.band 4) _ g.1 in
      record {
        wide = within-true 1 max_width s.width a.0;
        high = within-true 1 max_height s.height b.0;
        known = k.0;
        deep = within-true 1 (filter_of s.filter).levels s.levels c.0;
        few = omega (arith, (within-true 1 (filter_of s.filter).levels s.levels c.0).1, levels-most s.filter);
        across = leb-true _ _ u.0;
        down = leb-true _ _ v.0;
        drew = leb-true _ _ f.0;
        at = leb-true _ _ g.0;
        next = leb-true _ _ b'.0;
        behind = leb-true _ _ b'.1;
        stops = omega (
          arith,
          leb-true s.stop ((filter_of s.filter).levels - s.levels) y.0,
          within-true 1 (filter_of s.filter).levels s.levels
              c.0,
        );
        spares = spare-small s.filter s.levels s.stop s.spare (leb-true _ _ y.0) (leb-true _ _ y.1);
        admits = (admission-in v'.1).0;
        goes = (admission-in v'.1).1;
      }

  pub counts-length : Counts s → (m : ℕ) → m ≡ asked s.filter (columns s) s.levels → m ≡ store_by s.filter (columns s) s.levels
  counts-length c m e = e ∙ length-is s.filter (columns s) s.levels c.known (within-yes 1 max_width s.width c.wide.0 c.wide.1)
      (within-yes 1 (filter_of s.filter).levels s.levels c.deep.0 c.deep.1)

  pub counts-streams : Counts s → streamable s.filter (columns s) s.levels ≡ true
  unfolding streamable
  counts-streams c = rw (
    c.known,
    within-yes 1 max_width s.width c.wide.0 c.wide.1,
    within-yes 1 (filter_of s.filter).levels s.levels c.deep.0 c.deep.1,
  ) refl

  pub counts-small : Counts s → Small (columns s) (rows s) s.drawn
  counts-small c =
      let w = c.wide in
      let h = c.high in
      let d = c.drew in
      let x = c.across in
      let y = c.down in
      (omega (arith, width_small), omega (arith, origin-small), omega (arith, height-small), omega (arith, origin-small), omega arith)

-- ---- the set-up
module _ (f : ℕ) (W H : Side) (L n : ℕ) where
  -- a set-up that passes
  pub up_in : set_up_question f W H L n ≡ 0 →
      (within 1 max_width W.length ≡ true) × (within 1 (filter_of f).levels L ≡ true) × (store_by f W L ≤ n) × (within 1 max_height H.length ≡ true)
      × (is_filter f ≡ true)
  unfolding set_up_question store_fits
  up_in e =
      let a = asked-yes (within 1 max_width W.length) 1 _ e in
      let b = asked-yes (within 1 max_height H.length) 2 _ a.1 in
      let k = asked-yes (is_filter f) 17 _ b.1 in
      let c = asked-yes (within 1 (filter_of f).levels L) 3 _ k.1 in
      let d = asked-yes (leb (store_by f W L) n) 4 _ c.1 in
      (a.0, c.0, leb-true _ _ d.0, b.0, k.0)

-- ---- 2, 3, 18 and 4
module _ (f w h L : ℕ) where
  pub size-2 : within 1 max_width w ≡ false → 2 ≡ size_question f w h L
  unfolding size_question
  size-2 a = rw a

  module _ (one : within 1 max_width w ≡ true) where
    pub size-3 : within 1 max_height h ≡ false → 3 ≡ size_question f w h L
    unfolding size_question
    size-3 b = rw (one, b)

    module _ (two : within 1 max_height h ≡ true) where
      pub size-18 : is_filter f ≡ false → 18 ≡ size_question f w h L
      unfolding size_question
      size-18 b = rw (one, two, b)

      pub size-4 : is_filter f ≡ true → within 1 (filter_of f).levels L ≡ false → 4 ≡ size_question f w h L
      unfolding size_question
      size-4 k b = rw (one, two, k, b)

      pub size-0 : is_filter f ≡ true → within 1 (filter_of f).levels L ≡ true → 0 ≡ size_question f w h L
      unfolding size_question
      size-0 k b = rw (one, two, k, b)

-- ---- a set-up with a stop j
both-asked : (a b : Bool) → stop_and_store a b ≡ 0 → (a ≡ true) × (b ≡ true)
unfolding stop_and_store
both-asked true true e = (refl, refl)
both-asked true false e = absurd (omega arith)
both-asked false true e = absurd (omega arith)
both-asked false false e = absurd (omega arith)

-- 17 before 5
first_asked : (a b : Bool) (q : ℕ) → q ≡ ask a 17 0 → (q ≡ 0 → ⊥) → q ≡ stop_and_store a b
unfolding stop_and_store
first_asked true b q e away = absurd (away e)
first_asked false b q e away = e

second_asked : (a b : Bool) → 0 ≡ ask a 17 0 → ask b 5 0 ≡ stop_and_store a b
unfolding stop_and_store
second_asked true b e = refl
second_asked false b e = absurd (omega arith)

module _ (f : ℕ) (W H : Side) (L j n : ℕ) where
  abbrev stop_asks : List (Bool × ℕ)
  stop_asks = (within 1 max_width W.length, 1) ∷ (within 1 max_height H.length, 2) ∷ (is_filter f, 17) ∷ (within 1 (filter_of f).levels L, 3) ∷ []

  pub stop-sizes : (q : ℕ) → q ≡ size_question f W.length H.length L → (q ≡ 0 → ⊥) → q ≡ stop_question f W H L j n
  unfolding size_question stop_question
  stop-sizes q e away = e ∙ asks-no stop_asks _ (λ z. away (e ∙ z))

  module _ (sizes : size_question f W.length H.length L ≡ 0) where
    rest-is : stop_and_store (within 1 L j) (store_fits (store_by f W L) n) ≡ stop_question f W H L j n
    unfolding size_question stop_question
    rest-is = asks-yes stop_asks _ sizes

    pub size_in : (within 1 max_width W.length ≡ true) × (within 1 max_height H.length ≡ true) × (is_filter f ≡ true)
        × (within 1 (filter_of f).levels L ≡ true)
    unfolding size_question
    size_in =
        let a = asked-yes (within 1 max_width W.length) 1 _ sizes in
        let b = asked-yes (within 1 max_height H.length) 2 _ a.1 in
        let k = asked-yes (is_filter f) 17 _ b.1 in
        (a.0, b.0, k.0, (asked-yes (within 1 (filter_of f).levels L) 3 _ k.1).0)

    -- the level, and then the store's length by the code
    pub stop-level : (q : ℕ) → q ≡ ask (within 1 L j) 17 0 → (q ≡ 0 → ⊥) → q ≡ stop_question f W H L j n
    stop-level q e away = first_asked (within 1 L j) (store_fits (store_by f W L) n) q e away ∙ rest-is

    pub stop-room : 0 ≡ ask (within 1 L j) 17 0 → ask (leb (asked f W L) n) 5 0 ≡ stop_question f W H L j n
    unfolding store_fits
    stop-room e =
        ap (λ (k : ℕ). ask (leb k n) 5 0) (length-is f W L size_in.2 size_in.0 size_in.3)
        ∙ second_asked (within 1 L j) (store_fits (store_by f W L) n) e ∙ rest-is

    -- without a stop
    pub up-room : ask (leb (asked f W L) n) 5 0 ≡ set_up_question f W H L n
    unfolding size_question set_up_question store_fits
    up-room =
        ap (λ (k : ℕ). ask (leb k n) 5 0) (length-is f W L size_in.2 size_in.0 size_in.3) ∙ asks-yes stop_asks _ sizes

  pub up-sizes : (q : ℕ) → q ≡ size_question f W.length H.length L → (q ≡ 0 → ⊥) → q ≡ set_up_question f W H L n
  unfolding size_question set_up_question
  up-sizes q e away = e ∙ asks-no stop_asks _ (λ z. away (e ∙ z))

  -- one that passes
  pub stop-in : stop_question f W H L j n ≡ 0 →
      (within 1 max_width W.length ≡ true) × (within 1 max_height H.length ≡ true) × (is_filter f ≡ true) × (within 1 (filter_of f).levels L ≡ true)
      × (within 1 L j ≡ true) × (store_by f W L ≤ n)
  unfolding stop_question store_fits
  stop-in e =
      let a = asked-yes (within 1 max_width W.length) 1 _ e in
      let b = asked-yes (within 1 max_height H.length) 2 _ a.1 in
      let k = asked-yes (is_filter f) 17 _ b.1 in
      let c = asked-yes (within 1 (filter_of f).levels L) 3 _ k.1 in
      let d = both-asked (within 1 L j) (leb (store_by f W L) n) c.1 in
      (a.0, b.0, k.0, c.0, d.0, leb-true _ _ d.1)

-- ---- the size of a level
module _ (f w h L k : ℕ) where
  abbrev size_asks : List (Bool × ℕ)
  size_asks = (within 1 max_width w, 1) ∷ (within 1 max_height h, 2) ∷ (is_filter f, 17) ∷ (within 1 (filter_of f).levels L, 3) ∷ []

  pub level-sizes : (q : ℕ) → q ≡ size_question f w h L → (q ≡ 0 → ⊥) → q ≡ level_question f w h L k
  unfolding size_question level_question
  level-sizes q e away = e ∙ asks-no size_asks _ (λ z. away (e ∙ z))

  module _ (sizes : size_question f w h L ≡ 0) where
    pub level-is : ask (within 1 L k) 17 0 ≡ level_question f w h L k
    unfolding size_question level_question
    level-is = asks-yes size_asks _ sizes

-- ---- a tolerant reader's set-up asks as one of the 5/3 from the origin on
pub tolerant-is : (w h L n : ℕ) → set_up_question 0 (side 0 w) (side 0 h) L n ≡ tolerant_question w h L n
unfolding set_up_question tolerant_question is_filter
tolerant-is w h L n = refl

-- ---- questions 5 and 9
module _ (s : Reader) (n : ℕ) where
  pub store-5 : store_fits (needs s) n ≡ false → 5 ≡ store_question s n
  unfolding store_question
  store-5 h = rw h

  module _ (two : store_fits (needs s) n ≡ true) where
    pub store-9 : s.ended ≡ true → 9 ≡ store_question s n
    unfolding store_question
    store-9 f = rw (two, f)

    pub store-0 : s.ended ≡ false → 0 ≡ store_question s n
    unfolding store_question
    store-0 f = rw (two, f)

  -- question 5 by the most that a store needs, and by what this one needs
  module _ (counts : Counts s) where
    pub store-any : both (leb s.width max_width) (leb (any_by s.filter s.width) n) ≡ true → true ≡ store_fits
        (store_by s.filter (columns s) s.levels) n
    unfolding store_fits
    store-any h =
        let room = leb-true (any_by s.filter s.width) n (halves (leb s.width max_width) _ h).1 in
        let most = store-most (filter_of s.filter).rows (columns s) s.levels counts.few in
        sym (le-leb (store_by s.filter (columns s) s.levels) n (omega (arith, room, most)))

    pub store-own : (m : ℕ) → m ≡ asked s.filter (columns s) s.levels → leb m n ≡ store_fits (store_by s.filter (columns s) s.levels) n
    unfolding store_fits
    store-own m e = ap (λ (i : ℕ). leb i n) (counts-length s counts m e)

  -- the spare numbers first
  pub store-less : n < s.spare → false ≡ store_fits (needs s) n
  unfolding store_fits
  store-less h = sym (lt-leb (needs s) n (omega arith))

  pub store-past : s.spare ≤ n → store_fits (store_by s.filter (columns s) s.levels) (n - s.spare) ≡ store_fits (needs s) n
  unfolding store_fits
  store-past h = elim (dec_le (needs s) n) [
    | yes p ↦ le-leb (store_by s.filter (columns s) s.levels) (n - s.spare) (omega arith) ∙ sym (le-leb (needs s) n p)
    | no p ↦ lt-leb (store_by s.filter (columns s) s.levels) (n - s.spare) (omega arith) ∙ sym (lt-leb (needs s) n (omega arith))
  ]

  pub store_in : counts_fit s ≡ true → store_question s n ≡ 0 → Counts s × (store_by s.filter (columns s) s.levels ≤ n) × (s.ended ≡ false) × (needs s ≤ n)
  unfolding store_question store_fits
  store_in fit e = go (leb (needs s) n) s.ended refl refl e
    where
      go : (b c : Bool) → leb (needs s) n ≡ b → s.ended ≡ c → ask b 5 (ask (not c) 9 0) ≡ 0 →
          Counts s × (store_by s.filter (columns s) s.levels ≤ n) × (s.ended ≡ false) × (needs s ≤ n)
      go true false eb ec e = let p = leb-true (needs s) n eb in (counts-in s fit, omega (arith, p), ec, p)
      go true true eb ec e = absurd (omega arith)
      go false c eb ec e = absurd (omega arith)

-- ---- questions 8, 13 and 7
module _ (s : Reader) (m : ℕ) (v : ℕ → ℤ) where
  pub row-done : s.height ≤ s.drawn → 8 ≡ row_question s m v
  unfolding row_question row_due unfinished
  row-done h = rw (le-ltb s.drawn s.height h)

  module _ (more : s.drawn < s.height) where
    pub row-draw : (next s).level ≡ 0 → 8 ≡ row_question s m v
    unfolding row_question row_due unfinished
    row-draw e = rw (lt-ltb s.drawn s.height more, le-ltb 0 (next s).level (omega arith))

    module _ (some : 0 < (next s).level) where
      pub row-13 : (m ≡ next_length s → ⊥) → 13 ≡ row_question s m v
      unfolding row_question row_due unfinished
      row-13 e = rw (lt-ltb s.drawn s.height more, lt-ltb 0 (next s).level some, ne_eqb m (next_length s) e)

      module _ (long : m ≡ next_length s) where
        pub row-7 : run_fits s.filter (s.stop + (next s).level) m v ≡ false → 7 ≡ row_question s m v
        unfolding row_question row_due unfinished
        row-7 e = rw (lt-ltb s.drawn s.height more, lt-ltb 0 (next s).level some, eq-eqb m (next_length s) long, e)

        pub row-0 : run_fits s.filter (s.stop + (next s).level) m v ≡ true → 0 ≡ row_question s m v
        unfolding row_question row_due unfinished
        row-0 e = rw (lt-ltb s.drawn s.height more, lt-ltb 0 (next s).level some, eq-eqb m (next_length s) long, e)

  pub row-asked : row_question s m v ≡ 0 → (0 < (next s).level) × (m ≡ next_length s)
  unfolding row_question row_due
  row-asked e = go (unfinished s) (ltb 0 (next s).level) (eqb m (next_length s)) refl refl e
    where
      go : (a b c : Bool) → ltb 0 (next s).level ≡ b → eqb m (next_length s) ≡ c →
          ask (both a b) 8 (ask c 13 (ask (run_fits s.filter (s.stop + (next s).level) m v) 7 0)) ≡ 0 →
          (0 < (next s).level) × (m ≡ next_length s)
      go true true true eb ec e = (ltb-true _ _ eb, eqb-true _ _ ec)
      go true true false eb ec e = absurd (omega arith)
      go true false c eb ec e = absurd (omega arith)
      go false b c eb ec e = absurd (omega arith)

-- ---- whether a height row can be drawn
module _ (s : Reader) where
  pub due-done : s.height ≤ s.drawn → false ≡ draw_due s
  unfolding draw_due unfinished
  due-done h = rw (le-ltb s.drawn s.height h)

  pub due-is : s.drawn < s.height → eqb (next s).level 0 ≡ draw_due s
  unfolding draw_due unfinished
  due-is h = rw (lt-ltb s.drawn s.height h)

  pub due_in : draw_due s ≡ true → (s.drawn < s.height) × ((next s).level ≡ 0)
  unfolding draw_due unfinished
  due_in e = let a = halves (ltb s.drawn s.height) _ e in (ltb-true _ _ a.0, eqb-true _ _ a.1)
