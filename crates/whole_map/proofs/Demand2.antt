-- Demand 2 for the whole map that starts anywhere on the grid, for each filter f, over the definitions that the contracts of `forward` and `backward` cite.
-- Document 02, Q-8: "demands 2 and 3 hold for each".
--     forward-gives        the plane that forward leaves is the map's: the filter's whole numbers, at every place
--     backward-gives       backward answers 0 and leaves this map exactly where the plane is this map's
--     backward-passes      it answers 0 exactly where some map has the plane, and only one map has it (`one_map`)
--     backward-refuses     it answers 7 or 14 exactly where no map has the plane
--     there_and_back       from the plane that forward leaves of a map, backward gives this map
-- Proved from the theorems of maps and planes (wavelet's MapTheorems). Assumes nothing.
use mathlib.Core.Path.{◌≡◌, refl, sym, ap, ◌∙◌}
use mathlib.Core.Bool.{Bool, true, false}
use mathlib.Core.Logic.{◌↔◌}
use Prim.Native.Nat.{ℕ, ◌*◌, ◌<◌}
use native.Mathlib.Nat.{mul_comm}
use native.Mathlib.Omega.{arith}
use lib.IntN.{ℤ}
use Rattle.numbers.specs.Word.{wrap32, whole}
use Rattle.lifting.specs.Halves.{fronted}
use Rattle.lifting.specs.Grid.{Side}
use Rattle.filters.specs.Filters.{filter_of}
use Rattle.areas.proofs.AreaLaws.{front_at}
use Rattle.wavelet.specs.Questions.{ask}
use Rattle.wavelet.specs.Bands.{Grid}
use Rattle.wavelet.specs.Plane.{cells, flat, plane_cell, plane_of, map_back}
use Rattle.wavelet.specs.Maps.{IsMap, HasPlane, in-range, rebuilt_fits}
use Rattle.wavelet.proofs.GridLaws.{place-below, flat-at}
use Rattle.wavelet.proofs.LevelTheory.{Same}
use Rattle.wavelet.proofs.MapTheorems.{some_map, one_map, back-exactly}
use Rattle.map_questions.specs.Calls.{forward_question, plane_questions, backward_question, passed, rebuilt}
use Rattle.filters.proofs.Filters.{filter-laws}
use Rattle.map_levels.proofs.TestLaws.{false-true}
use Rattle.map_questions.proofs.QuestionLaws.{Roomy, roomy-is, asked-on, passed-yes, rebuilt-yes}

-- the cells of an area with a map or a plane at its front
front-cells : (W H : ℕ) (Q : Grid) (h : ℕ → ℤ) (r c : ℕ) → r < H → c < W → cells W (fronted (W * H) (flat W Q) h) r c ≡ Q r c
unfolding cells
front-cells W H Q h r c rh cw =
    front_at (W * H) (flat W Q) h _ (rw (mul_comm W H) (place-below W H r c rh cw)) ∙ flat-at W Q r c cw

-- the answer to 7 and 14
pub data SevenOrFourteen (q : ℕ) : Type 0 where
  seven : q ≡ 7 → SevenOrFourteen q
  fourteen : q ≡ 14 → SevenOrFourteen q

passes : (p q : Bool) → ask p 7 (ask q 14 0) ≡ 0 ↔ (p ≡ true) × (q ≡ true)
passes true true = (λ e. (refl, refl), λ e. refl)
passes true false = (λ e. absurd (omega arith), λ e. absurd (false-true e.1))
passes false q = (λ e. absurd (omega arith), λ e. absurd (false-true e.0))

refuses : (p q : Bool) → SevenOrFourteen (ask p 7 (ask q 14 0)) ↔ (ask p 7 (ask q 14 0) ≡ 0 → ⊥)
refuses true true = (λ s n. elim s [ seven e ↦ omega arith | fourteen e ↦ omega arith ], λ n. absurd (n refl))
refuses true false = (λ s n. omega arith, λ n. fourteen refl)
refuses false q = (λ s n. omega arith, λ n. seven refl)

-- a map of the columns W and the rows H at L levels, in areas of a, b and c numbers that pass questions 2, 3, 18, 4 and 5 of the filter f
module _ (f : ℕ) (W H : Side) (L a b c : ℕ) (pass : forward_question f W H L a b c ≡ 0) where
  abbrev w : ℕ
  w = W.length

  abbrev h : ℕ
  h = H.length

  room : Roomy f w h L a b c
  unfolding forward_question
  room = roomy-is f w h L a b c pass

  -- z is the plane's area before the call
  pub forward-gives : (g : Grid) (z : ℕ → ℤ) → IsMap w h g
      → HasPlane (filter_of f) L W H g (cells w (passed (forward_question f W H L a b c) (w * h) (plane_of (filter_of f) whole L W H g) z))
  unfolding plane_of
  forward-gives g z m =
      record {
        map = m;
        coefficients = λ r c rh cw.
            ap (λ (u : ℕ → ℤ). cells w u r c) (passed-yes (w * h) (plane_of (filter_of f) whole L W H g) z _ pass)
            ∙ front-cells w h (plane_cell (filter_of f) whole L W H g) z r c rh cw;
      }

  -- x is the plane, y the heights' area before the call
  module _ (x : Grid) (y : ℕ → ℤ) where
    abbrev answer : ℕ
    answer = backward_question f W H L a b c x

    abbrev heights_after : ℕ → ℤ
    heights_after = rebuilt answer (w * h) (flat w (map_back (filter_of f) wrap32 L W H x)) y

    answer-is : answer ≡ ask (in-range (filter_of f) L W H x) 7 (ask (rebuilt_fits (filter_of f) 0 L W H x) 14 0)
    unfolding forward_question backward_question plane_questions
    answer-is = asked-on f w h L a b c _ pass

    asked : answer ≡ 0 ↔ (in-range (filter_of f) L W H x ≡ true) × (rebuilt_fits (filter_of f) 0 L W H x ≡ true)
    asked = let p = passes (in-range (filter_of f) L W H x) (rebuilt_fits (filter_of f) 0 L W H x) in (λ e. p.0 (sym answer-is ∙ e), λ e. answer-is ∙ p.1 e)

    -- what stands in the heights' area after a call that passes
    left : answer ≡ 0 → Same W H (cells w heights_after) (map_back (filter_of f) wrap32 L W H x)
    left e r c rh cw =
        ap (λ (q : ℕ). cells w (rebuilt q (w * h) (flat w (map_back (filter_of f) wrap32 L W H x)) y) r c) e
        ∙ ap (λ (u : ℕ → ℤ). cells w u r c) (rebuilt-yes (w * h) (flat w (map_back (filter_of f) wrap32 L W H x)) y)
        ∙ front-cells w h (map_back (filter_of f) wrap32 L W H x) y r c rh cw

    pub backward-gives : (g : Grid) → HasPlane (filter_of f) L W H g x ↔ (answer ≡ 0) × Same W H (cells w heights_after) g
    backward-gives g =
        let s = room in
        let m = back-exactly (filter_of f) (filter-laws f) L W H g x s.size.levels.0 s.few in (
          λ has.
              let k = m.0 has in
              let e = asked.1 (k.0, k.1) in
              (e, λ r c rh cw. left e r c rh cw ∙ k.2 r c rh cw),
          λ k.
              let t = asked.0 k.0 in
              m.1 (t.0, t.1, λ r c rh cw. sym (left k.0 r c rh cw) ∙ k.1 r c rh cw),
        )

    pub backward-passes : answer ≡ 0 ↔ (g : Grid) × HasPlane (filter_of f) L W H g x
    backward-passes =
        let s = room in
        let m = some_map (filter_of f) (filter-laws f) L W H x s.size.levels.0 s.few in
        (λ e. m.0 (asked.0 e), λ k. asked.1 (m.1 k))

    pub one-map-only : (g g' : Grid) → HasPlane (filter_of f) L W H g x → HasPlane (filter_of f) L W H g' x → Same W H g g'
    one-map-only g g' = one_map (filter_of f) (filter-laws f) L W H g g' x room.few

    pub backward-refuses : SevenOrFourteen answer ↔ ((g : Grid) → HasPlane (filter_of f) L W H g x → ⊥)
    backward-refuses =
        let r = refuses (in-range (filter_of f) L W H x) (rebuilt_fits (filter_of f) 0 L W H x) in (
          λ s g has. r.0 (rw answer-is at s) (sym answer-is ∙ backward-passes.1 (g, has)),
          λ n. rw answer-is (r.1 (λ e. let m = backward-passes.0 (answer-is ∙ e) in n m.0 m.1)),
        )

  pub there_and_back : (g : Grid) (z y : ℕ → ℤ) → IsMap w h g →
      let x = cells w (passed (forward_question f W H L a b c) (w * h) (plane_of (filter_of f) whole L W H g) z) in
      (answer x y ≡ 0) × Same W H (cells w (heights_after x y)) g
  there_and_back g z y m =
      let x = cells w (passed (forward_question f W H L a b c) (w * h) (plane_of (filter_of f) whole L W H g) z) in
      (backward-gives x y g).0 (forward-gives g z m)
